-- What the lap of a core's word says of its frame and channel.
use Rattle.mix_core.specs.Prelude.{arith, get_or, inl, inr, subst, sym, ℕ, ◌+◌, ◌<◌, ◌≡◌, ◌≢◌, ◌≤◌, cases_lt, nat_tests, Geometry, div-lt_same, first_free, lap}
use Rattle.mix_core.specs.Prelude.{word_index, lap_of, IsNow, IsSound, View, word_at, now_of, word_places}

-- the word of a frame and channel that were taken has a later lap
pub word-late : (v : View) (f c : ℕ) → IsSound v → c < v.geometry.channels → f < first_free v.next c → lap v.geometry f < lap_of (word_at v f c)
word-late v f c s in_range before =
    let g : Geometry = v.geometry in
    let now_at = now_of g (word_index g) _ (word_places g) v.next f c in_range in
    let later : lap g f < lap g now_at.0 = div-lt_same g.frames f now_at.0 (sym now_at.2) (omega (arith, now_at.1.low)) in
    let of_lap : lap_of (word_at v f c) ≡ lap g now_at.0 = subst (λ i. lap_of (get_or v.words i 0) ≡ lap g now_at.0) now_at.3 (s.words_now now_at.0 c now_at.1).of_lap in
    omega (arith, later, of_lap)

-- a word with its frame's lap is not taken, and one with another lap is
pub untaken-by_lap : (v : View) (f c : ℕ) → IsSound v → c < v.geometry.channels → lap_of (word_at v f c) ≡ lap v.geometry f → first_free v.next c ≤ f
untaken-by_lap v f c s in_range same =
    elim (cases_lt f (first_free v.next c)) [
      | inl before ↦ absurd (omega (arith, word-late v f c s in_range before, same))
      | inr not_before ↦ not_before
    ]

pub taken-by_lap : (v : View) (f c : ℕ) → IsSound v → c < v.geometry.channels → f < v.position + v.geometry.frames → lap_of (word_at v f c) ≢ lap v.geometry f → f < first_free v.next c
taken-by_lap v f c s in_range ahead other = grind (arith, nat_tests)

-- a frame that is not taken and less than the ring's length past the position is one that the ring has now
pub IsNow-of : (v : View) (f c : ℕ) → IsSound v → c < v.geometry.channels → first_free v.next c ≤ f → f < v.position + v.geometry.frames → IsNow v.geometry v.next f c
IsNow-of v f c s in_range not_before ahead = record { channel = in_range; low = not_before; high = grind (arith, nat_tests, s.position_most) }
