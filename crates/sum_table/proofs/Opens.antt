-- A new ring meets the rule.
use Rattle.sum_table.specs.Prelude.{ap, arith, false, length, List, map, pos, refl, set, subst, sym, ℕ, [], ◌-◌, ◌∙◌, ◌∷◌, ◌≡◌, ◌≤◌, replicate, nat_tests, ints}
use Rattle.sum_table.specs.Prelude.{get_or-replicate, get_or-set_same, length-replicate, length-set, opening, get_elem?, some, some-ne-none, Geometry, Cursor}
use Rattle.sum_table.specs.Prelude.{first_frame, first_free, lap, word_of, StandsFor, Entry, first_frame-le, start_marks, start_of, IsNow, at_only, no_note}
use Rattle.sum_table.specs.Prelude.{none_there, index_of-lt, index_of, words_of, View, Exact, first_track, first_view, IsRing, IsView, next_at, by_member}
use Rattle.sum_table.specs.declared.view.Key.{Key}
use Rattle.sum_table.proofs.Keeps.{track_or}
use Rattle.sum_table.proofs.Kept.{kept_none}
use Rattle.sum_table.proofs.Rings.{position-others}

-- the words of a new ring
abbrev pub new_words : Geometry → ℕ → List ℕ
new_words g silent = set (replicate (words_of g) silent) 0 (word_of (first_frame g) false)

next_first : (g : Geometry) → next_at g first_track ≡ start_of g
next_first g = grind arith

-- the frames that a new ring has are those of the first lap
lap-first : (g : Geometry) (f c : ℕ) → IsNow g (start_of g) f c → lap g f ≡ g.first_lap
lap-first g f c now = grind (arith, nat_tests)

ring_first : (g : Geometry) (silent : ℕ) → StandsFor silent g.first_lap 0 (pos 0) → IsRing g (new_words g silent) [] first_track
ring_first g silent stands =
    let words : List ℕ = replicate (words_of g) silent in
    let number : length words ≡ words_of g = length-replicate (words_of g) silent in
    record {
      room = length-set words 0 _ ∙ number;
      position = get_or-set_same words 0 (word_of (first_frame g) false) 0 (omega (arith, number));
      rising = tt;
      not_ahead = subst (λ (x : Cursor). first_frame g ≤ x.frame) (sym (next_first g)) (omega arith);
      within = subst (λ (x : Cursor). x.frame ≤ Rattle.snd_base.specs.Places.end_frame g) (sym (next_first g)) (first_frame-le g);
      sums = λ f c now.
          let at_start : IsNow g (start_of g) f c = subst (λ (x : Cursor). IsNow g x f c) (next_first g) now in
          rw (position-others g words f c (word_of (first_frame g) false), get_or-replicate (words_of g) (index_of g f c) silent 0 (index_of-lt g f c now.channel), lap-first g f c at_start) stands;
      low = λ f c. omega (arith, ints);
      high = λ f c. omega (arith, ints);
      in_order = λ i d inside. absurd (omega arith);
      exact = λ i d inside. absurd (omega arith);
      took = λ f c in_range least. subst (λ (x : Cursor). false ≡ Rattle.std.proofs.Common.nat_lt f (first_free x c)) (sym (next_first g)) (grind (arith, nat_tests, least));
    }

-- the rule at the opening of a ring
pub opens : (k : Key) (silent : ℕ) → StandsFor silent k.geometry.first_lap 0 (pos 0)
    → Exact k (opening {S = Entry} {V = View} (new_words k.geometry silent) [] (first_view k))
opens k silent stands =
    let g : Geometry = k.geometry in
    let v : View = first_view k in
    let own : IsView k (new_words g silent) first_track [] v = record {
      kept = kept_none g k.places (start_marks g) (first_frame g) false (λ c. omega arith) (λ c. omega arith) (λ lasts. refl);
      seen_high = omega arith;
      positions = λ i p there. absurd (some-ne-none p (sym there));
      gone = λ is. is;
      noted = λ i n positive there. absurd (no_note n (sym (none_there (words_of g) i) ∙ there));
      begins = ([], refl);
      heard = ([], refl);
    } in
    let parts : (i : ℕ) (u : View) → get_elem? (v ∷ []) i ≡ some u → (i ≡ 0) × (v ≡ u) = at_only v in (
      0,
      first_track,
      [],
      ring_first g silent stands,
      record {
        places = omega arith;
        each = λ i u there. subst (IsView k (new_words g silent) first_track []) (parts i u there).1 own;
        player = λ i u t there tracks.
            ((parts i u there).0, sym (ap (track_or first_track) (ap (λ (x : View). x.track) (parts i u there).1 ∙ tracks)));
      },
      record {
        legal = λ members up. tt;
        taken = refl;
        position = refl;
        sums = record { counts = λ f c. refl; totals = λ f c. refl };
        owns = λ i u there lasts. ap (λ (x : View). map (by_member i) x.mine) (parts i u there).1;
        no_more = λ i up. refl;
      },
    )
