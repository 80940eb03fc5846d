-- What a store does to the words of a ring with one owner.
use Rattle.snoop_core.specs.Prelude.{ap, append_assoc, arith, get_or, length, List, refl, set, subst, sym, ℕ, ℤ, [], ◌*◌, ◌++◌, ◌+◌, ◌<◌, ◌∙◌, ◌∷◌, ◌≡◌, ◌≤◌}
use Rattle.snoop_core.specs.Prelude.{nat_tests, get_or-set_other, get_or-set_same, length-set, Geometry, Cursor, cursor_after, end_frame, lap, word_index}
use Rattle.snoop_core.specs.Prelude.{after_samples, ArePartStored, HoldsSamples, IsSampleStored, IsSoundRing, RingView, word_in, next_after_stored}
use Rattle.snoop_core.specs.Prelude.{HaveLaps-written, HoldLast-written, IsWritten, next_after_stored-more, HoldsSample}
use Rattle.snd_base.specs.PlaceLaws.{suc-le-end_frame, word_index-lt, word_index-same}

-- one word of the list was written
written : (g : Geometry) (next : Cursor) (words : List ℕ) (new : ℕ) → length words ≡ g.frames * g.channels → next.channel < g.channels
    → IsWritten g next new (word_in g words) (word_in g (set words (word_index g next.frame next.channel) new))
written g next words new room in_range =
    let at : ℕ = word_index g next.frame next.channel in
    let inside : at < length words = omega (arith, room, word_index-lt g next.frame next.channel in_range) in
    record {
      here = λ f same.
          let index : word_index g f next.channel ≡ at = ap (λ s. s * g.channels + next.channel) same in
          ap (λ i. get_or (set words at new) i 0) index ∙ get_or-set_same words at new 0 inside;
      elsewhere = λ f c c_in apart.
          get_or-set_other words at (word_index g f c) new 0 (λ same. apart (word_index-same g f c next.frame next.channel c_in in_range same));
    }

-- the ring after a sample was stored
abbrev pub stored_view : RingView → ℕ → RingView
stored_view v new = record {
  geometry = v.geometry;
  words = set v.words (word_index v.geometry v.next.frame v.next.channel) new;
  next = cursor_after v.geometry v.next.frame v.next.channel;
}

pub IsSoundRing-stored : (v : RingView) (new : ℕ) (x : ℤ) → IsSoundRing v → lap v.geometry v.next.frame < 4294967295
    → HoldsSample new (lap v.geometry v.next.frame + 1) x → IsSoundRing (stored_view v new)
IsSoundRing-stored v new x s fits holds =
    let g : Geometry = v.geometry in
    let at : ℕ = word_index g v.next.frame v.next.channel in
    let end : v.next.frame + 1 ≤ end_frame g = suc-le-end_frame g v.next.frame fits in
    record {
      room = length-set v.words at new ∙ s.room;
      next_channel = grind (arith, nat_tests, s.next_channel, g.channels_least);
      next_within = record { least = grind (arith, nat_tests, s.next_within.least); most = grind (arith, nat_tests, s.next_within.most, end) };
      laps = HaveLaps-written g v.next new x (word_in g v.words) (word_in g (set v.words at new)) s.next_channel (written g v.next v.words new s.room s.next_channel) holds s.laps;
    }

pub IsSampleStored-stored : (v : RingView) (new : ℕ) (x : ℤ) → IsSoundRing v → lap v.geometry v.next.frame < 4294967295
    → HoldsSample new (lap v.geometry v.next.frame + 1) x → IsSampleStored v (stored_view v new) x
IsSampleStored-stored v new x s fits holds =
    let g : Geometry = v.geometry in
    let at : ℕ = word_index g v.next.frame v.next.channel in
    record {
      geometry = refl;
      next = refl;
      sound = IsSoundRing-stored v new x s fits holds;
      holds = λ xs h.
          let at_next : (y : Cursor) → y ≡ v.next → v.next ≡ next_after_stored g xs → IsWritten g (next_after_stored g xs) new (word_in g v.words) (word_in g (set v.words at new)) =
          λ y e is. subst (λ (n : Cursor). IsWritten g n new (word_in g v.words) (word_in g (set v.words at new))) is (written g v.next v.words new s.room s.next_channel) in
          record {
            next = ap (λ (n : Cursor). cursor_after g n.frame n.channel) h.next ∙ sym (next_after_stored-more g xs x);
            words = HoldLast-written g new x (word_in g v.words) (word_in g (set v.words at new)) xs (at_next v.next refl h.next)
                (subst (λ (n : Cursor). HoldsSample new (lap g n.frame + 1) x) h.next holds) h.words;
          };
    }

pub ArePartStored-more : (u v w : RingView) (xs : List ℤ) (x : ℤ) → length xs < u.geometry.channels → ArePartStored u v xs → IsSampleStored v w x
    → ArePartStored u w (xs ++ x ∷ [])
ArePartStored-more u v w xs x few part one =
    let g : Geometry = u.geometry in
    let n : ℕ = length xs in
    let more : length (xs ++ x ∷ []) ≡ n + 1 = Rattle.std.proofs.lemmas.List.length-append xs (x ∷ []) in
    let moved : w.next ≡ cursor_after g (after_samples g u.next.frame n).frame (after_samples g u.next.frame n).channel =
    one.next ∙ (ap (λ (k : Geometry). cursor_after k v.next.frame v.next.channel) part.geometry ∙ ap (λ (y : Cursor). cursor_after g y.frame y.channel) part.next) in
    let step : cursor_after g (after_samples g u.next.frame n).frame (after_samples g u.next.frame n).channel ≡ after_samples g u.next.frame (n + 1) = grind (arith, nat_tests, few) in
    record {
      geometry = one.geometry ∙ part.geometry;
      next = moved ∙ (step ∙ ap (after_samples g u.next.frame) (sym more));
      sound = one.sound;
      holds = λ early h. subst (HoldsSamples w) (append_assoc early xs (x ∷ [])) (one.holds (early ++ xs) (part.holds early h));
    }
