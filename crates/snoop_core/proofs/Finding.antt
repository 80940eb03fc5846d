-- What a word that a turn finds says.
use Rattle.snoop_core.specs.Prelude.{ap, arith, List, subst, sym, ℕ, ◌*◌, ◌+◌, ◌<◌, ◌∙◌, ◌≡◌, ◌≤◌, nat_tests, Geometry, Cursor, first_frame, first_free}
use Rattle.snoop_core.specs.Prelude.{word_in, by_laps, BySlots, IsByLaps, own_sample, geometry_of, IsFoundWord, IsSoundSnoop, SnoopCoreView, word_at, laps_of}
use Rattle.snoop_core.specs.Prelude.{sample_of}

-- the words of a list go by slots
pub by_slots : (g : Geometry) (words : List ℕ) → BySlots g (word_in g words)
by_slots g words f k c same = ap (λ s. Rattle.std.proofs.Common.get_or words (s * g.channels + c) 0) same

-- before a frame is stored, no channel of it is
pub stored-first_free : (next : Cursor) (f c : ℕ) → f < next.frame → f < first_free next c
stored-first_free next f c before = grind (arith, nat_tests, before)

pub IsFoundWord-of : (v : SnoopCoreView) (f c word : ℕ) → IsSoundSnoop v → c < (geometry_of v).channels → first_frame (geometry_of v) ≤ f → f < v.position
    → word ≡ word_at v f c → IsFoundWord v f c word
IsFoundWord-of v f c word s in_range least before is =
    let g : Geometry = geometry_of v in
    let stored : f < first_free v.ring.next c = stored-first_free v.ring.next f c (omega (arith, before, s.position_most)) in
    let laps : IsByLaps g v.ring.next (word_at v f c) f c = by_laps g v.ring.next (word_at v) f c s.ring_sound.laps (by_slots g v.ring.words) in_range least stored in
    record {
      published = s.position_most;
      whole = s.whole;
      shown = sym is;
      by_laps = subst (λ w. IsByLaps g v.ring.next w f c) (sym is) laps;
      sample = λ own xs r.
          ap sample_of is
          ∙ own_sample g (word_at v) xs f c r.words (by_slots g v.ring.words) in_range least
          (subst (λ (y : Cursor). f < first_free y c) r.next stored) (sym (ap laps_of is) ∙ own);
    }
