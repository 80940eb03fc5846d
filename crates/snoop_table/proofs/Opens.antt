-- A new ring meets the rule.
use Rattle.snoop_table.specs.Prelude.{ap, arith, false, get_or, length, List, pos, set, subst, sym, ℕ, [], ◌∙◌, ◌≡◌, ◌≤◌, replicate, mul-le-mul_right}
use Rattle.snoop_table.specs.Prelude.{nat_tests, get_or-replicate, get_or-set_other, get_or-set_same, length-replicate, length-set, opening, some-ne-none}
use Rattle.snoop_table.specs.Prelude.{Geometry, Cursor, end_frame, first_frame, first_free, word_of, HoldLast, IsLast, HoldsSample, at_only, no_note}
use Rattle.snoop_table.specs.Prelude.{none_there, index_of-lt, index_of, words_of, View, first_track, first_view, Holds, IsRing, IsView, next_to_store, word_in}
use Rattle.snoop_table.proofs.Keeps.{track_or}

-- the words of a new ring
abbrev pub new_words : Geometry → ℕ → List ℕ
new_words g silent = set (replicate (words_of g) silent) 0 (word_of (first_frame g) false)

abbrev start_of : Geometry → Cursor
start_of g = record { frame = first_frame g; channel = 0 }

next_first : (g : Geometry) → next_to_store g first_track ≡ start_of g
next_first g = grind arith

start-first_free : (g : Geometry) (c : ℕ) → first_free (start_of g) c ≡ first_frame g
start-first_free g c = grind (arith, nat_tests)

holds_first : (g : Geometry) (silent : ℕ) → HoldsSample silent g.first_lap (pos 0) → HoldLast g (word_in (new_words g silent) g) []
holds_first g silent holds = record {
  last = λ f c is.
      let at_start : IsLast g (start_of g) f c = subst (λ (y : Cursor). IsLast g y f c) (next_first g) is in
      absurd (omega (arith, at_start.least, at_start.stored, start-first_free g c));
  unused = λ f c is.
      let there : get_or (new_words g silent) (index_of g f c) 0 ≡ silent =
      get_or-set_other (replicate (words_of g) silent) 0 (index_of g f c) (word_of (first_frame g) false) 0 (λ e. omega arith)
      ∙ get_or-replicate (words_of g) (index_of g f c) silent 0 (index_of-lt g f c is.channel) in
      subst (λ w. HoldsSample w g.first_lap (pos 0)) (sym there) holds;
}

ring_first : (g : Geometry) (silent : ℕ) → HoldsSample silent g.first_lap (pos 0) → IsRing g (new_words g silent) first_track
ring_first g silent holds =
    let words : List ℕ = replicate (words_of g) silent in
    let number : length words ≡ words_of g = length-replicate (words_of g) silent in
    let least : first_frame g ≤ end_frame g = mul-le-mul_right g.frames (omega (arith, g.first_lap_most)) in
    record {
      room = length-set words 0 _ ∙ number;
      position = get_or-set_same words 0 (word_of (first_frame g) false) 0 (omega (arith, number));
      rising = tt;
      not_ahead = subst (λ (x : Cursor). first_frame g ≤ x.frame) (sym (next_first g)) (omega arith);
      within = subst (λ (x : Cursor). x.frame ≤ end_frame g) (sym (next_first g)) least;
      holds = holds_first g silent holds;
    }

-- the rule at the opening of a ring
pub opens : (g : Geometry) (silent : ℕ) → HoldsSample silent g.first_lap (pos 0)
    → Holds g (opening {S = Unit {0}} {V = View} (new_words g silent) [] (first_view g))
opens g silent holds =
    let v : View = first_view g in
    let own : IsView g (new_words g silent) first_track v = record {
      seen_high = omega arith;
      positions = λ i p there. absurd (some-ne-none p (sym there));
      gone = λ is. is;
      noted = λ i n positive there. absurd (no_note n (sym (none_there (words_of g) i) ∙ there));
      got = λ i f there. absurd (some-ne-none f (sym there));
      loading = λ c inside. absurd (omega arith);
    } in (
      0,
      first_track,
      ring_first g silent holds,
      record {
        each = λ i u there. subst (IsView g (new_words g silent) first_track) (at_only v i u there).1 own;
        writer = λ i u t there tracks.
            ((at_only v i u there).0, sym (ap (track_or first_track) (ap (λ (x : View). x.track) (at_only v i u there).1 ∙ tracks)));
      },
    )
