-- The words, the entries and the player's track agree after each kind of step.
use Rattle.sum_table.specs.Prelude.{ap, arith, Bool, false, get_or, inl, inr, length, List, nat_lt, negsuc, pos, refl, set, subst, sym, ℕ, ℤ, [], ◌&&◌, ◌*◌}
use Rattle.sum_table.specs.Prelude.{◌++◌, ◌+ℤ◌, ◌+◌, ◌<◌, ◌==◌, ◌||◌, ◌∙◌, ◌∷◌, ◌≡◌, ◌≤ℤ◌, ◌≤◌, add-div_right, nat_tests, ints, get_or-set_other}
use Rattle.sum_table.specs.Prelude.{get_or-set_same, length-append, length-set, All-push, Geometry, Cursor, nat_lt-behind, next_word-suc, suc-le-end_frame}
use Rattle.sum_table.specs.Prelude.{cursor_after, end_frame, first_frame, first_free, lap, next_word, clamp_of, word_of, StandsFor, Taken, Entry, AreExact}
use Rattle.sum_table.specs.Prelude.{is_taken, at, total, value_of, place_cases, IsNow, words-taken, words-written, last_number-more, Rising-more, index_of}
use Rattle.sum_table.specs.Prelude.{words_of, Track, IsRing, next_at, position_at, count, SameSums, next_taken, track_published, track_taken}
use Rattle.std.proofs.Math.Bool.{or_comm}
use Rattle.mix_core.specs.MoreLaws.{AreInOrder-more, at-more_elsewhere, at-more_here, is_taken-more, is_taken-none, total-more_elsewhere, total-more_here}
use Rattle.ring_rule.specs.Positions.{Rising, last_position}
use Rattle.sum_table.proofs.Places.{index_places, next_word-channel}

-- the words, the track, and other entries of the same sums
pub IsRing-same : (g : Geometry) (words : List ℕ) (xs ys : List Entry) (t : Track) → SameSums xs ys → IsRing g words xs t → IsRing g words ys t
IsRing-same g words xs ys t same r =
    let sums : (f c : ℕ) → IsNow g (next_at g t) f c → StandsFor (get_or words (index_of g f c) 0) (lap g f) (count ys f c) (total ys f c) =
    λ f c now. rw (← same.counts f c, ← same.totals f c) (r.sums f c now) in
    let low : (f c : ℕ) → pos 0 ≤ℤ (total ys f c +ℤ pos (32768 * count ys f c)) = λ f c. rw (← same.counts f c, ← same.totals f c) (r.low f c) in
    let high : (f c : ℕ) → total ys f c ≤ℤ pos (32768 * count ys f c) = λ f c. rw (← same.counts f c, ← same.totals f c) (r.high f c) in
    let exact : AreExact ys t.taken = λ k d inside. r.exact k d inside ∙ ap clamp_of (same.totals (get_or t.taken k d).frame (get_or t.taken k d).channel) in
    assumption

-- word 0 is none of a slot's
pub others-position : (g : Geometry) (words : List ℕ) (f c word : ℕ) → get_or (set words (index_of g f c) word) 0 0 ≡ get_or words 0 0
others-position g words f c word = get_or-set_other words (index_of g f c) 0 word 0 (λ same. omega arith)

pub position-others : (g : Geometry) (words : List ℕ) (f c word : ℕ) → get_or (set words 0 word) (index_of g f c) 0 ≡ get_or words (index_of g f c) 0
position-others g words f c word = get_or-set_other words 0 (index_of g f c) word 0 (λ same. omega arith)

-- a frame and channel that the ring has now were not taken
pub not_taken : (g : Geometry) (words : List ℕ) (es : List Entry) (t : Track) (f c : ℕ) → IsRing g words es t → IsNow g (next_at g t) f c → is_taken t.taken f c ≡ false
not_taken g words es t f c r now = grind (arith, nat_tests)

-- an entry was placed
pub IsRing-put : (g : Geometry) (words : List ℕ) (es : List Entry) (t : Track) (e : Entry) (word : ℕ)
    → IsRing g words es t → IsNow g (next_at g t) e.frame e.channel
    → negsuc 32767 ≤ℤ value_of e → value_of e ≤ℤ pos 32768
    → StandsFor word (lap g e.frame) (count es e.frame e.channel + 1) (total es e.frame e.channel +ℤ value_of e)
    → IsRing g (set words (index_of g e.frame e.channel) word) (es ++ e ∷ []) t
IsRing-put g words es t e word r now low high stands =
    let f : ℕ = e.frame in
    let c : ℕ = e.channel in
    let P : ℕ → ℕ → ℕ → Type 0 = λ w k d. StandsFor w (lap g k) (count es k d) (total es k d) in
    let Q : ℕ → ℕ → ℕ → Type 0 = λ w k d. StandsFor w (lap g k) (count (es ++ e ∷ []) k d) (total (es ++ e ∷ []) k d) in
    let one_more : count (es ++ e ∷ []) f c ≡ count es f c + 1 = ap length (at-more_here es e) ∙ length-append (at es f c) (value_of e ∷ []) in
    let sum_more : total (es ++ e ∷ []) f c ≡ total es f c +ℤ value_of e = total-more_here es e in
    let same_count : (k d : ℕ) → ¬ ((f ≡ k) × (c ≡ d)) → count (es ++ e ∷ []) k d ≡ count es k d = λ k d elsewhere. ap length (at-more_elsewhere es e k d elsewhere) in
    let same_total : (k d : ℕ) → ¬ ((f ≡ k) × (c ≡ d)) → total (es ++ e ∷ []) k d ≡ total es k d = λ k d elsewhere. total-more_elsewhere es e k d elsewhere in
    let here : Q word f c = rw (one_more, sum_more) stands in
    let others : (w k d : ℕ) → ¬ ((f ≡ k) × (c ≡ d)) → P w k d → Q w k d = λ w k d elsewhere p. rw (at-more_elsewhere es e k d elsewhere) p in
    record {
      room = length-set words (index_of g f c) word ∙ r.room;
      position = others-position g words f c word ∙ r.position;
      rising = r.rising;
      not_ahead = r.not_ahead;
      within = r.within;
      sums = words-written g (index_of g) _ (index_places g) P Q (next_at g t) words f c word r.room now here others r.sums;
      low = λ k d. elim (place_cases f c k d) [
        | inl same ↦ rw (← same.0, ← same.1) (omega (arith, ints, one_more, sum_more, low, r.low f c))
        | inr elsewhere ↦ omega (arith, ints, same_count k d elsewhere, same_total k d elsewhere, r.low k d)
      ];
      high = λ k d. elim (place_cases f c k d) [
        | inl same ↦ rw (← same.0, ← same.1) (omega (arith, ints, one_more, sum_more, high, r.high f c))
        | inr elsewhere ↦ omega (arith, ints, same_count k d elsewhere, same_total k d elsewhere, r.high k d)
      ];
      in_order = r.in_order;
      exact = λ k d inside.
          r.exact k d inside
          ∙ ap clamp_of (sym (same_total (get_or t.taken k d).frame (get_or t.taken k d).channel (is_taken-none t.taken f c k d (not_taken g words es t f c r now) inside)));
      took = r.took;
    }

-- the next word is after the one that is taken
pub next_at-taken : (g : Geometry) (t : Track) (x : Taken) → next_at g (track_taken t x) ≡ cursor_after g (next_at g t).frame (next_at g t).channel
next_at-taken g t x = ap (next_word g) (length-append t.taken (x ∷ [])) ∙ next_word-suc g (length t.taken)

-- the next word was taken
pub IsRing-take : (g : Geometry) (words : List ℕ) (es : List Entry) (t : Track) (z : ℤ) (word : ℕ)
    → IsRing g words es t → lap g (next_at g t).frame < 4294967295
    → ((f c : ℕ) → first_free (next_at g t) c + g.frames ≤ f → count es f c ≡ 0)
    → StandsFor word (lap g (next_at g t).frame + 1) 0 (pos 0)
    → z ≡ clamp_of (total es (next_at g t).frame (next_at g t).channel)
    → IsRing g (set words (index_of g (next_at g t).frame (next_at g t).channel) word) es (track_taken t (next_taken g t z))
IsRing-take g words es t z word r fits far stands value =
    let next : Cursor = next_at g t in
    let nf : ℕ = next.frame in
    let nc : ℕ = next.channel in
    let x : Taken = next_taken g t z in
    let channel : nc < g.channels = next_word-channel g (length t.taken) in
    let some : 0 < g.frames = omega (arith, g.frames_least) in
    let next_lap : lap g (nf + g.frames) ≡ lap g nf + 1 = add-div_right nf some in
    let start : first_free next nc ≡ nf = grind (arith, nat_tests) in
    let none : count es (nf + g.frames) nc ≡ 0 = far (nf + g.frames) nc (omega (arith, start)) in
    let no_sum : total es (nf + g.frames) nc ≡ pos 0 = omega (arith, ints, none, r.low (nf + g.frames) nc, r.high (nf + g.frames) nc) in
    let P : ℕ → ℕ → ℕ → Type 0 = λ w f c. StandsFor w (lap g f) (count es f c) (total es f c) in
    let here : P word (nf + g.frames) nc = rw (none, no_sum, next_lap) stands in
    let behind_it : next_at g (track_taken t x) ≡ cursor_after g nf nc = next_at-taken g t x in
    let end : nf + 1 ≤ end_frame g = suc-le-end_frame g nf fits in
    record {
      room = length-set words (index_of g nf nc) word ∙ r.room;
      position = others-position g words nf nc word ∙ r.position;
      rising = r.rising;
      not_ahead = subst (λ (at : Cursor). position_at g t ≤ at.frame) (sym behind_it) (grind (arith, nat_tests, r.not_ahead));
      within = subst (λ (at : Cursor). at.frame ≤ end_frame g) (sym behind_it) (grind (arith, nat_tests, r.within, end));
      sums = subst (λ (at : Cursor). (f c : ℕ) → IsNow g at f c → P (get_or (set words (index_of g nf nc) word) (index_of g f c) 0) f c) (sym behind_it)
          (words-taken g (index_of g) _ (index_places g) P next words word r.room channel here r.sums);
      low = r.low;
      high = r.high;
      in_order = AreInOrder-more g t.taken x r.in_order refl;
      exact = All-push (λ (y : Taken). y.value ≡ clamp_of (total es y.frame y.channel)) t.taken x r.exact value;
      took = λ f c in_range least.
          subst (λ (at : Cursor). is_taken (t.taken ++ x ∷ []) f c ≡ nat_lt f (first_free at c)) (sym behind_it)
          (is_taken-more t.taken x f c
          ∙ (ap (λ b. b || ((nf == f) && (nc == c))) (r.took f c in_range least)
          ∙ (or_comm (nat_lt f (first_free next c)) ((nf == f) && (nc == c)) ∙ sym (nat_lt-behind g next f c channel in_range))));
    }

-- the player stored a position and whether the card is gone
pub IsRing-stored : (g : Geometry) (words : List ℕ) (es : List Entry) (t : Track) (published : List ℕ) (gone : Bool) → IsRing g words es t
    → Rising (first_frame g) published → last_position g published ≤ (next_at g t).frame
    → IsRing g (set words 0 (word_of (last_position g published) gone)) es (record t { published = published; gone = gone })
IsRing-stored g words es t published gone r rising not_ahead =
    let word : ℕ = word_of (last_position g published) gone in
    let room : length (set words 0 word) ≡ words_of g = length-set words 0 word ∙ r.room in
    let position : get_or (set words 0 word) 0 0 ≡ word = get_or-set_same words 0 word 0 (omega (arith, r.room)) in
    let sums : (f c : ℕ) → IsNow g (next_at g t) f c → StandsFor (get_or (set words 0 word) (index_of g f c) 0) (lap g f) (count es f c) (total es f c) =
    λ f c now. rw (position-others g words f c word) (r.sums f c now) in
    assumption

-- the next word's frame was published
pub IsRing-publish : (g : Geometry) (words : List ℕ) (es : List Entry) (t : Track) → IsRing g words es t
    → IsRing g (set words 0 (word_of (next_at g t).frame t.gone)) es (track_published t (next_at g t).frame)
IsRing-publish g words es t r =
    let p : ℕ = (next_at g t).frame in
    let last : position_at g (track_published t p) ≡ p = last_number-more (first_frame g) t.published p in
    subst (λ q. IsRing g (set words 0 (word_of q t.gone)) es (track_published t p)) last
    (IsRing-stored g words es t (t.published ++ p ∷ []) t.gone r (Rising-more (first_frame g) t.published p r.rising r.not_ahead) (omega (arith, last)))
