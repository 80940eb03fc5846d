-- What each event does to the agreement of a core with what was placed and what was taken.
use Rattle.mix_core.specs.Prelude.{ap, arith, false, get_or, inl, inr, length, List, nat_lt, pos, refl, set, subst, sym, ℕ, [], ◌&&◌, ◌++◌, ◌+ℤ◌, ◌+◌, ◌<◌}
use Rattle.mix_core.specs.Prelude.{◌==◌, ◌||◌, ◌∙◌, ◌∷◌, ◌≡◌, ◌≤◌, add-div_right, cases_eq, nat_tests, get_or-set_other, get_or-set_same, length-append}
use Rattle.mix_core.specs.Prelude.{length-set, All-push, Geometry, nat_lt-behind, next_word-suc, cursor_after, first_frame, first_free, lap, next_word}
use Rattle.mix_core.specs.Prelude.{word_index, clamp_of, count_of, lap_of, StandsFor, StandsFor-fields, sum_of, Taken, Marks, Entry, is_taken, at, marks_after}
use Rattle.mix_core.specs.Prelude.{marks_of, total, value_of, AreInOrder-more, at-more_elsewhere, at-more_here, is_taken-more, is_taken-none}
use Rattle.mix_core.specs.Prelude.{total-more_elsewhere, total-more_here, marks_of-other, marks_of-own, IsNow, IsSound, Agrees, marks_at, View, word_at}
use Rattle.mix_core.specs.Prelude.{IsNow-next, word_places, words-taken, words-written}
use Rattle.std.proofs.Math.Bool.{or_comm}

-- a core after the next word was taken, and after an entry was placed, with a new word there
abbrev pub taken_view : View → ℕ → View
taken_view v word = record v { words = set v.words (word_index v.geometry v.next.frame v.next.channel) word; next = cursor_after v.geometry v.next.frame v.next.channel }

abbrev pub laid_view : View → Entry → ℕ → View
laid_view v e word = record v { words = set v.words (word_index v.geometry e.frame e.channel) word; marks = set v.marks e.member (marks_after v.geometry (marks_at v e.member) e) }

-- what the next word takes
abbrev pub taking : View → List Entry → Taken
taking v es = record { frame = v.next.frame; channel = v.next.channel; value = clamp_of (total es v.next.frame v.next.channel) }

-- a later position
pub Agrees-published : (v : View) (es : List Entry) (ts : List Taken) (position : ℕ) → v.position ≤ position → Agrees v es ts → Agrees (record v { position = position }) es ts
Agrees-published v es ts position later a = grind (arith, nat_tests)

-- the next word was taken
pub Agrees-taken : (v : View) (es : List Entry) (ts : List Taken) (word : ℕ)
    → IsSound v → StandsFor word (lap_of (word_at v v.next.frame v.next.channel) + 1) 0 (pos 0)
    → Agrees v es ts → Agrees (taken_view v word) es (ts ++ taking v es ∷ [])
Agrees-taken v es ts word s stands a =
    let g : Geometry = v.geometry in
    let nf : ℕ = v.next.frame in
    let nc : ℕ = v.next.channel in
    let now : StandsFor (word_at v nf nc) (lap g nf) (length (at es nf nc)) (total es nf nc) = a.words nf nc (IsNow-next g v.next s.next_channel) in
    let lap_is : lap_of (word_at v nf nc) ≡ lap g nf = (StandsFor-fields _ _ _ _ now).0 in
    let some : 0 < g.frames = omega (arith, g.frames_least) in
    let next_lap : lap g (nf + g.frames) ≡ lap g nf + 1 = add-div_right nf some in
    let far : at es (nf + g.frames) nc ≡ [] = a.ahead (nf + g.frames) nc (omega (arith, s.position_most)) in
    let P : ℕ → ℕ → ℕ → Type 0 = λ w f c. StandsFor w (lap g f) (length (at es f c)) (total es f c) in
    let here : P word (nf + g.frames) nc = rw (far, next_lap, ← lap_is) stands in
    record {
      next = ap (λ x. cursor_after g x.frame x.channel) a.next ∙ (sym (next_word-suc g (length ts)) ∙ ap (next_word g) (sym (length-append ts (taking v es ∷ []))));
      marks = a.marks;
      taken = λ f c in_range least.
          is_taken-more ts (taking v es) f c
          ∙ (ap (λ b. b || ((nf == f) && (nc == c))) (a.taken f c in_range least)
          ∙ (or_comm (nat_lt f (first_free v.next c)) ((nf == f) && (nc == c)) ∙ sym (nat_lt-behind g v.next f c s.next_channel in_range)));
      ahead = a.ahead;
      words = words-taken g (word_index g) _ (word_places g) P v.next v.words word s.room s.next_channel here a.words;
      in_order = AreInOrder-more g ts (taking v es) a.in_order a.next;
      exact = All-push (λ (t : Taken). t.value ≡ clamp_of (total es t.frame t.channel)) ts (taking v es) a.exact refl;
    }

-- an entry was placed where nothing was taken
pub Agrees-laid : (v : View) (e : Entry) (es : List Entry) (ts : List Taken) (word : ℕ)
    → IsSound v → e.member < length v.marks → IsNow v.geometry v.next e.frame e.channel → e.frame < v.position + v.geometry.frames
    → StandsFor word (lap_of (word_at v e.frame e.channel)) (count_of (word_at v e.frame e.channel) + 1) (sum_of (word_at v e.frame e.channel) +ℤ value_of e)
    → Agrees v es ts → Agrees (laid_view v e word) (es ++ e ∷ []) ts
Agrees-laid v e es ts word s member now ahead stands a =
    let g : Geometry = v.geometry in
    let f : ℕ = e.frame in
    let c : ℕ = e.channel in
    let P : ℕ → ℕ → ℕ → Type 0 = λ w k d. StandsFor w (lap g k) (length (at es k d)) (total es k d) in
    let Q : ℕ → ℕ → ℕ → Type 0 = λ w k d. StandsFor w (lap g k) (length (at (es ++ e ∷ []) k d)) (total (es ++ e ∷ []) k d) in
    let old : StandsFor (word_at v f c) (lap g f) (length (at es f c)) (total es f c) = a.words f c now in
    let fields : (lap_of (word_at v f c) ≡ lap g f) × (count_of (word_at v f c) ≡ length (at es f c)) × (sum_of (word_at v f c) ≡ total es f c) = StandsFor-fields _ _ _ _ old in
    let one_more : length (at (es ++ e ∷ []) f c) ≡ length (at es f c) + 1 = ap length (at-more_here es e) ∙ length-append (at es f c) (value_of e ∷ []) in
    let here : Q word f c = rw (one_more, total-more_here es e, ← fields.0, ← fields.1, ← fields.2) stands in
    let others : (w k d : ℕ) → ¬ ((f ≡ k) × (c ≡ d)) → P w k d → Q w k d = λ w k d elsewhere p. rw (at-more_elsewhere es e k d elsewhere) p in
    let least : first_frame g ≤ f = grind (arith, nat_tests, now.low, s.next_least) in
    let untaken : nat_lt f (first_free v.next c) ≡ false = grind (arith, nat_tests, now.low) in
    let none : is_taken ts f c ≡ false = a.taken f c now.channel least ∙ untaken in
    record {
      next = a.next;
      marks = λ m d within.
          let moved : Marks = marks_after g (marks_at v e.member) e in
          elim (cases_eq m e.member) [
            | inl own ↦ subst (λ x. get_or (set v.marks e.member moved) x d ≡ marks_of g x (es ++ e ∷ [])) (sym own)
                (get_or-set_same v.marks e.member moved d member ∙ (ap (λ y. marks_after g y e) (a.marks e.member _ member) ∙ sym (marks_of-own g e.member es e refl)))
            | inr other ↦
                get_or-set_other v.marks e.member m moved d other
                ∙ (a.marks m d (subst (λ n. m < n) (length-set v.marks e.member moved) within)
                ∙ sym (marks_of-other g m es e (λ same. other (sym same))))
          ];
      taken = a.taken;
      ahead = λ k d far.
          let elsewhere : ¬ ((f ≡ k) × (c ≡ d)) = λ same. absurd (omega (arith, same.0, far, ahead)) in
          at-more_elsewhere es e k d elsewhere ∙ a.ahead k d far;
      words = words-written g (word_index g) _ (word_places g) P Q v.next v.words f c word s.room now here others a.words;
      in_order = a.in_order;
      exact = λ k d within.
          a.exact k d within
          ∙ ap clamp_of (sym (total-more_elsewhere es e (get_or ts k d).frame (get_or ts k d).channel (is_taken-none ts f c k d none within)));
    }
