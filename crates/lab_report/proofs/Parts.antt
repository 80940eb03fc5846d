-- The first line of a text.
use Rattle.lab_report.specs.Prelude.{add-one, ap, arith, Bool, drop, false, length, List, None, one-add, refl, Some, suc, sym, take, true, ℕ, [], ◌+◌, ◌-◌, ◌<◌}
use Rattle.lab_report.specs.Prelude.{◌==◌, ◌∙◌, ◌∷◌, ◌≡◌, ◌≤◌, nat_tests, drop_all, position, position_or_len, is_feed, position_end, position_place, take-drop}
use Rattle.lab_report.specs.Prelude.{lines_of, onto_first}
use Rattle.text_words.specs.Lexing.{first_and_rest}

-- the first line ends with the first line feed
first_by : (b : ℕ) (bs : List ℕ) (t : Bool) → is_feed b ≡ t
    → position_or_len is_feed (b ∷ bs) < length (b ∷ bs) → (position_or_len is_feed bs < length bs → lines_of bs ≡ take (suc (position_or_len is_feed bs)) bs ∷ lines_of (drop (suc (position_or_len is_feed bs)) bs))
    → lines_of (b ∷ bs) ≡ take (suc (position_or_len is_feed (b ∷ bs))) (b ∷ bs) ∷ lines_of (drop (suc (position_or_len is_feed (b ∷ bs))) (b ∷ bs))
first_by b bs t e h rest = grind (arith, nat_tests)

lines_first : (xs : List ℕ) → position_or_len is_feed xs < length xs → lines_of xs ≡ take (suc (position_or_len is_feed xs)) xs ∷ lines_of (drop (suc (position_or_len is_feed xs)) xs)
lines_first [] h = absurd (omega arith)
lines_first (b ∷ bs) h = first_by b bs (is_feed b) refl h (lines_first bs)

-- a text without a line feed is one line
one_by : (b : ℕ) (bs : List ℕ) (t : Bool) → is_feed b ≡ t → length (b ∷ bs) ≤ position_or_len is_feed (b ∷ bs)
    → (0 < length bs → length bs ≤ position_or_len is_feed bs → lines_of bs ≡ bs ∷ []) → lines_of (b ∷ bs) ≡ (b ∷ bs) ∷ []
one_by b bs true e h rest =
    let at : position_or_len is_feed (b ∷ bs) ≡ 0 = rw e refl in
    absurd (omega arith)
one_by b [] false e h rest = rw e refl
one_by b (c ∷ cs) false e h rest =
    let at : position_or_len is_feed (b ∷ c ∷ cs) ≡ suc (position_or_len is_feed (c ∷ cs)) = rw e (one-add (position_or_len is_feed (c ∷ cs))) in
    let said : lines_of (b ∷ c ∷ cs) ≡ onto_first b (lines_of (c ∷ cs)) = rw e refl in
    let some : 0 < length (c ∷ cs) = omega arith in
    let past : length (c ∷ cs) ≤ position_or_len is_feed (c ∷ cs) = omega arith in
    rw (said, rest some past) refl

lines_one : (xs : List ℕ) → 0 < length xs → length xs ≤ position_or_len is_feed xs → lines_of xs ≡ xs ∷ []
lines_one [] some h = absurd (omega arith)
lines_one (b ∷ bs) some h = one_by b bs (is_feed b) refl h (lines_one bs)

pub lines_of-at : (text : List ℕ) (i : ℕ) → position is_feed text ≡ Some i
    → Some (take (i + 1) text, lines_of (take (length text - (i + 1)) (drop (i + 1) text))) ≡ first_and_rest (lines_of text)
lines_of-at text i e =
    let h = position_place is_feed text i e in
    rw (take-drop (i + 1) text)
    (sym (ap first_and_rest (lines_first text h.0) ∙ ap (λ k. Some (take (suc k) text, lines_of (drop (suc k) text))) h.1 ∙ ap (λ k. Some (take k text, lines_of (drop k text))) (sym (add-one i))))

pub lines_of-none : (text : List ℕ) → position is_feed text ≡ None → 0 < length text
    → Some (text, lines_of (take (length text - length text) (drop (length text) text))) ≡ first_and_rest (lines_of text)
lines_of-none text e some =
    rw (take-drop (length text) text, drop_all (length text) text (omega arith))
    (sym (ap first_and_rest (lines_one text some (position_end is_feed text e))))

pub not_empty : (xs : List ℕ) → (length xs == 0) ≡ false → 0 < length xs
not_empty xs e = grind (arith, nat_tests)
