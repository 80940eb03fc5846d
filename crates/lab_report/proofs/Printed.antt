-- What is printed is read back: words, numbers, and the lines of a text.
use Rattle.lab_report.specs.Prelude.{ap, append_assoc, arith, Bool, bytes_eq, codes, drop, false, length, length-append, List, map, None, not, Ok, one-add}
use Rattle.lab_report.specs.Prelude.{Option, refl, Some, sym, take, true, ℕ, [], ◌++◌, ◌<◌, ◌^◌, ◌∙◌, ◌∷◌, ◌≡◌, ◌≢◌, ◌≤◌, and_from, and_parts, false≢true}
use Rattle.lab_report.specs.Prelude.{not-true, nat_tests, same_from_decides, digits_decimal, recursion_from_All, join_with_byte-slice_split, length-slice_split}
use Rattle.lab_report.specs.Prelude.{slice_split-cons_no, slice_split-cons_yes, bytes_eq-Decides, decimal, AllByRecursion, flat_map, join_with_byte, list_all}
use Rattle.lab_report.specs.Prelude.{position_or_len, slice_split, is_feed, is_space, decimal_of-decimal, all_digits, own, weaker, some_or, ◌>>=◌, IsWide}
use Rattle.lab_report.specs.Prelude.{IsWideWhere, number_or_dash, dash_or_number, expect_word, expect_words, front_word, is_end, lines_of, most_frames}
use Rattle.lab_report.specs.Prelude.{next_number, number_or_dash_at}
use Rattle.std.proofs.Math.Seq.{take-append_seam}
use Rattle.std.specs.Char.{is_ascii_digit}
use Rattle.std.specs.List.{onto_first as piece_first}
use Rattle.std.specs.Prelude.{All}
use Rattle.std.specs.Str.{all_ascii_digits}
use Rattle.lab_report.specs.declared.error.ReportWhy.TheVariants as why

-- a byte within a word
abbrev pub in_word : ℕ → Bool
in_word b = not (is_end b)

-- a byte within a line
abbrev pub in_line : ℕ → Bool
in_line b = not (is_feed b)

-- the first end of a word that is followed by one
position_or_len-word : (w : List ℕ) (e : ℕ) (r : List ℕ) → list_all in_word w ≡ true → is_end e ≡ true → position_or_len is_end (w ++ e ∷ r) ≡ length w
position_or_len-word [] e r h t = rw t refl
position_or_len-word (b ∷ bs) e r h t =
    let parts = and_parts (in_word b) (list_all in_word bs) h in
    rw (not-true (is_end b) parts.0, position_or_len-word bs e r parts.1 t) (one-add (length bs))

front_word-some : (xs : List ℕ) → 0 < length xs → front_word xs ≡ Ok (take (position_or_len is_end xs) xs, drop (position_or_len is_end xs) xs)
front_word-some [] h = absurd (omega arith)
front_word-some (b ∷ bs) h = refl

drop-append : (w s : List ℕ) → drop (length w) (w ++ s) ≡ s
drop-append [] s = refl
drop-append (b ∷ bs) s = drop-append bs s

-- a word is read where one of its ends follows
pub front_word-printed : (w : List ℕ) (e : ℕ) (r : List ℕ) → list_all in_word w ≡ true → is_end e ≡ true → front_word (w ++ e ∷ r) ≡ Ok (w, e ∷ r)
front_word-printed w e r h t =
    front_word-some (w ++ e ∷ r) (omega (arith, length-append w (e ∷ r)))
    ∙ ap (λ n. Ok (take n (w ++ e ∷ r), drop n (w ++ e ∷ r))) (position_or_len-word w e r h t)
    ∙ rw (take-append_seam w (e ∷ r), drop-append w (e ∷ r)) refl

digit_in_word : (b : ℕ) → is_ascii_digit b ≡ true → in_word b ≡ true
digit_in_word b e = grind (arith, nat_tests)

-- a number's decimal form is digits
pub decimal_in_word : (n : ℕ) → n < 2 ^ 64 → list_all in_word (decimal n) ≡ true
decimal_in_word n h = weaker is_ascii_digit in_word digit_in_word (decimal n) (all_digits (decimal n) ∙ digits_decimal own n h)

pub wide : (n : ℕ) → IsWide n → n ≤ most_frames
wide n h = omega arith

-- a number after a space is read
pub next_number-printed : (most n e : ℕ) (r : List ℕ) → n ≤ most → n < 2 ^ 64 → is_end e ≡ true → next_number most (32 ∷ (decimal n ++ e ∷ r)) ≡ Ok (n, e ∷ r)
next_number-printed most n e r fits h t =
    rw (front_word-printed (decimal n) e r (decimal_in_word n h) t) (ap (λ o. (some_or why.Number o) >>= (λ m. Ok (m, e ∷ r))) (decimal_of-decimal most n fits h))

-- texts that differ
pub bytes_differ : (a b : List ℕ) → a ≢ b → bytes_eq a b ≡ false
bytes_differ a b other = same_from_decides (bytes_eq a b) false (bytes_eq-Decides a b) (λ e. absurd (false≢true e), λ e. absurd (other e))

-- digits are none of the words that aren't
pub not_digits : (ds w : List ℕ) → all_ascii_digits ds ≡ true → all_ascii_digits w ≡ false → bytes_eq ds w ≡ false
not_digits ds w d n = bytes_differ ds w (λ same. false≢true (sym n ∙ ap all_ascii_digits (sym same) ∙ d))

-- a number or `-` is read
pub number_or_dash-printed : (o : Option ℕ) (e : ℕ) (r : List ℕ) → IsWideWhere o → is_end e ≡ true → number_or_dash_at (number_or_dash o ++ e ∷ r) ≡ Ok (o, e ∷ r)
number_or_dash-printed None e r h t = ap (λ w. w >>= (λ word. (some_or why.Word (dash_or_number word.0)) >>= (λ n. Ok (n, word.1)))) (front_word-printed (codes "-") e r refl t)
number_or_dash-printed (Some n) e r h t =
    rw (front_word-printed (decimal n) e r (decimal_in_word n h) t, not_digits (decimal n) (codes "-") (digits_decimal own n h) refl, decimal_of-decimal most_frames n (wide n h) h) refl

-- the word that must follow is read
pub expect_word-printed : (w : List ℕ) (e : ℕ) (r : List ℕ) → list_all in_word w ≡ true → is_end e ≡ true → expect_word w (w ++ e ∷ r) ≡ Ok (e ∷ r)
expect_word-printed w e r h t = rw (front_word-printed w e r h t, (bytes_eq-Decides w w).1 refl) refl

-- each of some words has no end within
abbrev pub AreWords : List (List ℕ) → Type 0
AreWords [] = Unit {0}
AreWords (w ∷ ws) = (list_all in_word w ≡ true) × (AreWords ws)

-- words that are joined by spaces are read
expect_words-joined : (w : List ℕ) (ws : List (List ℕ)) (r : List ℕ) → AreWords (w ∷ ws) → expect_words (w ∷ ws) (join_with_byte 32 (w ∷ ws) ++ 32 ∷ r) ≡ Ok r
expect_words-joined w [] r h = rw (expect_word-printed w 32 r h.0 refl) refl
expect_words-joined w (v ∷ vs) r h =
    rw (append_assoc w (32 ∷ join_with_byte 32 (v ∷ vs)) (32 ∷ r), expect_word-printed w 32 (join_with_byte 32 (v ∷ vs) ++ 32 ∷ r) h.0 refl)
    (expect_words-joined v vs r h.1)

first_more : (b : ℕ) (ws : List (List ℕ)) → in_word b ≡ true → AreWords ws → AreWords (piece_first b ws)
first_more b [] e h = (and_from (in_word b) true e refl, tt)
first_more b (w ∷ ws) e h = (and_from (in_word b) (list_all in_word w) e h.0, h.1)

in_word-of : (b : ℕ) → is_space b ≡ false → in_line b ≡ true → in_word b ≡ true
in_word-of b e h = rw (e, not-true (is_feed b) h) refl

words_more : (b : ℕ) (bs : List ℕ) (t : Bool) → is_space b ≡ t → in_line b ≡ true → AreWords (slice_split is_space bs) → AreWords (slice_split is_space (b ∷ bs))
words_more b bs true e h rest = rw (slice_split-cons_yes is_space b bs e) (refl, rest)
words_more b bs false e h rest = rw (slice_split-cons_no is_space b bs e) (first_more b (slice_split is_space bs) (in_word-of b e h) rest)

-- the parts of a line between its spaces are words
slice_split-words : (front : List ℕ) → list_all in_line front ≡ true → AreWords (slice_split is_space front)
slice_split-words [] h = (refl, tt)
slice_split-words (b ∷ bs) h =
    let parts = and_parts (in_line b) (list_all in_line bs) h in
    words_more b bs (is_space b) refl parts.0 (slice_split-words bs parts.1)

expect_by : (ws : List (List ℕ)) (front r : List ℕ) → AreWords ws → 0 < length ws → join_with_byte 32 ws ≡ front → expect_words ws (front ++ 32 ∷ r) ≡ Ok r
expect_by [] front r h some e = absurd (omega arith)
expect_by (w ∷ ws) front r h some e = rw (← e) (expect_words-joined w ws r h)

-- the front of a row is read
pub expect_words-printed : (front r : List ℕ) → list_all in_line front ≡ true → expect_words (slice_split is_space front) (front ++ 32 ∷ r) ≡ Ok r
expect_words-printed front r h =
    expect_by (slice_split is_space front) front r (slice_split-words front h) (omega (arith, length-slice_split is_space front)) (join_with_byte-slice_split 32 front)

-- a text is a line: it has one line feed, at its end
pub record IsLineText (text : List ℕ) : Type 0 where
  pub words : List ℕ
  pub is : text ≡ words ++ 10 ∷ []
  pub whole : list_all in_line words ≡ true

lines_of-words : (m rest : List ℕ) → list_all in_line m ≡ true → lines_of ((m ++ 10 ∷ []) ++ rest) ≡ (m ++ 10 ∷ []) ∷ lines_of rest
lines_of-words [] rest h = refl
lines_of-words (b ∷ bs) rest h =
    let parts = and_parts (in_line b) (list_all in_line bs) h in
    rw (not-true (is_feed b) parts.0, lines_of-words bs rest parts.1) refl

-- a line before a text is its first
pub lines_of-line : (line rest : List ℕ) → IsLineText line → lines_of (line ++ rest) ≡ line ∷ lines_of rest
lines_of-line line rest h = rw h.is (lines_of-words h.words rest h.whole)

-- lines before a text are its first
pub lines_of-lines : {X : Type 0} (f : X → List ℕ) (xs : List X) (rest : List ℕ) → All (λ x. IsLineText (f x)) xs → lines_of (flat_map f xs ++ rest) ≡ map f xs ++ lines_of rest
lines_of-lines {X = X} f xs rest h = by xs (recursion_from_All (λ x. IsLineText (f x)) xs h)
  where
    by : (xs : List X) → AllByRecursion (λ x. IsLineText (f x)) xs → lines_of (flat_map f xs ++ rest) ≡ map f xs ++ lines_of rest
    by [] h = refl
    by (x ∷ xs) h = rw (append_assoc (f x) (flat_map f xs) rest, lines_of-line (f x) (flat_map f xs ++ rest) h.0, by xs h.1) refl
