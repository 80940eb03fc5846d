-- The first line of a text and the first word of a line, taken off.
use Rattle.text_words.specs.Prelude.{add-zero, ap, arith, Bool, cond, drop, false, filter, get_or, length, List, None, not, one-add, refl, Some, suc, sym, take}
use Rattle.text_words.specs.Prelude.{true, ℕ, [], ◌+◌, ◌-◌, ◌<◌, ◌∙◌, ◌∷◌, ◌≡◌, ◌≢◌, false≢true, drop_all, get_or-drop, length-take, slice_split-cons_yes}
use Rattle.text_words.specs.Prelude.{slice_split_first, slice_split_none, fails_before_first, passes_at_first, position, position_or_len, slice_split}
use Rattle.text_words.specs.Prelude.{first_and_rest, is_blank, is_of_word, is_word, lines_from, numbered_lines, put_line, words_between, words_in, is_feed}
use Rattle.text_words.proofs.Cuts.{position_end, position_missing, position_place, take-drop}

-- the first line ends at the first line feed
pub lines_from-at : (text : List ℕ) (i n : ℕ) → position is_feed text ≡ Some i
    → lines_from n text ≡ put_line n (words_in (take i text)) (lines_from (n + 1) (take (length text - (i + 1)) (drop (i + 1) text)))
lines_from-at text i n e =
    let h = position_place is_feed text i e in
    rw (take-drop (i + 1) text)
    (ap (numbered_lines n) (slice_split_first is_feed text 0 h.0 ∙ ap (λ k. take k text ∷ slice_split is_feed (drop (k + 1) text)) h.1))

-- without a line feed the text is one line
pub lines_from-none : (text : List ℕ) (n : ℕ) → position is_feed text ≡ None
    → lines_from n text ≡ put_line n (words_in text) (lines_from (n + 1) (take (length text - length text) (drop (length text) text)))
lines_from-none text n e =
    rw (take-drop (length text) text, drop_all (length text) text (omega arith))
    (ap (numbered_lines n) (slice_split_none is_feed text (λ k d h. fails_before_first is_feed text k d (position_missing is_feed text k e h))))

-- a place of one more element
position_or_len-blank : (b : ℕ) (bs : List ℕ) → is_blank b ≡ true → position_or_len is_of_word (b ∷ bs) ≡ suc (position_or_len is_of_word bs)
position_or_len-blank b bs e =
    ap (λ t. cond (not (not t)) (1 + position_or_len is_of_word bs) 0) e ∙ one-add (position_or_len is_of_word bs)

position_or_len-word : (b : ℕ) (bs : List ℕ) → is_blank b ≡ false → position_or_len is_of_word (b ∷ bs) ≡ 0
position_or_len-word b bs e = ap (λ t. cond (not (not t)) (1 + position_or_len is_of_word bs) 0) e

-- a space or a tab before the first word parts no word
skip-cons : (b : ℕ) (bs : List ℕ) (t : Bool) → is_blank b ≡ t
    → words_between (drop (position_or_len is_of_word bs) bs) ≡ words_between bs
    → words_between (drop (position_or_len is_of_word (b ∷ bs)) (b ∷ bs)) ≡ words_between (b ∷ bs)
skip-cons b bs true e rest =
    ap (λ n. words_between (drop n (b ∷ bs))) (position_or_len-blank b bs e)
    ∙ rest
    ∙ sym (ap (filter is_word) (slice_split-cons_yes is_blank b bs e))
skip-cons b bs false e rest = ap (λ n. words_between (drop n (b ∷ bs))) (position_or_len-word b bs e)

-- spaces and tabs before the first word part no word
words_between-skip : (line : List ℕ) → words_between (drop (position_or_len is_of_word line) line) ≡ words_between line
words_between-skip [] = refl
words_between-skip (b ∷ bs) = skip-cons b bs (is_blank b) refl (words_between-skip bs)

-- a line of spaces and tabs alone has no word
pub words_between-none : (line : List ℕ) → position is_of_word line ≡ None → words_between line ≡ []
words_between-none line e =
    sym (words_between-skip line) ∙ ap words_between (drop_all (position_or_len is_of_word line) line (position_end is_of_word line e))

-- a line from its first word on has the same words
pub words_between-from : (line : List ℕ) (i : ℕ) → position is_of_word line ≡ Some i → words_between (take (length line - i) (drop i line)) ≡ words_between line
words_between-from line i e =
    let h = position_place is_of_word line i e in
    rw (take-drop i line) (ap (λ k. words_between (drop k line)) (sym h.1) ∙ words_between-skip line)

-- the byte at the first place passes
position-passes : (p : ℕ → Bool) (xs : List ℕ) (i : ℕ) → position p xs ≡ Some i → p (get_or xs i 0) ≡ true
position-passes p xs i e =
    let h = position_place p xs i e in
    ap (λ k. p (get_or xs k 0)) (sym h.1) ∙ passes_at_first p xs 0 h.0

-- a line from its first word on begins with a byte of a word
pub from_word-begins : (line : List ℕ) (i : ℕ) → position is_of_word line ≡ Some i → position is_blank (take (length line - i) (drop i line)) ≢ Some 0
from_word-begins line i e first =
    let blank : is_blank (get_or line i 0) ≡ true =
    ap is_blank (ap (λ n. get_or line n 0) (sym (add-zero i)) ∙ sym (get_or-drop i line 0 0) ∙ ap (λ xs. get_or xs 0 0) (sym (take-drop i line)))
    ∙ position-passes is_blank (take (length line - i) (drop i line)) 0 first in
    false≢true (sym (ap not blank) ∙ position-passes is_of_word line i e)

-- a word before other pieces is the first word
filter-first : (word : List ℕ) (pieces : List (List ℕ)) → 0 < length word
    → first_and_rest (filter is_word (word ∷ pieces)) ≡ Some (word, filter is_word pieces)
filter-first [] pieces some = absurd (omega arith)
filter-first (b ∷ bs) pieces some = refl

-- a word that begins a line ends before the first space or tab
pub words_between-at : (line : List ℕ) (i : ℕ) → position is_blank line ≡ Some i → position is_blank line ≢ Some 0
    → first_and_rest (words_between line) ≡ Some (take i line, words_between (take (length line - (i + 1)) (drop (i + 1) line)))
words_between-at line i e begins =
    let h = position_place is_blank line i e in
    let later : i ≢ 0 = λ zero. begins (e ∙ ap Some zero) in
    let whole : 0 < length (take i line) = omega (arith, length-take i line, h.0, h.1, later) in
    rw (take-drop (i + 1) line)
    (ap (λ ws. first_and_rest (filter is_word ws)) (slice_split_first is_blank line 0 h.0 ∙ ap (λ k. take k line ∷ slice_split is_blank (drop (k + 1) line)) h.1)
    ∙ filter-first (take i line) (slice_split is_blank (drop (i + 1) line)) whole)

-- a line without a space or a tab is one word
pub words_between-one : (line : List ℕ) → position is_blank line ≡ None → 0 < length line
    → first_and_rest (words_between line) ≡ Some (line, words_between (take (length line - length line) (drop (length line) line)))
words_between-one line e some =
    rw (take-drop (length line) line, drop_all (length line) line (omega arith))
    (ap (λ ws. first_and_rest (filter is_word ws)) (slice_split_none is_blank line (λ k d h. fails_before_first is_blank line k d (position_missing is_blank line k e h)))
    ∙ filter-first line [] some)
