-- Lines that are written word by word are read as these words.
use Rattle.text_words.specs.Prelude.{ap, append_assoc, arith, Bool, cond, false, filter, get_or, length, List, nat_le, not, one-add, refl, suc, sym, take, true}
use Rattle.text_words.specs.Prelude.{zero, ℕ, [], ◌&&◌, ◌+◌, ◌-◌, ◌==◌, ◌||◌, ◌∙◌, ◌∷◌, ◌≡◌, false≢true, nat_tests, append-nil, take_all, slice_split_at}
use Rattle.text_words.specs.Prelude.{slice_split_none, before_first, enumerate_from, join_with_byte, list_all, position_or_len, slice_split, is_blank, is_hash}
use Rattle.text_words.specs.Prelude.{is_word, line_text, lines_from, lines_text, numbered_lines, put_line, word_lines, words_between, words_in, is_feed}
use Rattle.std.proofs.lemmas.List.Folds.{list_all-append}
use Rattle.text_words.proofs.Tests.{all_of, both, weaker}

-- a visible byte, but `#`
abbrev pub is_plain_byte : ℕ → Bool
is_plain_byte b = nat_le 33 b && nat_le b 126 && not (b == 35)

-- a word of such bytes
abbrev pub is_plain_word : List ℕ → Bool
is_plain_word word = nat_le 1 (length word) && list_all is_plain_byte word

-- a line of one or more such words
abbrev pub is_plain_line : List (List ℕ) → Bool
is_plain_line words = nat_le 1 (length words) && list_all is_plain_word words

-- a byte of such a line
abbrev is_line_byte : ℕ → Bool
is_line_byte b = is_plain_byte b || b == 32

-- a byte of a word separates no words
plain_byte-blank : (b : ℕ) → is_plain_byte b ≡ true → is_blank b ≡ false
plain_byte-blank b e = grind (arith, nat_tests)

-- a byte of a word can be in a line
plain_byte-line : (b : ℕ) → is_plain_byte b ≡ true → is_line_byte b ≡ true
plain_byte-line b e = rw e refl

-- a word that has a byte is kept
kept : (w : List ℕ) (ws : List (List ℕ)) → nat_le 1 (length w) ≡ true → filter is_word (w ∷ ws) ≡ w ∷ filter is_word ws
kept [] ws e = absurd (false≢true e)
kept (b ∷ bs) ws e = refl

-- words with a space between each two are between spaces
pub words_between-join : (w : List ℕ) (ws : List (List ℕ)) → list_all is_plain_word (w ∷ ws) ≡ true → words_between (join_with_byte 32 (w ∷ ws)) ≡ w ∷ ws
words_between-join w [] e =
    let here = both (is_plain_word w) true e in
    let parts = both (nat_le 1 (length w)) (list_all is_plain_byte w) here.0 in
    ap (filter is_word) (slice_split_none is_blank w (all_of is_plain_byte is_blank plain_byte-blank w parts.1)) ∙ kept w [] parts.0
words_between-join w (y ∷ ys) e =
    let here = both (is_plain_word w) (list_all is_plain_word (y ∷ ys)) e in
    let parts = both (nat_le 1 (length w)) (list_all is_plain_byte w) here.0 in
    ap (filter is_word) (slice_split_at is_blank w 32 (join_with_byte 32 (y ∷ ys)) (all_of is_plain_byte is_blank plain_byte-blank w parts.1) refl)
    ∙ kept w (slice_split is_blank (join_with_byte 32 (y ∷ ys))) parts.0
    ∙ ap (λ zs. w ∷ zs) (words_between-join y ys here.1)

-- the bytes of such a line
join-line : (w : List ℕ) (ws : List (List ℕ)) → list_all is_plain_word (w ∷ ws) ≡ true → list_all is_line_byte (join_with_byte 32 (w ∷ ws)) ≡ true
join-line w [] e =
    let here = both (is_plain_word w) true e in
    weaker is_plain_byte is_line_byte plain_byte-line w (both (nat_le 1 (length w)) (list_all is_plain_byte w) here.0).1
join-line w (y ∷ ys) e =
    let here = both (is_plain_word w) (list_all is_plain_word (y ∷ ys)) e in
    let first = weaker is_plain_byte is_line_byte plain_byte-line w (both (nat_le 1 (length w)) (list_all is_plain_byte w) here.0).1 in
    list_all-append is_line_byte w (32 ∷ join_with_byte 32 (y ∷ ys)) ∙ rw (first, join-line y ys here.1) refl

-- no byte of such a line is a carriage return
no_return : (line : List ℕ) (k : ℕ) → list_all is_line_byte line ≡ true → (get_or line k 0 == 13) ≡ false
no_return [] k e = refl
no_return (b ∷ bs) zero e = let here = (both (is_line_byte b) (list_all is_line_byte bs) e).0 in grind (arith, nat_tests, here)
no_return (b ∷ bs) (suc k) e = no_return bs k (both (is_line_byte b) (list_all is_line_byte bs) e).1

-- such a line has no comment
position_or_len-line : (line : List ℕ) → list_all is_line_byte line ≡ true → position_or_len is_hash line ≡ length line
position_or_len-line [] e = refl
position_or_len-line (b ∷ bs) e =
    let parts = both (is_line_byte b) (list_all is_line_byte bs) e in
    let no_hash : is_hash b ≡ false = grind (arith, nat_tests, parts.0) in
    ap (λ t. cond (not t) (1 + position_or_len is_hash bs) 0) no_hash
    ∙ ap (λ n. 1 + n) (position_or_len-line bs parts.1)
    ∙ one-add (length bs)

-- such a line has its words
pub words_in-join : (w : List ℕ) (ws : List (List ℕ)) → list_all is_plain_word (w ∷ ws) ≡ true → words_in (join_with_byte 32 (w ∷ ws)) ≡ w ∷ ws
words_in-join w ws e =
    let line = join_with_byte 32 (w ∷ ws) in
    let bytes = join-line w ws e in
    ap (λ l. words_between (before_first is_hash l)) (ap (λ t. cond t (take (length line - 1) line) line) (no_return line (length line - 1) bytes))
    ∙ ap words_between (ap (λ n. take n line) (position_or_len-line line bytes) ∙ take_all (length line) line (omega arith))
    ∙ words_between-join w ws e

-- the lines of a text of such lines, each with its number
pub lines_from-lines_text : (n : ℕ) (lines : List (List (List ℕ))) → list_all is_plain_line lines ≡ true → lines_from n (lines_text lines) ≡ enumerate_from n lines
lines_from-lines_text n [] e = refl
lines_from-lines_text n ([] ∷ lines) e = absurd (false≢true e)
lines_from-lines_text n ((w ∷ ws) ∷ lines) e =
    let parts = both (is_plain_line (w ∷ ws)) (list_all is_plain_line lines) e in
    let words = (both (nat_le 1 (length (w ∷ ws))) (list_all is_plain_word (w ∷ ws)) parts.0).1 in
    let line = join_with_byte 32 (w ∷ ws) in
    let no_feed = all_of is_line_byte is_feed (λ b is. grind (arith, nat_tests)) line (join-line w ws words) in
    ap (lines_from n) (append_assoc line (10 ∷ []) (lines_text lines))
    ∙ ap (numbered_lines n) (slice_split_at is_feed line 10 (lines_text lines) no_feed refl)
    ∙ ap (λ ps. put_line n ps (lines_from (n + 1) (lines_text lines))) (words_in-join w ws words)
    ∙ ap (λ ls. (n, w ∷ ws) ∷ ls) (lines_from-lines_text (n + 1) lines parts.1)

-- a text of one such line has its words on the first line
pub word_lines-line_text : (words : List (List ℕ)) → is_plain_line words ≡ true → word_lines (line_text words) ≡ (1, words) ∷ []
word_lines-line_text words e = ap word_lines (sym (append-nil (line_text words))) ∙ lines_from-lines_text 1 (words ∷ []) (rw e refl)
