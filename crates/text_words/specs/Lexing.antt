-- The lines of a text and the words of a line, as every text of the program has them.
use Rattle.std.specs.Prelude.{ℕ, ◌+◌, ◌-◌, ◌++◌, ◌==◌, ◌||◌, not, Bool, true, false, if◌then◌else◌, List, [], ◌∷◌, length, take, filter, slice_index_or, Option, Some, None}
use Rattle.std.specs.List.{before_first, flat_map, join_with_byte, slice_split}
use Rattle.text_words.specs.Word.{is_feed, is_space}

-- a space or a tab
abbrev pub is_blank : ℕ → Bool
is_blank b = is_space b || b == 9

-- a byte of a word
abbrev pub is_of_word : ℕ → Bool
is_of_word b = not (is_blank b)

-- the `#` with which a comment begins
abbrev pub is_hash : ℕ → Bool
is_hash b = b == 35

-- a line without the carriage return at its very end, where there is one
abbrev pub without_return : List ℕ → List ℕ
without_return line = if slice_index_or line (length line - 1) 0 == 13 then take (length line - 1) line else line

-- a word has a byte at least
abbrev pub is_word : List ℕ → Bool
is_word [] = false
is_word (b ∷ bs) = true

-- the words of a line without a comment: what is between its spaces and tabs, but for nothing
abbrev pub words_between : List ℕ → List (List ℕ)
words_between line = filter is_word (slice_split is_blank line)

-- the words of a line: its carriage return is dropped, and then `#` and all after it
abbrev pub words_in : List ℕ → List (List ℕ)
words_in line = words_between (before_first is_hash (without_return line))

-- a line of this number with these words before other lines, where it has words
abbrev pub put_line : ℕ → List (List ℕ) → List (ℕ × List (List ℕ)) → List (ℕ × List (List ℕ))
put_line number [] lines = lines
put_line number (word ∷ words) lines = (number, word ∷ words) ∷ lines

-- those of some lines that have words, each with its number, of which the first has this
abbrev pub numbered_lines : ℕ → List (List ℕ) → List (ℕ × List (List ℕ))
numbered_lines number [] = []
numbered_lines number (line ∷ lines) = put_line number (words_in line) (numbered_lines (number + 1) lines)

-- the lines of a text that have words, each with its number and its words, where the first line has this number; lines end
-- with a line feed, which the last may lack
abbrev pub lines_from : ℕ → List ℕ → List (ℕ × List (List ℕ))
lines_from number text = numbered_lines number (slice_split is_feed text)

-- the lines of a text that have words, each with its number, counted from 1, and its words
abbrev pub word_lines : List ℕ → List (ℕ × List (List ℕ))
word_lines text = lines_from 1 text

-- the first of a list and the rest, where there is one
abbrev pub first_and_rest : {X : Type 0} → List X → Option (X × List X)
first_and_rest [] = None
first_and_rest (x ∷ xs) = Some (x, xs)

-- the text of a line: its words, a space between each two, and a line feed
abbrev pub line_text : List (List ℕ) → List ℕ
line_text words = join_with_byte 32 words ++ 10 ∷ []

-- the text of lines
abbrev pub lines_text : List (List (List ℕ)) → List ℕ
lines_text lines = flat_map line_text lines
