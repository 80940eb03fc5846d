-- The lines of a report's text, and the words, spaces and numbers of a line.
use Rattle.std.specs.Prelude.{ℕ, ◌==◌, ◌&&◌, ◌||◌, not, Bool, if◌then◌else◌, List, [], ◌∷◌, drop, codes, bytes_eq, Option, Some, None, option_map, Result, Ok, Err, is_some}
use Rattle.std.specs.List.{before_first, position_or_len}
use Rattle.text_words.specs.Word.{decimal_of, is_decimal, is_feed, is_space}
use Rattle.lab_report.specs.declared.error.ReportWhy.{ReportWhy}
use Rattle.lab_report.specs.declared.error.ReportWhy.TheVariants as why
use Rattle.lab_report.specs.Causes.{◌>>=◌, some_or}

-- a byte before the first of some lines
abbrev pub onto_first : ℕ → List (List ℕ) → List (List ℕ)
onto_first b [] = (b ∷ []) ∷ []
onto_first b (line ∷ lines) = (b ∷ line) ∷ lines

-- the lines of a text, each with its line feed, which the last may lack
abbrev pub lines_of : List ℕ → List (List ℕ)
lines_of [] = []
lines_of (b ∷ bs) = if b == 10 then (b ∷ []) ∷ lines_of bs else onto_first b (lines_of bs)

-- the end of a word
abbrev pub is_end : ℕ → Bool
is_end b = is_space b || is_feed b

-- the word at the front of what is left of a line, and the rest
abbrev pub front_word : List ℕ → Result (List ℕ × List ℕ) ReportWhy
front_word [] = Err why.Ended
front_word (b ∷ bs) = Ok (before_first is_end (b ∷ bs), drop (position_or_len is_end (b ∷ bs)) (b ∷ bs))

-- what follows a space, where a further word must follow
abbrev pub space_of : List ℕ → Result (List ℕ) ReportWhy
space_of [] = Err why.Ended
space_of (b ∷ bs) = if is_space b then Ok bs else Err why.Word

-- the line feed, where no further word may follow
abbrev pub feed_of : List ℕ → Result (Unit {0}) ReportWhy
feed_of [] = Err why.Ended
feed_of (b ∷ bs) = if is_feed b then Ok tt else Err why.Extra

-- a number up to a limit, and the rest
abbrev pub number_at : ℕ → List ℕ → Result (ℕ × List ℕ) ReportWhy
number_at most rest = (front_word rest) >>= (λ word. (some_or why.Number (decimal_of most word.0)) >>= (λ n. Ok (n, word.1)))

-- the greatest number of 64 bits
abbrev pub most_frames : ℕ
most_frames = 18446744073709551615

-- a number after a space
abbrev pub next_number : ℕ → List ℕ → Result (ℕ × List ℕ) ReportWhy
next_number most rest = (space_of rest) >>= (number_at most)

-- a number, or none, which is written `-`
abbrev pub dash_or_number : List ℕ → Option (Option ℕ)
dash_or_number word = if bytes_eq word (codes "-") then Some None else option_map Some (decimal_of most_frames word)

-- a number or `-`, and the rest
abbrev pub number_or_dash_at : List ℕ → Result (Option ℕ × List ℕ) ReportWhy
number_or_dash_at rest = (front_word rest) >>= (λ word. (some_or why.Word (dash_or_number word.0)) >>= (λ n. Ok (n, word.1)))

-- why a word isn't the one that must follow: where that is a number, it may be no number at all
abbrev pub not_word : List ℕ → List ℕ → ReportWhy
not_word want word = if is_decimal want && not (is_some (decimal_of 4294967295 word)) then why.Number else why.Word

-- the rest after a word that must be this one
abbrev pub expect_word : List ℕ → List ℕ → Result (List ℕ) ReportWhy
expect_word want rest = (front_word rest) >>= (λ word. if bytes_eq word.0 want then Ok word.1 else Err (not_word want word.0))

-- the rest after words that must be these, each with a space after it
abbrev pub expect_words : List (List ℕ) → List ℕ → Result (List ℕ) ReportWhy
expect_words [] rest = Ok rest
expect_words (want ∷ wants) rest = (expect_word want rest) >>= (λ more. (space_of more) >>= (expect_words wants))
