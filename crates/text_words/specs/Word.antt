-- Which words are numbers, and the parts of a list.
use Rattle.std.specs.Prelude.{ℕ, Bool, true, false, ◌&&◌, not, List, [], ◌∷◌, length, Option, Some, None, ◌==◌, nat_le, if◌then◌else◌}
use Rattle.std.specs.List.{slice_split}
use Rattle.std.specs.Str.{all_ascii_digits}
use Rattle.std.specs.Str.Parse.{digits_value}

-- a line feed
abbrev pub is_feed : ℕ → Bool
is_feed b = b == 10

-- a space
abbrev pub is_space : ℕ → Bool
is_space b = b == 32

-- a comma
abbrev pub is_comma : ℕ → Bool
is_comma b = b == 44

-- the parts of a word: what is between its commas
abbrev pub parts_of : List ℕ → List (List ℕ)
parts_of word = slice_split is_comma word

-- the number that a word means: it has 1 to 19 decimal digits
abbrev pub number_of_word : List ℕ → Option ℕ
number_of_word word = if nat_le 1 (length word) && nat_le (length word) 19 && all_ascii_digits word then Some (digits_value 10 word) else None

-- a number up to a limit
abbrev pub within : ℕ → ℕ → Option ℕ
within most n = if nat_le n most then Some n else None

-- a word has a byte, and no leading zero
abbrev pub lacks_leading_zero : List ℕ → Bool
lacks_leading_zero [] = false
lacks_leading_zero (b ∷ []) = true
lacks_leading_zero (b ∷ c ∷ bs) = not (b == 48)

-- the decimal form of a number: digits without leading zeros
abbrev pub is_decimal : List ℕ → Bool
is_decimal word = lacks_leading_zero word && all_ascii_digits word

-- the number up to a limit whose decimal form a word is
abbrev pub decimal_of : ℕ → List ℕ → Option ℕ
decimal_of most word = if is_decimal word then within most (digits_value 10 word) else None

-- there is a number, and it is this one
abbrev pub is_number : ℕ → Option ℕ → Bool
is_number n None = false
is_number n (Some m) = m == n
