-- Which words are names of clients and readers, and of files.
use Rattle.std.specs.Prelude.{ℕ, Bool, false, ◌&&◌, ◌||◌, not, List, [], ◌∷◌, length, codes, bytes_eq, ◌==◌, nat_le}
use Rattle.std.specs.List.{list_all}
use Rattle.std.specs.Char.{is_ascii_digit}

-- a lower-case letter
abbrev pub is_lower : ℕ → Bool
is_lower b = nat_le 97 b && nat_le b 122

-- a lower-case letter, a digit or `_`
abbrev pub is_name_byte : ℕ → Bool
is_name_byte b = is_lower b || is_ascii_digit b || b == 95

-- the words that no name is
abbrev pub is_reserved : List ℕ → Bool
is_reserved word = bytes_eq word (codes "card") || bytes_eq word (codes "client") || bytes_eq word (codes "reader") || bytes_eq word (codes "open") || bytes_eq word (codes "close") || bytes_eq word (codes "phase") || bytes_eq word (codes "end")

-- a word begins with a lower-case letter
abbrev pub begins_lower : List ℕ → Bool
begins_lower [] = false
begins_lower (b ∷ bs) = is_lower b

-- a name: 1 to 32 bytes, a lower-case letter and then lower-case letters, digits and `_`, and no reserved word
abbrev pub is_name : List ℕ → Bool
is_name word = begins_lower word && nat_le (length word) 32 && list_all is_name_byte word && not (is_reserved word)

-- a byte of a file's name: a visible one, but `#`
abbrev pub is_file_byte : ℕ → Bool
is_file_byte b = nat_le 33 b && nat_le b 126 && not (b == 35)

-- a file's name: 1 to 255 visible bytes without `#`
abbrev pub is_file : List ℕ → Bool
is_file word = nat_le 1 (length word) && nat_le (length word) 255 && list_all is_file_byte word
