-- The text of what a parameter may still be.
use Rattle.std.specs.Prelude.{ℕ, ◌/◌, ◌%◌, ◌^◌, ◌==◌, ◌++◌, Bool, true, false, List, [], ◌∷◌, map, filter, codes, if◌then◌else◌}
use Rattle.std.specs.List.{range_with_len, join_with_byte}
use Rattle.std.specs.Fmt.{decimal}
use Rattle.pcm_interval.specs.declared.interval.Interval.{Interval}
use Rattle.pcm_interval.specs.declared.mask.Mask.{Mask}

-- the mark of a lower end
abbrev pub lower_mark : Bool → List ℕ
lower_mark is_open = if is_open then codes "(" else codes "["

-- the mark of an upper end
abbrev pub upper_mark : Bool → List ℕ
upper_mark is_open = if is_open then codes ")" else codes "]"

-- the word for whole numbers alone, after a space
abbrev pub integer_mark : Bool → List ℕ
integer_mark is_integer = if is_integer then codes " integer" else []

-- an interval: its ends between marks, and whether it has whole numbers alone
abbrev pub interval_text : Interval → List ℕ
interval_text i =
    lower_mark i.openmin ++ (decimal i.min ++ (codes "," ++ (decimal i.max ++ (upper_mark i.openmax ++ integer_mark i.integer))))

-- a mask has this number
abbrev pub has_member : Mask → ℕ → Bool
has_member mask n = mask.bits / 2 ^ n % 2 == 1

-- the members of a mask below a number, rising
unfoldable pub members_below : Mask → ℕ → List ℕ
members_below mask n = filter (has_member mask) (range_with_len 0 n)

-- some numbers, a comma between each two
abbrev pub numbers_text : List ℕ → List ℕ
numbers_text numbers = join_with_byte 44 (map decimal numbers)

-- a mask: its members, rising
abbrev pub mask_text : Mask → List ℕ
mask_text mask = numbers_text (members_below mask 64)

-- a list has no element
abbrev pub is_nil : {X : Type 0} → List X → Bool
is_nil [] = true
is_nil (x ∷ xs) = false

-- a number after others, or alone
abbrev pub next_number : Bool → ℕ → List ℕ
next_number first n = if first then decimal n else codes "," ++ decimal n
