-- The parts of a key, and what is wrong with them.
use Rattle.std.specs.Prelude.{ℕ, ◌==◌, ◌||◌, Bool, true, false, if◌then◌else◌, List, map, drop, slice_index, length, nat_lt, not, ◌&&◌, Option, Some, None}
use Rattle.std.specs.List.{list_any, slice_split}
use Rattle.asound_conf.specs.declared.error.ConfWhy.{ConfWhy}
use Rattle.asound_conf.specs.declared.error.ConfWhy.TheVariants as why

-- A part of a key: the name of a node in its group. Where `!` is before the part, the node of this name is removed first.
pub record Part : Type 0 where
  pub removes : Bool
  pub name : List ℕ

-- some bytes begin with this one
abbrev pub begins : ℕ → List ℕ → Bool
begins b bytes = nat_lt 0 (length bytes) && slice_index bytes 0 == b

-- a dot
abbrev pub is_dot : ℕ → Bool
is_dot b = b == 46

-- a part whose name is these bytes, as they are
abbrev pub part_named : List ℕ → Part
part_named name = record { removes = false; name = name }

-- the part of a word's piece: `!` before the name is a mark
abbrev pub key_part : List ℕ → Part
key_part piece = if begins 33 piece then record { removes = true; name = drop 1 piece } else part_named piece

-- the parts of a word are its pieces between dots
abbrev pub word_parts : List ℕ → List Part
word_parts word = map key_part (slice_split is_dot word)

-- a name of a function
abbrev pub is_function : Part → Bool
is_function part = begins 64 part.name

-- a name with a prefix
abbrev pub has_prefix : Part → Bool
has_prefix part = begins 43 part.name || begins 45 part.name || begins 63 part.name

-- a part without a name
abbrev pub is_nameless : Part → Bool
is_nameless part = length part.name == 0

-- a part that is neither a function, nor has a prefix, nor is without a name
abbrev pub is_plain : Part → Bool
is_plain part = not (is_function part) && not (has_prefix part) && not (is_nameless part)

-- what is wrong with the parts of a key
abbrev pub key_defect : List Part → Option ConfWhy
key_defect parts =
    if list_any is_function parts then Some why.Function else
    if list_any has_prefix parts then Some why.Prefix else
    if list_any is_nameless parts then Some why.Key else None

-- the parts of a path without their `!`, which has done its work
abbrev pub without_marks : List Part → List Part
without_marks path = map (λ (part : Part). part_named part.name) path
