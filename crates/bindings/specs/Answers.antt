-- What a list of card channels is answered: itself as bindings, or its first defect.
use Rattle.std.specs.Prelude.{ℕ, ◌==◌, nat_le, nat_lt, if◌then◌else◌, List, [], ◌∷◌, length, slice_index, take, Option, Some, None, Result, Ok, Err}
use Rattle.std.specs.List.{filter_map, list_any, range_with_len}
use Rattle.snd_base.specs.declared.errors.Why.{Why}
use Rattle.snd_base.specs.declared.errors.Why.TheVariants.{BindingsEmpty, BindingsTooMany, BindingRange, BindingTwice}

-- the defect of the entry at a place: a channel that the card does not have, or one that came earlier
abbrev pub entry_defect : List ℕ → ℕ → ℕ → Option Why
entry_defect list card_channels place =
    let channel = slice_index list place in
    if nat_le card_channels channel
    then Some (BindingRange channel)
    else (if list_any (λ bound. bound == channel) (take place list) then Some (BindingTwice channel) else None)

-- the defects of the entries, in their order
abbrev pub entry_defects : List ℕ → ℕ → List Why
entry_defects list card_channels = filter_map (entry_defect list card_channels) (range_with_len 0 (length list))

-- a list with its first defect
abbrev pub or_first : List ℕ → List Why → Result (List ℕ) Why
or_first list [] = Ok list
or_first list (why ∷ later) = Err why

-- the answer: no entry and too many come first, and then the first entry with a defect
abbrev pub answer_of : List ℕ → ℕ → Result (List ℕ) Why
answer_of list card_channels =
    if length list == 0
    then Err BindingsEmpty
    else (if nat_lt 8 (length list) then Err BindingsTooMany else or_first list (entry_defects list card_channels))
