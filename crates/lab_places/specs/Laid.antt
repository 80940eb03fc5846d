-- What was placed by the seats of free places: none of it is lost while a seat is handed out, or comes back.
use Rattle.std.specs.Prelude.{◌≡◌, ◌<◌, List, [], length, map, Option, None, Some, Result, MatchResult, option_map, replicate, slice_index_or, slice_set}
use Rattle.snd_base.specs.declared.errors.PcmError.{PcmError}
use Rattle.mix_core.specs.declared.port.Entry.{Entry}
use Rattle.sum_table.specs.declared.seats.mix.MixSeat.{MixSeat}
use Rattle.sum_table.specs.Seats.{member_of, view_of}

-- all that a seat placed, and what the seat of each place did, while that is free
abbrev pub laid_list : MixSeat → List Entry
laid_list s = (view_of s).laid

abbrev pub laid_lists : List (Option MixSeat) → List (Option (List Entry))
laid_lists seats = map (option_map laid_list) seats

-- each place is free, and nothing was placed by its seat
abbrev pub IsUnlaid : List (Option MixSeat) → Type 0
IsUnlaid seats = laid_lists seats ≡ replicate (length seats) (Some [])

-- nothing was placed by them in between
abbrev pub IsLaidAlike : List (Option MixSeat) → List (Option MixSeat) → Type 0
IsLaidAlike seats after = laid_lists after ≡ laid_lists seats

-- the seats of free places with one more, whose place wasn't free; nothing was placed in between
pub record IsLaidWith (fewer : List (Option MixSeat)) (s : MixSeat)
    (more : List (Option MixSeat)) : Type 0 where
  pub number : member_of s < length fewer
  pub out : slice_index_or (laid_lists fewer) (member_of s) None ≡ None
  pub with_it : laid_lists more ≡ slice_set (laid_lists fewer) (member_of s) (Some (laid_list s))

-- a seat was handed out, or none
abbrev pub KeepsLaid : List (Option MixSeat) → Result MixSeat PcmError
    → List (Option MixSeat) → Type 0
KeepsLaid before r after =
    MatchResult r (λ s. IsLaidWith after s before) (λ e. IsLaidAlike before after)
