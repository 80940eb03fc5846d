-- Two seats that place a sample each in the first word of a ring.
use Rattle.std.specs.Prelude.{[], ◌∷◌, ℤ}
use Rattle.snd_base.specs.Places.{IsFrom}
use Rattle.mix_core.specs.Laid.{an_add}
use Rattle.sum_table.specs.declared.seats.mix.MixSeat.{MixSeat}
use Rattle.sum_table.specs.Seats.{CanAdd, SeatLaid, cursor_of_seat, member_of}

-- a seat can place a sample in the ring's first frame
abbrev pub CanPlaceFirst : MixSeat → Type 0
CanPlaceFirst seat = CanAdd seat × IsFrom (cursor_of_seat seat) 0 0

-- a seat placed one sample, in the ring's first frame and its first channel
abbrev pub HasPlacedFirst : MixSeat → MixSeat → ℤ → Type 0
HasPlacedFirst before after sample =
    SeatLaid before after (an_add (member_of before) 0 0 sample ∷ [])
