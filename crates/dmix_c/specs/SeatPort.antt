-- A mix seat as the port of a client, at the gate that never stops; and that each call leaves the seat a later one of its place.
use Rattle.std.specs.Prelude.{⊤}
use Rattle.mix_core.specs.declared.gate.Gate as gates
use Rattle.mix_core.specs.declared.gate.NeverStops.{NeverStops}
use Rattle.mix_core.specs.declared.port.MixPort as mixport
use Rattle.sum_table.specs.declared.seats.mix.MixSeat.{MixSeat}
use Rattle.sum_table.specs.Seats.{IsLaterSeat, IsLaterSeat-joined, IsLaterSeat-same, SeatEndsIn, SeatFinds, SeatLaid, SeatLoaded, noted_word, seat_view}
use Rattle.course.specs.AtPort.{LaysAt, LoadsAt, TakesAt}
use Rattle.course.specs.Course.{Course}
use Rattle.course.specs.CourseLaws.{Takes-keeps}

-- what a mix seat is as a port
abbrev pub seat_port : mixport.Ghosts MixSeat
seat_port = record {
  view = seat_view;
  shows = noted_word;
  ends_in = SeatEndsIn;
  laid = SeatLaid;
  loaded = SeatLoaded;
  finds = SeatFinds;
}

-- the gate that never stops, and keeps no account of its asks
abbrev pub no_gate : gates.Ghosts NeverStops
no_gate = record { stops = λ _. 0; asked = λ _ _ _ _. ⊤ }

-- a course that is taken at a seat leaves a later seat of the same place
pub TakesAt-goes : {X : Type 0} (s t : MixSeat × NeverStops) (m : Course X) (y : X) → TakesAt seat_port no_gate s m t y → IsLaterSeat s.0 t.0
TakesAt-goes s t m y takes =
    Takes-keeps (LoadsAt seat_port no_gate) (LaysAt seat_port no_gate) (λ (a b : MixSeat × NeverStops). IsLaterSeat a.0 b.0)
    (λ a. IsLaterSeat-same a.0)
    (λ a b c one two. IsLaterSeat-joined a.0 b.0 c.0 one two)
    (λ a b load step. step.laid_nothing.goes)
    (λ a b e ended step. step.laid_it.goes)
    s t m y takes
