-- A reader's seat as the port of a reader, at the gate that never stops; and that each call leaves the seat a later one of its ring.
use Rattle.mix_core.specs.declared.gate.NeverStops.{NeverStops}
use Rattle.snoop_core.specs.declared.port.SnoopPort as snoopport
use Rattle.snoop_table.specs.declared.seats.reader.ReaderSeat.{ReaderSeat}
use Rattle.snoop_table.specs.Readers.{IsLaterSeat, IsLaterSeat-joined, IsLaterSeat-same, SeatFinds, SeatGot, SeatLoaded, noted_word, seat_view}
use Rattle.course.specs.AtSnoopPort.{GetsAtSnoop, LoadsAtSnoop, TakesAtSnoop}
use Rattle.course.specs.Course.{Course}
use Rattle.course.specs.CourseLaws.{Takes-keeps_getting}
use Rattle.dmix_c.specs.SeatPort.{no_gate}

-- what a reader's seat is as a port
abbrev pub reader_port : snoopport.Ghosts ReaderSeat
reader_port = record {
  view = seat_view;
  shows = noted_word;
  loaded = SeatLoaded;
  got = SeatGot;
  finds = SeatFinds;
}

-- a course that is taken at a reader's seat leaves a later seat of the same ring
pub TakesAtSnoop-goes : {X : Type 0} (s t : ReaderSeat × NeverStops) (m : Course X) (y : X) → TakesAtSnoop reader_port no_gate s m t y → IsLaterSeat s.0 t.0
TakesAtSnoop-goes s t m y takes =
    Takes-keeps_getting (LoadsAtSnoop reader_port no_gate) (GetsAtSnoop reader_port no_gate) (λ (a b : ReaderSeat × NeverStops). IsLaterSeat a.0 b.0)
    (λ a. IsLaterSeat-same a.0)
    (λ a b c one two. IsLaterSeat-joined a.0 b.0 c.0 one two)
    (λ a b load step. step.got_nothing.goes)
    (λ a b number got step. step.1.got_it.goes)
    s t m y takes
