-- A reader's seat as a port.
use Rattle.snoop_core.specs.declared.port.SnoopPort as snoopport
use Rattle.snoop_table.specs.declared.seats.reader.ReaderSeat.{ReaderSeat}
use Rattle.snoop_table.specs.Readers.{SeatFinds, SeatGot, SeatLoaded, seat_view, noted_word}

-- a reader's seat as a port, as proofs take it
abbrev pub seat_port : snoopport.Ghosts ReaderSeat
seat_port =
    record {
      view = seat_view;
      shows = noted_word;
      loaded = SeatLoaded;
      got = SeatGot;
      finds = SeatFinds;
    }
