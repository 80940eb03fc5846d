-- A mix seat as the port of a client.
use Rattle.mix_core.specs.declared.port.MixPort as mixport
use Rattle.sum_table.specs.declared.seats.mix.MixSeat.{MixSeat}
use Rattle.sum_table.specs.Seats.{SeatEndsIn, SeatFinds, SeatLaid, SeatLoaded, seat_view, noted_word}

-- what a mix seat is as a port
abbrev pub seat_port : mixport.Ghosts MixSeat
seat_port = record {
  view = seat_view;
  shows = noted_word;
  ends_in = SeatEndsIn;
  laid = SeatLaid;
  loaded = SeatLoaded;
  finds = SeatFinds;
}
