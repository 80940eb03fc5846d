use Rattle.lobby.specs.Prelude.{vec_capacity, ◌≤◌, places_of_seat}
use Rattle.lobby.proofs.Splitting.{IsSplitting}
use Rattle.lobby.proofs.lobby.Lobby.new.Given as goal

abbrev pub invariant-loop-place : goal.invariant-loop-place
invariant-loop-place l = record {
  splitting : IsSplitting l.fn.seat l.base l.seats.items l.place;
  room : places_of_seat l.fn.seat ≤ vec_capacity l.seats;
}
