use Rattle.lobby.specs.Prelude.{IfSome, take, ◌+◌, ◌<◌, ◌^◌, last_frames}
use Rattle.lobby.proofs.Leasts.{IsLeastOf}
use Rattle.lobby.proofs.seats.least_last.Given as goal

abbrev pub invariant-loop-seat : goal.invariant-loop-seat
invariant-loop-seat l = record {
  least : IsLeastOf (last_frames (take l.seat-index l.seats)) l.least;
  fits : IfSome l.least (λ frame. frame + 1 < 2 ^ 64);
}
