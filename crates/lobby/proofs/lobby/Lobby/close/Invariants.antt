use Rattle.lobby.proofs.Closing.{IsJoining}
use Rattle.lobby.proofs.lobby.Lobby.close.Given as goal

abbrev pub invariant-loop-seat : goal.invariant-loop-seat
invariant-loop-seat l = IsJoining l.fn.self l.whole l.yielded l.seat-iterator.rest.items
