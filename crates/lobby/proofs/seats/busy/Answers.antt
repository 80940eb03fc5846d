use Rattle.lobby.proofs.Busies.{some_last}
use Rattle.lobby.proofs.seats.busy.Goals as goal

pub unreachable-requires : goal.unreachable-requires
unreachable-requires c = some_last c.args.seats.now c.args.position c.requires.some_free c.requires.none_silent c.in_default.ensures.value
