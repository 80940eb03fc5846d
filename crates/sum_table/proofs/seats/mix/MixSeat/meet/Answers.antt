use Rattle.sum_table.proofs.Cuts.{has_met}
use Rattle.sum_table.proofs.seats.mix.MixSeat.meet.Goals as goal

pub returns : goal.returns
returns c = has_met c.args.self.now _ c.args.note c.requires.1 c.join.ensures
