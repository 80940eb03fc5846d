use Rattle.sum_table.specs.Prelude.{to_z-of_z, w16}
use Rattle.sum_table.proofs.seats.mix.MixSeat.place_at.Goals as goal

pub returns-clause-step : goal.returns-clause-step
returns-clause-step g c =
    λ fits. rw (to_z-of_z w16 c.args.sample c.ranges.sample) at (c.place_counted.ensures.step fits).step
