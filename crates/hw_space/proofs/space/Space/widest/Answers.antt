-- The configuration of one channel with the slave's period and ring is in it.
use Rattle.hw_space.specs.Prelude.{arith, subst, sym, ParamBox, LiesInBox}
use Rattle.hw_space.specs.WidestLaws.{slave_configuration, slave-IsExact, widest-LiesInBox}
use Rattle.hw_space.proofs.space.Space.widest.Goals as goal

pub returns-clause-some : goal.returns-clause-some
returns-clause-some c =
    let slave = c.args.slave.now in
    let configuration = slave_configuration slave.rate slave.period slave.ring in
    let held = widest-LiesInBox slave.channels slave.rate slave.period slave.ring slave.some_channels slave.rate_least slave.rate_most
    slave.period_least slave.period_most slave.period_divides slave.ring_most in (
      configuration,
      slave-IsExact slave.rate slave.period slave.ring (omega (arith, slave.period_least)) slave.period_divides,
      subst (λ (b : ParamBox). LiesInBox b configuration) (sym c.widest_ranges.ensures) held,
    )
