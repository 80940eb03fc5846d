-- A pass is a step, and where it changes nothing, the box was settled.
use Rattle.hw_space.proofs.RuleLaws.{all-IsListed, pass-IsSettled}
use Rattle.hw_space.proofs.StepLaws.{IsBoxStep-trans}
use Rattle.hw_space.proofs.settle.pass.Goals as goal

pub round-requires-clause-listed : goal.round-requires-clause-listed
round-requires-clause-listed c = all-IsListed

pub returns-clause-step : goal.returns-clause-step
returns-clause-step c =
    IsBoxStep-trans (IsBoxStep-trans (IsBoxStep-trans (IsBoxStep-trans c.in_ok-period.ensures.step c.in_ok-buffer.ensures.step)
    c.in_ok-by_rules.ensures.step) c.in_ok-sample_bits.ensures.step) c.in_ok-format.ensures.step

pub returns-clause-settled : goal.returns-clause-settled
returns-clause-settled c =
    pass-IsSettled c.in_ok-period.period c.in_ok-buffer.buffer c.in_ok-by_rules.by_rules c.in_ok-sample_bits.sample_bits c.in_ok-format.format
    c.requires c.in_ok-period.ensures.step c.in_ok-buffer.ensures.step c.in_ok-by_rules.ensures.step c.in_ok-sample_bits.ensures.step
    c.in_ok-by_rules.ensures.kept c.in_ok-sample_bits.ensures.kept c.in_ok-format.ensures.kept
