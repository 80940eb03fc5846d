-- One rule more is a step more.
use Rattle.hw_space.specs.Prelude.{or_parts, no_rule}
use Rattle.hw_space.proofs.RuleLaws.{kept_more}
use Rattle.hw_space.proofs.StepLaws.{IsBoxStep-trans}
use Rattle.hw_space.proofs.settle.round.Goals as goal

pub loop-rule-preserved : goal.loop-rule-preserved
loop-rule-preserved c =
    let so_far = c.loop-rule.invariant in
    let once = c.in_ok-moved.ensures in
    record {
      step = IsBoxStep-trans so_far.step once.step;
      kept = λ none.
          let both = or_parts c.loop-rule.changed c.in_ok-moved.moved none in
          kept_more c.args.ranges.now c.loop-rule.ranges c.args.rules.now c.loop-rule.rule-index no_rule c.loop-rule-test.true
          (so_far.step.still both.0) (so_far.kept both.0) (once.kept both.1);
    }
