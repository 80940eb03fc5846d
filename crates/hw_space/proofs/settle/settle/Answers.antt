-- A pass that changes something is a step that does.
use Rattle.hw_space.specs.Steps.{IsBoxStep}
use Rattle.hw_space.proofs.StepLaws.{IsBoxStep-moved}
use Rattle.hw_space.proofs.settle.settle.Goals as goal

pub loop-changed-preserved : goal.loop-changed-preserved
loop-changed-preserved c =
    let moved : IsBoxStep c.loop-changed.ranges c.pass.new.ranges c.in_ok-pass.field-0 = c.in_ok-pass.ensures.step in
    IsBoxStep-moved c.loop-changed.changed c.loop-changed.invariant moved c.if-branch.true
