-- A step changes the space exactly where it says so.
use Rattle.hw_space.specs.Prelude.{subst, IsTrue, ◌≡◌, ParamBox}
use Rattle.hw_space.proofs.StepLaws.{changed-IsBoxStep}
use Rattle.hw_space.proofs.space.Space.refine.Goals as goal

pub returns-clause-changed : goal.returns-clause-changed
returns-clause-changed c =
    subst (λ (b : ParamBox). (IsTrue c.in_ok-changed.changed → c.settle.new.ranges ≡ b → ⊥) × ((c.settle.new.ranges ≡ b → ⊥) → IsTrue c.in_ok-changed.changed)) c.self.view_is
    (changed-IsBoxStep c.in_ok-changed.changed c.in_ok-changed.ensures.step)
