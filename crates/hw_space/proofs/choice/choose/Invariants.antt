-- What the steps from here on leave, all steps leave.
use Rattle.hw_space.specs.Prelude.{drop, Option, ParamBox, choices, Chooses, IsProper}
use Rattle.hw_space.proofs.choice.choose.Given as goal

abbrev pub invariant-loop-choice : goal.invariant-loop-choice
invariant-loop-choice l = record {
  so_far : (o : Option ParamBox) → Chooses (drop l.choice-index l.choice-items) l.chosen o → Chooses (choices l.period) l.ranges o;
  proper : IsProper l.chosen;
}
