use Rattle.lab_check.specs.Prelude.{drop, ◌++◌, ◌≡◌, greatest_ends}
use Rattle.lab_check.proofs.spans.ends_of.Given as goal

abbrev pub invariant-loop-span : goal.invariant-loop-span
invariant-loop-span l = l.ends.items ++ greatest_ends l.most (drop l.span-index l.spans) ≡ greatest_ends 0 l.spans
