use Rattle.lab_card.specs.Prelude.{length, take, ◌≡◌, ◌≤◌, is_of_card, ops_by}
use Rattle.lab_card.proofs.lines.line_count.Given as goal

abbrev pub invariant-loop-index : goal.invariant-loop-index
invariant-loop-index l = record {
  value : l.count ≡ length (ops_by is_of_card (take l.index l.lines));
  most : l.count ≤ l.index;
}
