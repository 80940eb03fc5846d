use Rattle.lab_card.specs.Prelude.{take, ◌+◌, ◌≡◌, is_of_card, ops_by, frames_by}
use Rattle.lab_card.proofs.lines.plays_at_most.Given as goal

abbrev pub invariant-loop-index : goal.invariant-loop-index
invariant-loop-index l = l.left + frames_by (ops_by is_of_card (take l.index l.lines)) ≡ l.most
