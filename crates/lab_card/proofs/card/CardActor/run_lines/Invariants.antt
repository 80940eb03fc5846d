use Rattle.lab_card.specs.Prelude.{length, take, option_copied, is_of_card, ops_by, CardPart, frames_by, KeepsRoom}
use Rattle.lab_card.proofs.card.CardActor.run_lines.Given as goal

abbrev pub invariant-loop-index : goal.invariant-loop-index
invariant-loop-index l = record {
  part : CardPart (option_copied l.capture) l.phase l.fn.self l.self (ops_by is_of_card (take l.index l.lines));
  keeps : KeepsRoom l.fn.self l.self (length (ops_by is_of_card (take l.index l.lines))) (frames_by (ops_by is_of_card (take l.index l.lines)));
}
