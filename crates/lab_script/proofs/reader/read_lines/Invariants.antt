use Rattle.lab_script.specs.Prelude.{length, ◌+◌, ◌<◌, ◌^◌, ◌≡◌, lines_from, card_alone, view, after}
use Rattle.lab_script.proofs.reader.read_lines.Given as goal

abbrev pub invariant-loop-line : goal.invariant-loop-line
invariant-loop-line l = record {
  said : after (view l.draft) (lines_from l.number l.rest) ≡ after (card_alone l.fn.card) (lines_from l.fn.number l.fn.text);
  small : l.number + length l.rest < 2 ^ 32;
}

abbrev pub decreases-loop-line : goal.decreases-loop-line
decreases-loop-line l = length l.rest
