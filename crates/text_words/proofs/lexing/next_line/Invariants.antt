use Rattle.text_words.specs.Prelude.{length, ◌+◌, ◌≡◌, ◌≤◌, lines_from}
use Rattle.text_words.proofs.lexing.next_line.Given as goal

abbrev pub invariant-loop-rest : goal.invariant-loop-rest
invariant-loop-rest l = record {
  lines : lines_from l.number l.rest ≡ lines_from l.fn.number l.fn.text;
  counted : l.number + length l.rest ≤ l.fn.number + length l.fn.text;
  later : l.fn.number ≤ l.number;
}

abbrev pub decreases-loop-rest : goal.decreases-loop-rest
decreases-loop-rest l = length l.rest
