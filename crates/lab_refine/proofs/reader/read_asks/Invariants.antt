use Rattle.lab_refine.specs.Prelude.{All, length, ◌+◌, ◌<◌, ◌^◌, ◌≡◌, lines_from, IsAsk, asks_of}
use Rattle.lab_refine.proofs.AskLines.{joined}
use Rattle.lab_refine.proofs.reader.read_asks.Given as goal

abbrev pub invariant-loop-line : goal.invariant-loop-line
invariant-loop-line l = record {
  asked : joined l.asks.items (asks_of (lines_from l.number l.rest)) ≡ asks_of (lines_from l.fn.number l.fn.text);
  can : All IsAsk l.asks.items;
  counted : l.number + length l.rest < 2 ^ 32;
}

abbrev pub decreases-loop-line : goal.decreases-loop-line
decreases-loop-line l = length l.rest
