use Rattle.asound_conf.specs.Prelude.{length, ◌+◌, ◌≡◌, ◌≤◌, last_line, meaning, start, IsReading, state_of, IsSuffix, tokens}
use Rattle.asound_conf.proofs.reader.read_tokens.Given as goal

abbrev pub invariant-loop-lexeme : goal.invariant-loop-lexeme
invariant-loop-lexeme l = record {
  means : meaning start (last_line l.fn.text) (tokens 0 1 l.fn.text) ≡ meaning (state_of l.reading) (last_line l.fn.text) (tokens 0 l.line l.rest);
  bound : l.line + length l.rest ≤ 1 + length l.fn.text;
  suffix : IsSuffix l.fn.text l.rest;
  valid : IsReading l.reading;
  text : l.reading.table.text ≡ l.fn.text;
}

abbrev pub decreases-loop-lexeme : goal.decreases-loop-lexeme
decreases-loop-lexeme l = l.line + length l.rest
