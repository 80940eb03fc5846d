use Rattle.lab_check.specs.Prelude.{take, entries_of_segments, IsSummed}
use Rattle.lab_check.proofs.sums.add_parts.Given as goal

abbrev pub invariant-loop-client : goal.invariant-loop-client
invariant-loop-client l = IsSummed l.script.card.channels l.from (entries_of_segments l.script l.wavs (take l.client-index l.segments)) l.fn.sums l.sums
