use Rattle.std.proofs.Common.{◌≡◌, ◌-◌}
use Rattle.lab_check.specs.Reads as reads
use Rattle.lab_check.proofs.defects.readers_defect.Given as goal

abbrev pub invariant-loop-number : goal.invariant-loop-number
invariant-loop-number l = reads.readers_defect l.report l.number (l.count - l.number) ≡ reads.readers_defect l.report 0 l.count
