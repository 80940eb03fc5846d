use Rattle.lab_check.specs.Prelude.{drop, ◌++◌, ◌≡◌, option_copied, recordings_of}
use Rattle.lab_check.specs.Samples as samples
use Rattle.lab_check.proofs.recorded.readers_samples.Given as goal

abbrev pub invariant-loop-line : goal.invariant-loop-line
invariant-loop-line l = record {
  number_is : l.number ≡ l.line-index;
  samples_are : recordings_of l.recorded.items ++ samples.readers_samples l.script.card (option_copied l.capture) l.report l.line-index (drop l.line-index l.script.readers)
      ≡ samples.readers_samples l.script.card (option_copied l.capture) l.report 0 l.script.readers;
}
