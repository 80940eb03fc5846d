use Rattle.std.proofs.Common.{ap, arith, length, subst, ◌<◌}
use Rattle.lab_check.proofs.Tested.{ends_below, one_reader}
use Rattle.lab_check.proofs.recorded.readers_samples.Goals as goal

pub samples_of_reader-requires-clause-few : goal.samples_of_reader-requires-clause-few
samples_of_reader-requires-clause-few c = c.requires.tested.few

pub samples_of_reader-requires-clause-end : goal.samples_of_reader-requires-clause-end
samples_of_reader-requires-clause-end c = ends_below c.args.script.now c.args.report.now c.requires.script c.requires.tested.played

pub samples_of_reader-requires-clause-reader : goal.samples_of_reader-requires-clause-reader
samples_of_reader-requires-clause-reader c =
    let low : c.loop-line.line-index < length c.args.script.now.readers = subst (λ n. c.loop-line.line-index < n) (ap length c.as_slice-line-items.ensures) c.loop-line-test.true in
    one_reader c.args.script.now c.args.report.now c.loop-line.number (omega (arith, low, c.loop-line.invariant.number_is)) c.requires.tested.readers
