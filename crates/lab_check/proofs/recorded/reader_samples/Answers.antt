use Rattle.lab_check.specs.Prelude.{length, List, subst, sym, ◌*◌, ◌+◌, ◌<◌, ◌^◌, ◌≡◌, IfOk-weaker, Vec, option_copied, IfOk, ℤ}
use Rattle.lab_check.proofs.FileSizes.{reader-few}
use Rattle.lab_check.proofs.ReaderSamples.{recorded-at}
use Rattle.lab_check.proofs.Tested.{ends_below, one_reader}
use Rattle.lab_check.specs.Samples as samples
use Rattle.lab_check.proofs.recorded.reader_samples.Goals as goal

pub samples_of_reader-requires-clause-few : goal.samples_of_reader-requires-clause-few
samples_of_reader-requires-clause-few c = c.requires.tested.few

pub samples_of_reader-requires-clause-end : goal.samples_of_reader-requires-clause-end
samples_of_reader-requires-clause-end c = ends_below c.args.script.now c.args.report.now c.requires.script c.requires.tested.played

pub samples_of_reader-requires-clause-reader : goal.samples_of_reader-requires-clause-reader
samples_of_reader-requires-clause-reader c = one_reader c.args.script.now c.args.report.now c.args.number c.requires.number c.requires.tested.readers

pub returns-clause-samples : goal.returns-clause-samples
returns-clause-samples c =
    subst (λ (l : List ℤ). IfOk c.samples_of_reader.result (λ own. own.items ≡ l))
    (sym (recorded-at c.args.script.now.card (option_copied c.args.capture) c.args.report.now c.args.number c.args.script.now.readers c.line_of_reader-line.result.now
    c.line_of_reader-line.ensures)) c.samples_of_reader.ensures

pub returns-clause-few : goal.returns-clause-few
returns-clause-few c =
    let line = c.line_of_reader-line.result.now in
    let capture = option_copied c.args.capture in
    IfOk-weaker c.samples_of_reader.result (λ (own : Vec ℤ). own.items ≡ samples.reader_samples c.args.script.now.card capture c.args.report.now c.args.number line)
    (λ (own : Vec ℤ). length own.items * 2 + 36 < 2 ^ 32)
    (λ own is. subst (λ (l : List ℤ). length l * 2 + 36 < 2 ^ 32) (sym is)
    (reader-few c.args.script.now capture c.args.report.now c.args.number line c.requires.script c.requires.tested c.line_of_reader-line.ensures))
    c.samples_of_reader.ensures
