-- What the digits mean, and where that has more than 64 bits.
use Rattle.std.proofs.Common.{sym, ◌∙◌, arith}
use Rattle.lab_make.proofs.Ranges.{number_in-value, number_in-wide}
use Rattle.lab_make.proofs.workload.number_in.Goals as goal

pub returns-in_err-value-clause-value : goal.returns-in_err-value-clause-value
returns-in_err-value-clause-value c =
    c.from_residual.ensures
    ∙ number_in-wide c.args.least c.args.most c.args.word.now (sym c.is_numeral.ensures ∙ c.if-not-is_numeral.false) c.in_err-value.ensures (omega arith)

pub returns-clause-value : goal.returns-clause-value
returns-clause-value c =
    c.number_between.ensures
    ∙ number_in-value c.args.least c.args.most c.in_ok-value.value c.args.word.now (sym c.is_numeral.ensures ∙ c.if-not-is_numeral.false) c.in_ok-value.ensures
