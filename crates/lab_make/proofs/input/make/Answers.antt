-- What the two parts are, and where one of them isn't made.
use Rattle.lab_make.specs.Prelude.{◌∙◌, err_from_is_err_and}
use Rattle.lab_make.proofs.input.make.Goals as goal

pub returns-in_err-wavs-clause-only : goal.returns-in_err-wavs-clause-only
returns-in_err-wavs-clause-only c =
    let p = err_from_is_err_and c.from_residual-in_err-wavs.result c.from_residual-in_err-wavs.ensures.1 in
    rw p.1 (p.2 ∙ c.in_err-wavs.ensures.only)

pub returns-clause-wavs : goal.returns-clause-wavs
returns-clause-wavs c = c.in_ok-wavs.ensures.files

pub returns-clause-count : goal.returns-clause-count
returns-clause-count c = c.in_ok-wavs.ensures.count

pub returns-clause-each : goal.returns-clause-each
returns-clause-each c = c.in_ok-wavs.ensures.each
