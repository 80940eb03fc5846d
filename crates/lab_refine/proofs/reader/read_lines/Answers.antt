use Rattle.lab_refine.specs.Prelude.{ap, sym, ◌∙◌, err_from_is_err_and, Ok, on_line}
use Rattle.lab_refine.proofs.AskLines.{Reads-refused, Refuses-passed, asked_in-first, asked_in-none, request_with}
use Rattle.lab_refine.proofs.reader.read_lines.Goals as goal

pub returns-in_default-clause-exact : goal.returns-in_default-clause-exact
returns-in_default-clause-exact c = asked_in-none _ c.in_default.ensures.line

pub returns-in_err-slave-clause-exact : goal.returns-in_err-slave-clause-exact
returns-in_err-slave-clause-exact c =
    Reads-refused _ c.from_residual.result c.in_err-slave.field-0.0 _ c.from_residual.ensures.1
    (asked_in-first _ _ _ _ _ c.in-Some.ensures.line
    (c.in_err-slave.ensures ∙ ap (on_line c.in-Some.line.number) c.read_slave.ensures.slave))

pub returns-in_err-asks-clause-exact : goal.returns-in_err-asks-clause-exact
returns-in_err-asks-clause-exact c =
    let p = err_from_is_err_and c.from_residual-in_err-asks.result c.from_residual-in_err-asks.ensures.1 in
    rw (p.1, p.2)
    (Refuses-passed _ _ _ _
    (λ refused. asked_in-first _ _ _ _ _ c.in-Some.ensures.line (c.in_ok-slave.ensures ∙ ap (on_line c.in-Some.line.number) c.read_slave.ensures.slave)
    ∙ ap (request_with c.in_ok-slave.slave) refused)
    c.in_err-asks.ensures.exact)

pub returns-clause-exact : goal.returns-clause-exact
returns-clause-exact c =
    asked_in-first _ _ _ _ _ c.in-Some.ensures.line (c.in_ok-slave.ensures ∙ ap (on_line c.in-Some.line.number) c.read_slave.ensures.slave)
    ∙ ap (request_with c.in_ok-slave.slave) (c.in_ok-asks.ensures.exact ∙ ap Ok (sym c.from_vec.ensures))
