use Rattle.lab_commands.specs.Prelude.{refl, err_from_is_err_and, Err, status_of-read, status_of-written, InputFaults-same, OutputFaults-puts}
use Rattle.lab_commands.specs.Prelude.{OutputFaults-reads}
use Rattle.lab_commands.proofs.commands.conf_command.Goals as goal

pub returns-clause-statuses : goal.returns-clause-statuses
returns-clause-statuses g c = status_of-written c.put.result c.put.ensures.puts_text.only

pub returns-clause-reads : goal.returns-clause-reads
returns-clause-reads g c = InputFaults-same c.put.result _ _ c.put.ensures.puts_text.only c.in_ok-text.ensures.only_reads.faults

pub returns-clause-writes : goal.returns-clause-writes
returns-clause-writes g c = OutputFaults-puts c.put.result _ _ _ _ c.in_ok-text.ensures.only_reads.write_faults c.put.ensures.puts_text.faults

pub returns-in_err-text-clause-writes : goal.returns-in_err-text-clause-writes
returns-in_err-text-clause-writes g c =
    let p = err_from_is_err_and c.from_residual.result c.from_residual.ensures.1 in
    rw (p.1, p.2)
    (OutputFaults-reads {X = Unit {0}} (Err c.in_err-text.field-0.0) _ _ _ _ c.in_err-text.ensures.only c.in_err-text.ensures.only_reads.write_faults refl)

pub returns-in_err-text-clause-statuses : goal.returns-in_err-text-clause-statuses
returns-in_err-text-clause-statuses g c =
    let p = err_from_is_err_and c.from_residual.result c.from_residual.ensures.1 in
    rw (p.1, p.2) (status_of-read {T = Unit {0}} (Err c.in_err-text.field-0.0) c.in_err-text.ensures.only)
