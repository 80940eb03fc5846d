-- The parts that were appended are those of the row's line.
use Rattle.lab_report.specs.Prelude.{[], on_ok_weaker}
use Rattle.lab_report.proofs.RowLine.{row_line-appended}
use Rattle.lab_report.proofs.text.push_row.Goals as goal

pub returns : goal.returns
returns c =
    on_ok_weaker c.writeln.result
    (λ e. row_line-appended c.args.script.now c.args.row.now c.request.result _ _ _ _ _ _ _ c.request.ensures
    c.in_ok-push_front.ensures c.in_ok-write.ensures.bytes c.in_ok-push_answer.ensures c.in_ok-write-2.ensures.bytes c.in_ok-push_number.ensures e)
    c.writeln.ensures.bytes
