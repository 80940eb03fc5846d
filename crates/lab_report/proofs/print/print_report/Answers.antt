use Rattle.lab_report.specs.Prelude.{ap, rules, ◌∙◌, ◌≡◌, report_in_text, report_text}
use Rattle.lab_report.proofs.Back.{report_in_text-text}
use Rattle.lab_report.proofs.print.print_report.Goals as goal

pub returns-clause-back : goal.returns-clause-back
returns-clause-back c =
    let same : c.into_bytes.result.items ≡ report_text c.args.script.now c.args.report.now = search rules in
    ap (report_in_text c.args.script.now) same
    ∙ report_in_text-text c.args.script.now c.args.report.now c.requires.script c.requires.of c.numbers_are_in_range.ensures
