use Rattle.lab_report.specs.Prelude.{length, List, subst, sym, ◌∙◌, IfOk-weaker, All, Request, Answers, lines_after, nothing, report_in_text, lines_of}
use Rattle.lab_report.proofs.Actors.{IsAsked, requests_of-asked}
use Rattle.lab_report.proofs.SpelledReport.{answers-read}
use Rattle.lab_report.proofs.reader.read_report.Goals as goal

pub read_lines-requires-clause-actors : goal.read_lines-requires-clause-actors
read_lines-requires-clause-actors c =
    subst (λ (xs : List Request). All (IsAsked (length c.args.script.now.clients) (length c.args.script.now.readers)) xs)
    (sym (c.as_slice.ensures.value ∙ c.in-Ok.ensures))
    (requests_of-asked c.args.script.now c.requires)

pub returns-in-Ok : goal.returns-in-Ok
returns-in-Ok c =
    let text = c.args.text.now in
    let said : Answers c.read_lines.result (report_in_text c.args.script.now text) =
    subst (λ (qs : List Request). Answers c.read_lines.result (lines_after c.args.script.now qs nothing 0 (lines_of text))) (c.as_slice.ensures.value ∙ c.in-Ok.ensures) c.read_lines.ensures in
    let read = answers-read c.args.script.now text c.read_lines.result c.requires said in
    record {
      exact = said;
      of = IfOk-weaker c.read_lines.result _ _ (λ report is. is.0) read;
      one = IfOk-weaker c.read_lines.result _ _ (λ report is. is.1) read;
    }
