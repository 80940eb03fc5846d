use Rattle.lab_check.specs.Prelude.{ap, rules, tests, ◌∙◌, ◌≡◌, position, not}
use Rattle.std.proofs.lemmas.Iterator.{YieldsList-from_slice}
use Rattle.std.proofs.lemmas.Iterator.Search.{position_from_yields_List}
use Rattle.lab_check.proofs.SpanSearch.{position-map}
use Rattle.lab_check.specs.Late as late
use Rattle.lab_check.proofs.late.wrong_row.Goals as goal

pub returns : goal.returns
returns c =
    let found : c.position.result ≡ position (λ b. not b) c.deref.result.now =
    position_from_yields_List (λ b. not b) _ _ c.position.result c.position.ensures.ran (YieldsList-from_slice c.deref.result.now cc) (λ x b q k. search (rules, tests)) in
    found ∙ ap (position (λ b. not b)) (c.deref.ensures.value ∙ c.in_ok-rights.ensures)
    ∙ position-map (late.is_right_row c.args.script.now c.args.wavs.now c.args.report.now) c.args.report.now.rows
