use Rattle.lab_output.specs.Prelude.{ap, drop, length, List, take, ℕ, ◌++◌, ◌-◌, ◌∙◌, ◌≡◌, All-drop, All-same, All-take, flat_map, Row, IsRowOf, row_line}
use Rattle.lab_output.specs.Prelude.{tail_text, PutsText-memory, PutsText-named, tail_from}
use Rattle.lab_output.proofs.Rows.{rows_text-slice}
use Rattle.lab_output.proofs.outputs.Outputs.put_tail.Goals as goal

pub rows_from-requires : goal.rows_from-requires
rows_from-requires g c = All-take (IsRowOf c.args.script.now) _ _ (All-drop (IsRowOf c.args.script.now) _ _ (All-same (IsRowOf c.args.script.now) _ _ c.as_slice.ensures c.requires.rows))

pub returns : goal.returns
returns g c =
    let e : c.deref.result.now ≡ tail_from c.args.script.now c.args.self.now.rows c.args.report.now =
    c.deref.ensures.value ∙ c.in_ok-push_tail.ensures.ok
    ∙ ap (λ (t : List ℕ). t ++ tail_text c.args.script.now c.args.report.now)
    (c.in_ok-text.ensures.text
    ∙ ap (λ (rows : List Row). flat_map (row_line c.args.script.now) (take (length rows - c.args.self.now.rows) (drop c.args.self.now.rows rows))) c.as_slice.ensures
    ∙ rows_text-slice c.args.script.now c.args.self.now.rows c.args.report.now.rows) in
    record { puts_text = PutsText-named g.K.Sink c.deref.result.now _ c.put.result _ _ e c.put.ensures.puts_text }

pub returns-in_err-text : goal.returns-in_err-text
returns-in_err-text g c = record {
  puts_text = PutsText-memory g.K.Sink _ c.from_residual.result c.in_err-text.field-0.0 _ c.from_residual.ensures.1 c.in_err-text.ensures.only;
}

pub returns-in_err-push_tail : goal.returns-in_err-push_tail
returns-in_err-push_tail g c = record {
  puts_text = PutsText-memory g.K.Sink _ c.from_residual-in_err-push_tail.result c.in_err-push_tail.field-0.0 _ c.from_residual-in_err-push_tail.ensures.1 c.in_err-push_tail.ensures.only;
}
