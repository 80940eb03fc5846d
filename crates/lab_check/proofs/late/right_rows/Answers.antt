use Rattle.lab_check.specs.Prelude.{ap, List, subst, sym, take, ℕ, [], ◌++◌, ◌∙◌, ◌∷◌, Bool, map, Segment, AreIndexes}
use Rattle.lab_check.proofs.SpanSearch.{map-more}
use Rattle.lab_check.specs.Late as late
use Rattle.lab_check.proofs.late.right_rows.Goals as goal

pub loop-row-preserved : goal.loop-row-preserved
loop-row-preserved c =
    let script = c.args.script.now in
    let wavs = c.args.wavs.now in
    let report = c.args.report.now in
    let indexes : AreIndexes script wavs report.segments c.as_slice-in-loop-row.result.now =
    subst (AreIndexes script wavs report.segments) (sym c.as_slice-in-loop-row.ensures.value)
    (subst (λ (segments : List (ℕ × Segment)). AreIndexes script wavs segments c.in_ok-indexes.indexes.items) c.as_slice.ensures c.in_ok-indexes.ensures) in
    let right = c.is_right_row.ensures wavs report indexes in
    c.in_ok-push.ensures.items
    ∙ ap (λ (l : List Bool). l ++ c.is_right_row.result ∷ []) c.loop-row.invariant
    ∙ ap (λ (b : Bool). map (late.is_right_row script wavs report) (take c.loop-row.row-index report.rows) ++ b ∷ []) right
    ∙ map-more (late.is_right_row script wavs report) report.rows c.as_slice-row-items.result.now c.loop-row.row-index _ c.as_slice-row-items.ensures c.loop-row-test.true
