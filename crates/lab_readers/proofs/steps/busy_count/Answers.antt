use Rattle.lab_readers.specs.Prelude.{ap, arith, length, slice_index_or, sym, ◌<◌, ◌∙◌, ◌≡◌, count_by_more_no, count_by_more_yes, ops_of, has_lines}
use Rattle.lab_readers.proofs.OpeningLaws.{is_some_op-test}
use Rattle.lab_readers.proofs.steps.busy_count.Goals.{else-has_lines, then-has_lines}
use Rattle.lab_readers.proofs.steps.busy_count.Goals as goal

pub loop-index-preserved : goal.loop-index-preserved
loop-index-preserved c =
    let lines = c.args.lines.now in let readers = c.args.readers.now in let index = c.loop-index.index in let d = c.index-readers-index.result in
    let inside : index < length readers = omega arith in
    let busy : has_lines lines (slice_index_or readers index d) ≡ c.has_lines.result =
    sym (ap (has_lines lines) c.index-readers-index.is) ∙ is_some_op-test c.has_lines.result (ops_of d lines) c.has_lines.ensures in
    elim c.if-has_lines.branch [
      | then-has_lines w ↦ omega (arith, w.count-is, c.loop-index.invariant, count_by_more_yes (has_lines lines) readers index d inside (busy ∙ w.if-has_lines.true))
      | else-has_lines w ↦ omega (arith, w.count-is, c.loop-index.invariant, count_by_more_no (has_lines lines) readers index d inside (busy ∙ w.if-has_lines.false))
    ]
