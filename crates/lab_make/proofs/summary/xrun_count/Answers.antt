-- One row more, which counts where it is answered EPIPE.
use Rattle.lab_make.specs.Prelude.{arith, sym, ◌∙◌, count_by_more_no, count_by_more_yes, is_pipe}
use Rattle.lab_make.proofs.summary.xrun_count.Goals.{else-is_pipe, then-is_pipe}
use Rattle.lab_make.proofs.summary.xrun_count.Goals as goal

pub loop-row-preserved : goal.loop-row-preserved
loop-row-preserved c =
    elim c.if-is_pipe.branch [
      | then-is_pipe w ↦ w.xruns-is ∙ omega (arith, c.loop-row.invariant, count_by_more_yes (λ row. is_pipe row.answer) c.args.rows.now c.loop-row.row-index _ c.loop-row-test.true (sym c.is_pipe.ensures ∙ w.if-is_pipe.true))
      | else-is_pipe w ↦ w.xruns-is ∙ omega (arith, c.loop-row.invariant, count_by_more_no (λ row. is_pipe row.answer) c.args.rows.now c.loop-row.row-index _ c.loop-row-test.true (sym c.is_pipe.ensures ∙ w.if-is_pipe.false))
    ]
