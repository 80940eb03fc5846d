use Rattle.lab_check.specs.Prelude.{ap, List, ℕ, ◌++◌, ◌+◌, ◌∙◌, option_copied, map, ℤ, captured_by}
use Rattle.lab_check.proofs.ReaderSamples.{frame-more}
use Rattle.lab_check.proofs.recorded.push_run.Goals as goal

pub loop-index-preserved : goal.loop-index-preserved
loop-index-preserved c =
    let of = λ (frame : ℕ). map (captured_by c.args.card.now (option_copied c.args.capture) frame) c.args.bindings in
    c.in_ok-push_frame.ensures
    ∙ ap (λ (l : List ℤ). l ++ of (c.args.first + c.loop-index.index)) c.loop-index.invariant
    ∙ frame-more of c.args.first c.loop-index.index c.args.samples.now.items
