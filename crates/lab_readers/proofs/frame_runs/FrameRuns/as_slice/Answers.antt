use Rattle.lab_readers.specs.Prelude.{ap, sym, ◌∙◌, runs_of, frames_of_runs, RunList}
use Rattle.lab_readers.proofs.RunLists.{runs_of-apart}
use Rattle.lab_readers.proofs.frame_runs.FrameRuns.as_slice.Goals as goal

pub returns-clause-runs : goal.returns-clause-runs
returns-clause-runs c =
    let same = ap (λ (view : RunList). view.runs) c.self.view_is in
    ap (λ runs. runs_of (frames_of_runs runs)) (sym same) ∙ runs_of-apart c.self.inside.runs.items c.self.invariant ∙ sym c.as_slice.ensures.value
