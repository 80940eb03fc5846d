use Rattle.lab_check.specs.Prelude.{length, List, subst, sym, ◌*◌, ◌+◌, ◌<◌, ◌^◌, ◌≡◌, IfOk-weaker, Vec, ℤ}
use Rattle.lab_check.proofs.FileSizes.{played-few}
use Rattle.lab_check.proofs.Tested.{played-end, segments_right}
use Rattle.lab_check.specs.Samples as samples
use Rattle.lab_check.proofs.played.played_samples.Goals as goal

pub mixed_report-requires-clause-right : goal.mixed_report-requires-clause-right
mixed_report-requires-clause-right c = segments_right c.args.script.now c.args.wavs.now c.args.report.now c.requires.tested.segments

pub mixed_report-requires-clause-end : goal.mixed_report-requires-clause-end
mixed_report-requires-clause-end c = played-end c.args.script.now c.args.report.now c.requires.script c.requires.tested.played

pub returns-clause-few : goal.returns-clause-few
returns-clause-few c =
    IfOk-weaker c.mixed_report.result (λ (played : Vec ℤ). played.items ≡ samples.played_samples c.args.script.now c.args.wavs.now c.args.report.now)
    (λ (played : Vec ℤ). length played.items * 2 + 36 < 2 ^ 32)
    (λ played is. subst (λ (l : List ℤ). length l * 2 + 36 < 2 ^ 32) (sym is) (played-few c.args.script.now c.args.wavs.now c.args.report.now c.requires.script c.requires.tested))
    c.mixed_report.ensures
