use Rattle.std.proofs.Common.{arith, ◌≡◌}
use Rattle.wav_io.proofs.Places.{gap-stays, head-stays, head-leads, fewer}
use Rattle.wav_io.proofs.steps.head.Goals as goal

pub returns-then-skip-gt0-clause-goes_on : goal.returns-then-skip-gt0-clause-goes_on
returns-then-skip-gt0-clause-goes_on c depths =
    rw c.split_at.ensures.back (gap-stays depths c.args.format c.args.skip c.min-gone.result c.args.kept.now c.args.bytes.now (omega arith) (omega arith) c.requires.place)

pub returns-then-len-lt8-clause-goes_on : goal.returns-then-len-lt8-clause-goes_on
returns-then-len-lt8-clause-goes_on c depths =
    let none : c.args.skip ≡ 0 = omega arith in
    rw none (head-stays depths c.args.format _ _ _ _ c.fill-behind.ensures.all (omega arith) c.requires.place.1)

pub returns-then-len-lt8-clause-shorter : goal.returns-then-len-lt8-clause-shorter
returns-then-len-lt8-clause-shorter c = fewer 8 _ _ _ _ c.fill-behind.ensures.all c.fill-behind.ensures.len c.requires.place.0 c.requires.some

pub returns-clause-goes_on : goal.returns-clause-goes_on
returns-clause-goes_on c depths =
    let none : c.args.skip ≡ 0 = omega arith in
    rw (none, c.clear.ensures) (head-leads depths c.args.format _ _ _ _ c.after_head-place.result c.fill-behind.ensures.all
    (rw c.as_slice.ensures at (c.after_head-place.ensures depths)))

pub returns-clause-shorter : goal.returns-clause-shorter
returns-clause-shorter c = fewer 8 _ _ _ _ c.fill-behind.ensures.all c.fill-behind.ensures.len c.requires.place.0 c.requires.some
