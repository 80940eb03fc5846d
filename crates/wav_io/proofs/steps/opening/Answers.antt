use Rattle.std.proofs.Common.{arith}
use Rattle.wav_io.proofs.Places.{opening-stays, opening-leads, fewer}
use Rattle.wav_io.proofs.steps.opening.Goals as goal

pub returns-then-len-lt12-clause-goes_on : goal.returns-then-len-lt12-clause-goes_on
returns-then-len-lt12-clause-goes_on c depths = opening-stays depths _ _ _ _ c.fill-behind.ensures.all (omega arith)

pub returns-then-len-lt12-clause-shorter : goal.returns-then-len-lt12-clause-shorter
returns-then-len-lt12-clause-shorter c = fewer 12 _ _ _ _ c.fill-behind.ensures.all c.fill-behind.ensures.len c.requires.place c.requires.some

pub returns-clause-goes_on : goal.returns-clause-goes_on
returns-clause-goes_on c depths =
    rw c.clear.ensures (opening-leads depths _ _ _ _ c.after_opening-place.result c.fill-behind.ensures.all (rw c.as_slice.ensures at (c.after_opening-place.ensures depths)))

pub returns-clause-shorter : goal.returns-clause-shorter
returns-clause-shorter c = fewer 12 _ _ _ _ c.fill-behind.ensures.all c.fill-behind.ensures.len c.requires.place c.requires.some
