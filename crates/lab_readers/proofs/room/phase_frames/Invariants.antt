use Rattle.lab_readers.specs.Prelude.{take, ◌≡◌, sum_by, played_at}
use Rattle.lab_readers.proofs.room.phase_frames.Given as goal

abbrev pub invariant-loop-index : goal.invariant-loop-index
invariant-loop-index l = l.frames ≡ sum_by played_at (take l.index l.lines)
