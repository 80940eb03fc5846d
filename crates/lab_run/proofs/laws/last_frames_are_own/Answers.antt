use Rattle.lab_run.proofs.MarksLaws.{marks-last}
use Rattle.lab_run.proofs.laws.last_frames_are_own.Goals as goal

pub returns : goal.returns
returns c = marks-last
