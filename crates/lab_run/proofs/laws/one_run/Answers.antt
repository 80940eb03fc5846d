use Rattle.lab_run.proofs.laws.one_run.Goals as goal
use Rattle.lab_run.proofs.RunExists.{text-LabRun}
use Rattle.lab_run.proofs.RunUnique.{LabRun-text}

pub returns : goal.returns
returns c session capture body = record {
  one = text-LabRun session capture body;
  only = λ are outcome run. LabRun-text session capture body outcome are run;
}
