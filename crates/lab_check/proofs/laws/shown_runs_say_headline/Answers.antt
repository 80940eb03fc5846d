use Rattle.lab_check.proofs.Shows.{shown-says}
use Rattle.lab_check.proofs.laws.shown_runs_say_headline.Goals as goal

pub returns : goal.returns
returns c = shown-says
