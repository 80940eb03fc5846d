use Rattle.lab_run.proofs.OneSession.{IsSessionOf-unique}
use Rattle.run_laws.proofs.headline.scripts_have_one_session.Goals as goal

pub returns : goal.returns
returns c = IsSessionOf-unique
