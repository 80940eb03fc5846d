use Rattle.lab_run.proofs.OneSession.{IsClientOpening-unique, IsReaderOpening-unique}
use Rattle.lab_actors.proofs.opening.openings_are_one.Goals as goal

pub returns-clause-clients : goal.returns-clause-clients
returns-clause-clients c = IsClientOpening-unique

pub returns-clause-readers : goal.returns-clause-readers
returns-clause-readers c = IsReaderOpening-unique
