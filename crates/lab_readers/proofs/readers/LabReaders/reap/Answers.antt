use Rattle.lab_readers.specs.Reaped.{AreAt-reaped}
use Rattle.lab_readers.proofs.readers.LabReaders.reap.Goals as goal

pub returns-clause-reaped : goal.returns-clause-reaped
returns-clause-reaped c session capture xs done = AreAt-reaped session capture xs c.args.self.now c.close_stopped.new.self done c.close_stopped.ensures
