use Rattle.lab_readers.specs.Prelude.{LabReaders, AreAt-new}
use Rattle.lab_readers.proofs.readers.LabReaders.new.Goals as goal

pub returns-clause-first : goal.returns-clause-first
returns-clause-first c session capture is =
    let readers : LabReaders = record { seat = c.args.seat; readers = c.in_ok-readers.readers } in
    AreAt-new session capture c.args.count readers is c.in_ok-readers.ensures.count c.in_ok-readers.ensures.new
