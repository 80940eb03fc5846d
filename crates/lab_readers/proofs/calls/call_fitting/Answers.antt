use Rattle.lab_readers.specs.Prelude.{subst, sym, Op, HasSpace, samples_wanted}
use Rattle.lab_readers.proofs.Rooms.{fitting-fits}
use Rattle.lab_readers.proofs.calls.call_fitting.Goals as goal

pub call-requires-clause-room : goal.call-requires-clause-room
call-requires-clause-room g c =
    subst (λ (asked : Op). HasSpace (samples_wanted c.args.reader.now asked) c.args.samples.now) (sym c.fitting-asked.ensures)
    (fitting-fits c.args.reader.now c.args.samples.now c.args.asked)
