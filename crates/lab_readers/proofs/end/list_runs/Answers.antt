use Rattle.lab_readers.specs.Prelude.{arith, length, subst, sym, HasSpace, lists-room, LabReader, runs_by}
use Rattle.lab_readers.proofs.end.list_runs.Goals as goal

pub push_runs-requires : goal.push_runs-requires
push_runs-requires c =
    let l = c.loop-index in
    subst (λ (r : LabReader). HasSpace (length (runs_by r)) l.all) (sym c.index-readers-index.is)
    (lists-room runs_by c.args.all.now l.all c.args.readers.now l.index c.index-readers-index.result (omega arith) l.invariant.runs c.requires l.invariant.room)
