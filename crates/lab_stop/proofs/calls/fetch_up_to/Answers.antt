use Rattle.std.proofs.Common.{Err, ap}
use Rattle.lab_stop.specs.ReadLaws.{AnswersFrom-memory, IsSameShelf-same, OnlyReads-memory}
use Rattle.lab_stop.proofs.Pieces.{piece-fetched, piece-missing}
use Rattle.lab_stop.proofs.calls.fetch_up_to.Goals as goal

pub returns-in_err-named-clause-bytes : goal.returns-in_err-named-clause-bytes
returns-in_err-named-clause-bytes g c = AnswersFrom-memory g.S.Shelf _ c.from_residual.result _ _ c.from_residual.ensures.1

pub returns-in_err-named-clause-only_reads : goal.returns-in_err-named-clause-only_reads
returns-in_err-named-clause-only_reads g c =
    OnlyReads-memory g.S.Shelf c.from_residual.result _ _ c.from_residual.ensures.1 (IsSameShelf-same g.S.Shelf _)

pub returns-in-Ok-clause-bytes : goal.returns-in-Ok-clause-bytes
returns-in-Ok-clause-bytes g c = record {
  answer = piece-fetched _ _ _ c.args.from c.args.most c.in-Ok.ensures.piece;
  missing = λ is m told. tt;
}

pub returns-in-Ok-clause-only_reads : goal.returns-in-Ok-clause-only_reads
returns-in-Ok-clause-only_reads g c = record {
  files = c.in-Ok.ensures.files;
  faults = c.in-Ok.ensures.faults;
  write_faults = c.in-Ok.ensures.write_faults;
  reliable = c.in-Ok.ensures.reliable;
}

pub returns-in-Err-Failed-clause-bytes : goal.returns-in-Err-Failed-clause-bytes
returns-in-Err-Failed-clause-bytes g c = record {
  answer = λ m told. tt;
  missing = λ reliable. piece-missing _ _ _ c.args.from c.args.most (c.in-Err-Failed.ensures.missing reliable (ap Err c.in-Err-Failed.field-0-is))
      c.in_ok-named.ensures.items;
}

pub returns-in-Err-Failed-clause-only_reads : goal.returns-in-Err-Failed-clause-only_reads
returns-in-Err-Failed-clause-only_reads g c = record {
  files = c.in-Err-Failed.ensures.files;
  faults = rw c.in-Err-Failed.field-0-is at c.in-Err-Failed.ensures.faults;
  write_faults = c.in-Err-Failed.ensures.write_faults;
  reliable = c.in-Err-Failed.ensures.reliable;
}

pub returns-in-Err-Memory-clause-bytes : goal.returns-in-Err-Memory-clause-bytes
returns-in-Err-Memory-clause-bytes g c = record { answer = λ m told. tt; missing = λ is m told. tt }

pub returns-in-Err-Memory-clause-only_reads : goal.returns-in-Err-Memory-clause-only_reads
returns-in-Err-Memory-clause-only_reads g c = record {
  files = c.in-Err-Memory.ensures.files;
  faults = rw c.in-Err-Memory.field-0-is at c.in-Err-Memory.ensures.faults;
  write_faults = c.in-Err-Memory.ensures.write_faults;
  reliable = c.in-Err-Memory.ensures.reliable;
}
