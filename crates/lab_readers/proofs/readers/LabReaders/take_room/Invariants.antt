use Rattle.lab_readers.specs.Prelude.{◌≡◌, HasWalked, readers_of, spare_of, HasTakenRoom}
use Rattle.lab_readers.proofs.readers.LabReaders.take_room.Given as goal

abbrev pub invariant-loop-index : goal.invariant-loop-index
invariant-loop-index l = record {
  spare : spare_of l.self ≡ spare_of l.fn.self;
  walked : HasWalked (HasTakenRoom l.fn.lines) (readers_of l.fn.self) (readers_of l.self) l.index;
}
