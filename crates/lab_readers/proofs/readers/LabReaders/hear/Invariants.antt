use Rattle.lab_readers.specs.Prelude.{◌≡◌, IsSameCard, HasWalked, readers_of, spare_of, IsHeardBy}
use Rattle.lab_readers.proofs.readers.LabReaders.hear.Given as goal

abbrev pub invariant-loop-index : goal.invariant-loop-index
invariant-loop-index l = record {
  spare : spare_of l.self ≡ spare_of l.fn.self;
  card : IsSameCard l.fn.card l.card;
  walked : HasWalked (IsHeardBy l.fn.card) (readers_of l.fn.self) (readers_of l.self) l.index;
}
