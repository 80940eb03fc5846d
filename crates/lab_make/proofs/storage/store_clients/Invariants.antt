-- The files so far are stored.
use Rattle.lab_make.proofs.Storing.{Storing}
use Rattle.lab_make.proofs.storage.store_clients.Given as goal

abbrev pub invariant-loop-client : goal.invariant-loop-client
invariant-loop-client g l = Storing g.S.Shelf l.fn.shelf l.shelf l.wavs l.client
