use Rattle.lab_make.specs.Prelude.{refl, All-nil, err_from_is_err_and, CountsNoFault-same, CountsNoFault-writes, OnlyWrites-after, OnlyWrites-done}
use Rattle.lab_make.specs.Prelude.{OnlyWrites-passed, IsReadBack}
use Rattle.lab_make.proofs.Storing.{Storing-all, Storing-next, Storing-read, Storing-stop}
use Rattle.lab_make.proofs.storage.store_clients.Goals as goal

pub loop-client-init : goal.loop-client-init
loop-client-init g c = record { more = refl; part = λ after p. p; read = All-nil IsReadBack; counts = CountsNoFault-same g.S.Shelf _ }

pub loop-client-preserved : goal.loop-client-preserved
loop-client-preserved g c =
    Storing-next g.S.Shelf _ _ _ _ _ c.index-wavs-client.result c.loop-client.invariant c.loop-client-test.true c.index-wavs-client.is
    c.in_ok-store_client.ensures.stored c.in_ok-store_client.ensures.read (CountsNoFault-writes g.S.Shelf _ _ _ c.in_ok-store_client.ensures.only_writes)

pub returns-in_err-store_client : goal.returns-in_err-store_client
returns-in_err-store_client g c =
    let p = err_from_is_err_and c.from_residual.result c.from_residual.ensures.1 in
    record {
      stored = rw p.1 tt;
      read = rw p.1 tt;
      part =
          rw p.1
          (Storing-stop g.S.Shelf _ _ _ _ _ c.index-wavs-client.result c.loop-client.invariant c.loop-client-test.true c.index-wavs-client.is
          c.in_err-store_client.ensures.part);
      only_writes =
          OnlyWrites-passed g.S.Shelf c.from_residual.result c.in_err-store_client.field-0.0 _ _ c.from_residual.ensures.1
          (OnlyWrites-after g.S.Shelf _ _ _ _ c.loop-client.invariant.counts c.in_err-store_client.ensures.only_writes);
      never = λ reliable. rw (p.1, p.2) (c.in_err-store_client.ensures.never (c.loop-client.invariant.counts.reliable reliable));
    }

pub returns-clause-stored : goal.returns-clause-stored
returns-clause-stored g c = Storing-all g.S.Shelf _ _ _ _ c.loop-client.invariant c.loop-client-test.false

pub returns-clause-read : goal.returns-clause-read
returns-clause-read g c = Storing-read g.S.Shelf _ _ _ _ c.loop-client.invariant c.loop-client-test.false

pub returns-clause-only_writes : goal.returns-clause-only_writes
returns-clause-only_writes g c = OnlyWrites-done g.S.Shelf _ _ _ c.loop-client.invariant.counts
