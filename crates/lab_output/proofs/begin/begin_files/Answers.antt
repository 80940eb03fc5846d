use Rattle.lab_output.specs.Prelude.{refl, rules, err_from_is_err_and, CountsNoFault-same, CountsNoFault-writes, OnlyWrites-after, OnlyWrites-done}
use Rattle.lab_output.specs.Prelude.{OnlyWrites-passed}
use Rattle.lab_output.proofs.Steps.{Opening-next, Opening-stop, Opening-all}
use Rattle.lab_output.proofs.begin.begin_files.Goals as goal

pub loop-file-init : goal.loop-file-init
loop-file-init g c = record { rest = refl; part = λ after p. p; counts = CountsNoFault-same g.S.Shelf _ }

pub loop-file-preserved : goal.loop-file-preserved
loop-file-preserved g c =
    Opening-next g.S.Shelf _ _ _ _ _ c.file-item.result c.loop-file.invariant c.loop-file-test.true c.file-item.is
    c.in_ok-begin_file.ensures.opened (CountsNoFault-writes g.S.Shelf _ _ _ c.in_ok-begin_file.ensures.only_writes)

pub returns-in_err-begin_file : goal.returns-in_err-begin_file
returns-in_err-begin_file g c =
    let p = err_from_is_err_and c.from_residual.result c.from_residual.ensures.1 in
    record {
      opened = search rules;
      part = rw p.1
          (Opening-stop g.S.Shelf _ _ _ _ _ c.file-item.result c.loop-file.invariant c.loop-file-test.true c.file-item.is
          c.in_err-begin_file.ensures.part);
      only_writes = OnlyWrites-passed g.S.Shelf c.from_residual.result c.in_err-begin_file.field-0.0 _ _ c.from_residual.ensures.1
          (OnlyWrites-after g.S.Shelf _ _ _ _ c.loop-file.invariant.counts c.in_err-begin_file.ensures.only_writes);
      never = λ reliable.
          rw (p.1, p.2) (c.in_err-begin_file.ensures.never (c.loop-file.invariant.counts.reliable reliable));
    }

pub returns-clause-opened : goal.returns-clause-opened
returns-clause-opened g c = Opening-all g.S.Shelf _ _ _ _ c.loop-file.invariant c.loop-file-test.false

pub returns-clause-only_writes : goal.returns-clause-only_writes
returns-clause-only_writes g c = OnlyWrites-done g.S.Shelf _ _ _ c.loop-file.invariant.counts
