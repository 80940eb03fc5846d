use Rattle.lab_output.specs.Prelude.{refl, rules, err_from_is_err_and, CountsNoFault-same, CountsNoFault-writes, OnlyWrites-after, OnlyWrites-done}
use Rattle.lab_output.specs.Prelude.{OnlyWrites-passed, OutputFile, HasFile, HasHeadRoom}
use Rattle.lab_output.proofs.Held.{output-at}
use Rattle.lab_output.proofs.Steps.{Closing-next, Closing-stop, Closing-all}
use Rattle.lab_output.proofs.finish.finish_files.Goals as goal

pub loop-number-init : goal.loop-number-init
loop-number-init g c =
    record { rest = refl; part = λ after p. p; rooms = c.requires.room; there = λ h. h; counts = CountsNoFault-same g.S.Shelf _ }

pub finish_file-requires-clause-room : goal.finish_file-requires-clause-room
finish_file-requires-clause-room g c =
    output-at (λ (o : OutputFile). HasHeadRoom (g.S.Shelf.files c.loop-number.shelf) o.name) _ _ c.index-files-number.result c.loop-number.invariant.rooms c.loop-number-test.true c.index-files-number.is

pub loop-number-preserved : goal.loop-number-preserved
loop-number-preserved g c =
    Closing-next g.S.Shelf _ _ _ _ _ _ c.index-files-number.result _ c.loop-number.invariant c.loop-number-test.true c.requires.number
    c.index-files-number.is refl c.in_ok-finish_file.ensures.closed
    (CountsNoFault-writes g.S.Shelf _ _ _ c.in_ok-finish_file.ensures.only_writes)

pub returns-in_err-finish_file : goal.returns-in_err-finish_file
returns-in_err-finish_file g c =
    let p = err_from_is_err_and c.from_residual.result c.from_residual.ensures.1 in
    record {
      closed = search rules;
      part = rw p.1
          (Closing-stop g.S.Shelf _ _ _ _ _ _ c.index-files-number.result _ c.loop-number.invariant c.loop-number-test.true c.requires.number
          c.index-files-number.is refl c.in_err-finish_file.ensures.part);
      only_writes = OnlyWrites-passed g.S.Shelf c.from_residual.result c.in_err-finish_file.field-0.0 _ _ c.from_residual.ensures.1
          (OnlyWrites-after g.S.Shelf _ _ _ _ c.loop-number.invariant.counts c.in_err-finish_file.ensures.only_writes);
      never = λ reliable there.
          rw (p.1, p.2)
          (c.in_err-finish_file.ensures.never (c.loop-number.invariant.counts.reliable reliable)
          (output-at (λ (o : OutputFile). HasFile (g.S.Shelf.files c.loop-number.shelf) o.name) _ _ c.index-files-number.result (c.loop-number.invariant.there there) c.loop-number-test.true c.index-files-number.is));
    }

pub returns-clause-closed : goal.returns-clause-closed
returns-clause-closed g c = Closing-all g.S.Shelf _ _ _ _ _ c.loop-number.invariant c.loop-number-test.false

pub returns-clause-only_writes : goal.returns-clause-only_writes
returns-clause-only_writes g c = OnlyWrites-done g.S.Shelf _ _ _ c.loop-number.invariant.counts
