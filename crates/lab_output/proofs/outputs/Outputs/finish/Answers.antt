use Rattle.lab_output.specs.Prelude.{List, subst, sym, OutputFile, HaveFiles, HaveHeadRoom}
use Rattle.lab_output.proofs.Going.{finish-stored, finish-Changes}
use Rattle.lab_output.proofs.Kept.{IsGoingOn-rooms, IsGoingOn-there, finish-samples}
use Rattle.lab_output.proofs.outputs.Outputs.finish.Goals as goal

pub returns : goal.returns
returns g c = record {
  stored = λ before sounds going.
      finish-stored c.finish_files.result c.as_slice.result.now _ c.as_slice-2.result.now _ sounds before _ _
      c.as_slice.ensures.value c.as_slice-2.ensures.value c.requires.outputs.apart going c.finish_files.ensures.closed;
  changes = λ before sounds going.
      finish-Changes c.finish_files.result c.as_slice.result.now _ c.as_slice-2.result.now _ sounds before _ _
      c.as_slice.ensures.value c.as_slice-2.ensures.value c.requires.outputs.apart going c.finish_files.ensures.closed c.finish_files.ensures.part;
  kept = λ before sounds going. finish-samples c.finish_files.result _ _ _ _ sounds before _ _ c.requires.outputs.apart going c.finish_files.ensures.closed c.finish_files.ensures.part;
  only_writes = c.finish_files.ensures.only_writes;
  never = λ before sounds going told reliable.
      c.finish_files.ensures.never reliable
      (subst (λ (os : List OutputFile). HaveFiles (g.S.Shelf.files c.args.shelf.now) os) (sym c.as_slice.ensures.value)
      (IsGoingOn-there _ _ sounds before _ c.requires.outputs.apart going told));
}

pub finish_files-requires-clause-room : goal.finish_files-requires-clause-room
finish_files-requires-clause-room g c =
    subst (λ (os : List OutputFile). HaveHeadRoom (g.S.Shelf.files c.args.shelf.now) os) (sym c.as_slice.ensures.value)
    (IsGoingOn-rooms _ _ _ _ _ c.requires.outputs.apart c.requires.going_on.going_on)
