use Rattle.lab_output.specs.Prelude.{◌-◌, err_from_is_err_and, CountsNoFault-writes, OnlyWrites-done, OnlyWrites-passed, OutputFile, HasFile}
use Rattle.lab_output.proofs.Going.{append-going_on, append-Changes, append_part-Changes, Appends-slice}
use Rattle.lab_output.proofs.Held.{no-write, output-at}
use Rattle.lab_output.proofs.Kept.{IsGoingOn-there}
use Rattle.lab_output.proofs.outputs.Outputs.append.Goals as goal

pub returns-in_err-append_new-clause-changes : goal.returns-in_err-append_new-clause-changes
returns-in_err-append_new-clause-changes g c before sounds targets going first longer =
    append_part-Changes _ _ sounds before _ _ c.args.number c.index.result.now c.args.samples.now _
    (Appends-slice _ _ sounds before _ c.args.number c.index.result.now c.args.samples.now c.index-first.result.now
    c.requires.outputs.apart going c.requires.number c.requires.outputs.number c.index.ensures c.index-first.ensures first)
    targets longer c.in_err-append_new.ensures.part

pub returns-clause-going_on : goal.returns-clause-going_on
returns-clause-going_on g c before sounds going first =
    append-going_on _ _ sounds before _ _ c.args.number c.index.result.now c.args.samples.now _
    (Appends-slice _ _ sounds before _ c.args.number c.index.result.now c.args.samples.now c.index-first.result.now
    c.requires.outputs.apart going c.requires.number c.requires.outputs.number c.index.ensures c.index-first.ensures first)
    c.in_ok-append_new.ensures.appended

pub returns-clause-changes : goal.returns-clause-changes
returns-clause-changes g c before sounds targets going first longer =
    append-Changes _ _ sounds before _ _ c.args.number c.index.result.now c.args.samples.now _
    (Appends-slice _ _ sounds before _ c.args.number c.index.result.now c.args.samples.now c.index-first.result.now
    c.requires.outputs.apart going c.requires.number c.requires.outputs.number c.index.ensures c.index-first.ensures first)
    targets longer c.in_ok-append_new.ensures.appended

pub returns-in_err-append_new-clause-never : goal.returns-in_err-append_new-clause-never
returns-in_err-append_new-clause-never g c before sounds going told reliable =
    no-write (Unit {0}) c.from_residual.result c.in_err-append_new.field-0.0 c.from_residual.ensures.1
    (c.in_err-append_new.ensures.never reliable
    (output-at (λ (o : OutputFile). HasFile (g.S.Shelf.files c.args.shelf.now) o.name) _ c.args.number c.index.result.now (IsGoingOn-there _ _ sounds before _ c.requires.outputs.apart going told)
    c.requires.number c.index.ensures))

pub returns-in_err-append_new-clause-going_on : goal.returns-in_err-append_new-clause-going_on
returns-in_err-append_new-clause-going_on g c before sounds going first =
    let p = err_from_is_err_and c.from_residual.result c.from_residual.ensures.1 in
    rw p.1 tt

pub returns-in_err-append_new-clause-only_writes : goal.returns-in_err-append_new-clause-only_writes
returns-in_err-append_new-clause-only_writes g c =
    OnlyWrites-passed g.S.Shelf c.from_residual.result c.in_err-append_new.field-0.0 _ _ c.from_residual.ensures.1
    c.in_err-append_new.ensures.only_writes

pub returns-clause-only_writes : goal.returns-clause-only_writes
returns-clause-only_writes g c =
    OnlyWrites-done g.S.Shelf _ _ _ (CountsNoFault-writes g.S.Shelf _ _ _ c.in_ok-append_new.ensures.only_writes)
