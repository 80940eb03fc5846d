use Rattle.std.proofs.Common.{◌++◌, ap, sym, refl}
use Rattle.std.proofs.lemmas.Result.{on_ok_weaker, on_err_weaker}
use Rattle.std.specs.Prelude.{is_some}
use Rattle.lab_shelf.proofs.EntryLists.{set_is_changed, set_is_same, held_found, held_nowhere}
use Rattle.lab_shelf.proofs.Foreseen.{IsAsForeseen-works}
use Rattle.lab_shelf.proofs.entries.append_to.Goals as goal

pub returns-in-Some-clause-ok : goal.returns-in-Some-clause-ok
returns-in-Some-clause-ok c =
    on_ok_weaker c.extend.result
    (set_is_changed (λ b. b ++ c.args.bytes.now) c.args.entries.now c.in-Some.place _ c.index-entries-place.result c.args.name.now (sym c.in-Some.ensures) refl)
    c.extend.ensures.ok

pub returns-in-Some-clause-err : goal.returns-in-Some-clause-err
returns-in-Some-clause-err c =
    on_err_weaker c.extend.result
    (set_is_same c.args.entries.now c.in-Some.place _ c.index-entries-place.result refl)
    c.extend.ensures.err

pub returns-in-Some-clause-foreseen : goal.returns-in-Some-clause-foreseen
returns-in-Some-clause-foreseen c =
    IsAsForeseen-works c.extend.result _
    (ap is_some (held_found c.args.name.now c.args.entries.now c.in-Some.place c.index-entries-place.result (sym c.in-Some.ensures)))
    c.extend.ensures.memory

pub returns-in-None-clause-foreseen : goal.returns-in-None-clause-foreseen
returns-in-None-clause-foreseen c =
    ap is_some (held_nowhere c.args.name.now c.args.entries.now (sym c.in-None.ensures))
