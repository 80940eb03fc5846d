use Rattle.std.proofs.Common.{◌≤◌, List, ℕ, length, sym, subst, refl}
use Rattle.std.specs.Prelude.{IsSome, IfSome}
use Rattle.lab_shelf.specs.Files.{with_first_bytes}
use Rattle.lab_shelf.proofs.EntryLists.{set_is_changed, held_found, held_nowhere}
use Rattle.lab_shelf.proofs.entries.overwrite.Goals as goal

pub put_head-requires : goal.put_head-requires
put_head-requires c =
    let held = held_found c.args.name.now c.args.entries.now c.in-Some.place c.index-entries-place.result (sym c.in-Some.ensures) in
    subst (λ o. IfSome o (λ (content : List ℕ). length c.args.head.now ≤ length content)) held c.requires.room

pub returns-in-Some-clause-ok : goal.returns-in-Some-clause-ok
returns-in-Some-clause-ok c =
    set_is_changed (with_first_bytes c.args.head.now) c.args.entries.now c.in-Some.place _ c.index-entries-place.result c.args.name.now (sym c.in-Some.ensures) refl c.put_head.ensures

pub returns-in-Some-clause-held : goal.returns-in-Some-clause-held
returns-in-Some-clause-held c =
    subst (λ o. IsSome o) (sym (held_found c.args.name.now c.args.entries.now c.in-Some.place c.index-entries-place.result (sym c.in-Some.ensures))) refl

pub returns-in-None-clause-missing : goal.returns-in-None-clause-missing
returns-in-None-clause-missing c = held_nowhere c.args.name.now c.args.entries.now (sym c.in-None.ensures)
