use Rattle.std.proofs.Common.{ap, sym, ◌∙◌, Some}
use Rattle.lab_shelf.proofs.EntryLists.{held_found, held_nowhere}
use Rattle.lab_shelf.proofs.entries.content_of.Goals as goal

pub returns-in-Some : goal.returns-in-Some
returns-in-Some c =
    ap Some c.as_slice.ensures.value
    ∙ sym (held_found c.args.name.now c.args.entries.now c.in-Some.place c.index-entries-place.result (sym c.in-Some.ensures))

pub returns-in-None : goal.returns-in-None
returns-in-None c = sym (held_nowhere c.args.name.now c.args.entries.now (sym c.in-None.ensures))
