use Rattle.std.proofs.Common.{ap, refl, ◌∙◌}
use Rattle.lab_shelf.specs.States.{files_of}
use Rattle.lab_shelf.proofs.EntryLists.{push_is_with_file}
use Rattle.lab_shelf.proofs.entries.add_entry.Goals as goal

pub returns-clause-ok : goal.returns-clause-ok
returns-clause-ok c is =
    ap files_of c.in_ok-push.ensures.items
    ∙ push_is_with_file c.args.entries.now.items
    (c.in_ok-name.name, c.args.content) c.args.name.now c.args.content.items is c.in_ok-name.ensures.items refl
