use Rattle.std.proofs.Common.{ap, sym, ◌∙◌}
use Rattle.lab_shelf.proofs.EntryLists.{set_is_with_file}
use Rattle.lab_shelf.proofs.entries.put_file.Goals as goal

pub returns-in-Some-clause-ok : goal.returns-in-Some-clause-ok
returns-in-Some-clause-ok c =
    let is = rw c.deref.ensures.value at (sym c.in-Some.ensures) in
    set_is_with_file c.args.entries.now.items c.in-Some.place
    (c.index_mut.result.now.0, c.put_content.new.content) c.index_mut.result.now c.args.name.now c.args.bytes.now
    is (ap (λ e. e.0.items) c.index_mut.ensures.value) (ap (λ v. v.items) c.put_content.ensures ∙ c.in_ok-content.ensures.items)
