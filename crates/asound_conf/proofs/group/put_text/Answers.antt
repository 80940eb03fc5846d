use Rattle.asound_conf.specs.Prelude.{ap, List, Some, subst, sym, ◌∙◌, Alters, ConfRow, Contents, row_at, name_in, span_in}
use Rattle.asound_conf.proofs.Groups.{Alters-same}
use Rattle.asound_conf.proofs.Puts.{pushed, text-Kind, text-set}
use Rattle.asound_conf.proofs.Rows.{Alters-set, only-Some}
use Rattle.asound_conf.proofs.group.put_text.Goals as goal

pub returns-in_default : goal.returns-in_default
returns-in_default c =
    let old = c.args.table.now in
    let none = rw c.key.ensures at c.in_default.ensures.none in
    let it = pushed c.push.result c.args.group (name_in old.text c.args.name) (Some (span_in old.text c.args.text)) old c.push.new.self none c.requires c.push.ensures.rows c.push.ensures.memory c.push.ensures.kept in
    assumption (it)

pub returns-then-is_group-clause-value : goal.returns-then-is_group-clause-value
returns-then-is_group-clause-value c =
    text-Kind c.args.table.now.rows c.args.group _ c.in-Some.number (span_in c.args.table.now.text c.args.text) (rw c.key.ensures at c.in-Some.ensures.some) (sym c.is_group.ensures ∙ c.if-is_group.true)

pub returns : goal.returns
returns c =
    let rows = c.args.table.now.rows in
    let n = c.in-Some.number in
    let q = c.args.group in
    let is = rw c.key.ensures at c.in-Some.ensures.some in
    let parent = c.in-Some.ensures.some.parent in
    let new = record (row_at rows n) { value = Some (span_in c.args.table.now.text c.args.text) } in
    record {
      value = text-set rows c.set_text.new.self.rows q _ n (span_in c.args.table.now.text c.args.text) is (sym c.is_group.ensures ∙ c.if-is_group.false) (ap (λ (x : Contents). x.rows) c.set_text.ensures);
      text = ap (λ (x : Contents). x.text) c.set_text.ensures;
      alters = subst (λ (r : List ConfRow). Alters q rows r) (sym (ap (λ (x : Contents). x.rows) c.set_text.ensures)) (Alters-set q n new rows parent (only-Some q new parent));
    }

pub returns-then-is_group-clause-alters : goal.returns-then-is_group-clause-alters
returns-then-is_group-clause-alters c = Alters-same c.args.group c.args.table.now.rows

pub set_text-requires-clause-inside : goal.set_text-requires-clause-inside
set_text-requires-clause-inside c = c.in-Some.ensures.some.inside

pub set_text-requires-clause-text : goal.set_text-requires-clause-text
set_text-requires-clause-text c = sym c.is_group.ensures ∙ c.if-is_group.false
