use Rattle.asound_conf.specs.Prelude.{None, refl, sym, ◌∙◌, name_in}
use Rattle.asound_conf.proofs.Groups.{Alters-same}
use Rattle.asound_conf.proofs.Puts.{pushed, group-Kind, group-same, IsKeyStep-push, IsKeyStep-IsNode}
use Rattle.asound_conf.proofs.group.put_group.Goals as goal

pub returns-in_default : goal.returns-in_default
returns-in_default c =
    let old = c.args.table.now in
    let name = name_in old.text c.args.name in
    let none = rw c.key.ensures at c.in_default.ensures.none in
    let it = pushed c.push.result c.args.group name None old c.push.new.self none c.requires c.push.ensures.rows c.push.ensures.memory c.push.ensures.kept in
    let step = IsKeyStep-push c.push.result c.args.group name old c.push.new.self c.requires c.push.ensures.rows c.push.ensures.number in
    assumption (it)

pub returns-then-is_group : goal.returns-then-is_group
returns-then-is_group c =
    let is = rw c.key.ensures at c.in-Some.ensures.some in
    let group = sym c.is_group.ensures ∙ c.if-is_group.true in
    record {
      value = group-same _ _ _ _ is group;
      step = IsKeyStep-IsNode _ _ _ _ is group;
      text = refl;
      alters = Alters-same c.args.group c.args.table.now.rows;
    }

pub returns-else-is_group-clause-value : goal.returns-else-is_group-clause-value
returns-else-is_group-clause-value c =
    group-Kind _ _ _ _ (rw c.key.ensures at c.in-Some.ensures.some) (sym c.is_group.ensures ∙ c.if-is_group.false)

pub returns-else-is_group-clause-alters : goal.returns-else-is_group-clause-alters
returns-else-is_group-clause-alters c = Alters-same c.args.group c.args.table.now.rows
