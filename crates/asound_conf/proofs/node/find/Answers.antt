use Rattle.asound_conf.specs.Prelude.{ap, Some, sym, ◌∙◌, text_bytes}
use Rattle.asound_conf.proofs.Groups.{get-IsAbsent, get-IsNode}
use Rattle.asound_conf.proofs.node.find.Goals as goal

pub returns-in-Some : goal.returns-in-Some
returns-in-Some c =
    let rows = c.args.group.table.now.rows in
    ap Some c.node_of.ensures ∙ sym (get-IsNode rows c.args.group.number (text_bytes c.args.key) c.in-Some.number c.in-Some.ensures.some)

pub returns-in-None : goal.returns-in-None
returns-in-None c = sym (get-IsAbsent c.args.group.table.now.rows c.args.group.number (text_bytes c.args.key) c.in-None.ensures.none)
