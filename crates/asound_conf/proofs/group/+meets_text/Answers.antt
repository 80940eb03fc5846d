use Rattle.asound_conf.specs.Prelude.{ap, arith, drop, get_or, length, not, Some, sym, take, ◌-◌, ◌||◌, ◌∙◌, part_in, parts_in, meets_text, group_of, node}
use Rattle.asound_conf.specs.Prelude.{row_at, group, group_in}
use Rattle.asound_conf.proofs.Downs.{is_text-group, is_text-text, meets-last, meets-node, meets-None, met-absent, met-node, met-removes, no_part}
use Rattle.asound_conf.proofs.group.+meets_text.Goals as goal

pub returns-then-is_empty : goal.returns-then-is_empty
returns-then-is_empty t c = sym (meets-last c.args.table.now.text c.args.parts.now (group_of c.args.group c.args.table.now.rows) (omega arith) (grind arith))

pub returns-then-part : goal.returns-then-part
returns-then-part t c =
    let content = c.args.table.now.text in
    let g = group_of c.args.group c.args.table.now.rows in
    sym (meets-None no_part content c.args.parts.now g (omega arith) (grind arith) (met-removes (part_in content (get_or c.args.parts.now 0 no_part)) g c.if-part.true))

pub returns-then-not-is_group : goal.returns-then-not-is_group
returns-then-not-is_group t c =
    let parts = c.args.parts.now in
    let content = c.args.table.now.text in
    let rows = c.args.table.now.rows in
    let n = c.in-Some.number in
    let value = (row_at rows n).value in
    let met = met-node (part_in content (get_or parts 0 no_part)) rows c.args.group n c.if-part.false (rw c.key.ensures at c.in-Some.ensures.some) in
    let has_text = is_text-text value (group_of n rows) (sym c.is_group.ensures ∙ c.if-not-is_group.true) in
    ap not c.if-not-is_group.true
    ∙ sym (meets-node no_part content parts (group_of c.args.group rows) (Some (node value (group_of n rows))) (omega arith) (grind arith) met
    ∙ ap (λ b. b || meets_text (parts_in content (take (length parts - 1) (drop 1 parts))) (group_in (Some (node value (group_of n rows))))) has_text)

pub returns-else-not-is_group : goal.returns-else-not-is_group
returns-else-not-is_group t c =
    let parts = c.args.parts.now in
    let content = c.args.table.now.text in
    let rows = c.args.table.now.rows in
    let n = c.in-Some.number in
    let met = met-node (part_in content (get_or parts 0 no_part)) rows c.args.group n c.if-part.false (rw c.key.ensures at c.in-Some.ensures.some) in
    let is = met ∙ is_text-group (row_at rows n).value (group_of n rows) (sym c.is_group.ensures ∙ c.if-not-is_group.false) in
    c.meets_text.ensures ∙ sym (meets-node no_part content parts (group_of c.args.group rows) (Some (group (group_of n rows))) (omega arith) (grind arith) is)

pub returns-in-None : goal.returns-in-None
returns-in-None t c =
    let none = rw c.key.ensures at c.in-None.ensures.none in
    sym (meets-None no_part c.args.table.now.text c.args.parts.now _ (omega arith) (grind arith) (met-absent _ c.args.table.now.rows c.args.group c.if-part.false none))
