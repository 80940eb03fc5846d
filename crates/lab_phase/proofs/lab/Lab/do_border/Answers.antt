use Rattle.lab_phase.specs.Prelude.{ap, subst, sym, ◌<◌, ◌∙◌, Vec, length, ℕ, Item, Row, Script, Lab, border_after, played_by, session_of, DoesItem-row}
use Rattle.lab_phase.specs.Prelude.{ItemMay-border, next-inside, OnErr-always}
use Rattle.lab_actors.specs.Room.{HasSpace}
use Rattle.lab_phase.proofs.lab.Lab.do_border.Goals as goal

pub add_row-requires-clause-next : goal.add_row-requires-clause-next
add_row-requires-clause-next c =
    let lab : Lab = c.args.self.now in
    let mid : Lab = c.do_item.new.self in
    let does = c.in_ok-row.ensures.does in
    subst (λ (n : ℕ). n < length mid.script.now.body) (sym does.count.next)
    (subst (λ (s : Script). lab.next < length s.body) (sym does.same.script) (next-inside lab c.args.item.now c.requires.next))

pub add_row-requires-clause-room : goal.add_row-requires-clause-room
add_row-requires-clause-room c = subst (λ (rows : Vec Row). HasSpace 1 rows) (sym c.in_ok-row.ensures.does.count.rows) c.requires.room

pub returns-in_err-row-clause-kept : goal.returns-in_err-row-clause-kept
returns-in_err-row-clause-kept c = OnErr-always _ c.in_err-row.ensures.kept

pub returns-clause-does : goal.returns-clause-does
returns-clause-does c =
    let lab : Lab = c.args.self.now in
    let one : Item = c.args.item.now in
    DoesItem-row lab c.do_item.new.self c.add_row.new.self one c.in_ok-row.row (λ stage. border_after (session_of lab) stage one) c.in_ok-row.ensures.does c.add_row.ensures c.requires.next c.requires.report
    (λ stage. ItemMay-border (session_of lab) stage one c.requires.border)

pub returns-clause-played : goal.returns-clause-played
returns-clause-played c = ap played_by c.add_row.ensures.card ∙ c.do_item.ensures.played
