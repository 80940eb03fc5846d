use Rattle.lab_phase.specs.Prelude.{rules, ◌∙◌, ◌≡◌, Item, Lab, DoesItem, played_of, OnErr-always, OnErr-both, OnOk-more, StaysAtStage, DoesItem-stays}
use Rattle.lab_phase.specs.Prelude.{IsNextItem-stays, StaysAtStage-joined}
use Rattle.lab_phase.proofs.lab.Lab.border.Goals as goal

pub returns-in_err-take_row_room-clause-kept : goal.returns-in_err-take_row_room-clause-kept
returns-in_err-take_row_room-clause-kept c = OnErr-always _ c.take_row_room.ensures.kept

pub do_border-requires-clause-at : goal.do_border-requires-clause-at
do_border-requires-clause-at c = record { stage = c.requires.at.stage; at = c.take_row_room.ensures.kept.at c.requires.at.stage c.requires.at.at }

pub do_border-requires-clause-next : goal.do_border-requires-clause-next
do_border-requires-clause-next c = IsNextItem-stays c.args.self.now c.take_row_room.new.self c.args.item.now c.take_row_room.ensures.kept c.requires.next

pub returns : goal.returns
returns c =
    let lab : Lab = c.args.self.now in
    let mid : Lab = c.take_row_room.new.self in
    let after : Lab = c.do_border.new.self in
    let one : Item = c.args.item.now in
    record {
      does = OnOk-more (DoesItem mid one after) (DoesItem lab one after) c.do_border.result (DoesItem-stays lab mid after one c.take_row_room.ensures.kept) c.do_border.ensures.does;
      played = OnOk-more (played_of after ≡ played_of mid) (played_of after ≡ played_of lab) c.do_border.result (λ played. played ∙ c.take_row_room.ensures.kept.played) c.do_border.ensures.played;
      kept = OnErr-both (StaysAtStage mid after) (StaysAtStage mid after) (StaysAtStage lab after) c.do_border.result
          (λ stays same. StaysAtStage-joined lab mid after c.take_row_room.ensures.kept stays) c.do_border.ensures.kept c.do_border.ensures.kept;
      only = search rules;
    }
