use Rattle.lab_phase.specs.Prelude.{arith, subst, sym, ◌+◌, ◌<◌, Vec, length, ℕ, Row, Script, Lab, ReportRoom, HasEndRoom, next-inside, OnErr-always, HaveAsked}
use Rattle.lab_phase.specs.Prelude.{Stops, stops_by, HasReportRoom-fewer, IsAtStage-room, IsSameLab-after, IsSameLab-room}
use Rattle.lab_phase.proofs.PhaseStages.{DoesPhase-counted, DoesPhase-room, phases-few}
use Rattle.lab_lines.specs.declared.line.Item.TheVariants as item
use Rattle.lab_phase.proofs.lab.Lab.run_phase.Goals as goal

pub count_phase-requires-clause-few : goal.count_phase-requires-clause-few
count_phase-requires-clause-few g c =
    let few = phases-few c.args.self.now c.requires.at.stage c.args.lines.now c.requires.at.at c.requires.next c.runs_are_of_scripts.ensures.stages in
    let same = c.in_ok-do_lines.ensures.runs.phases in
    omega (arith, few, same)

pub count_phase-requires-clause-next : goal.count_phase-requires-clause-next
count_phase-requires-clause-next g c =
    let lab : Lab = c.args.self.now in
    let mid : Lab = c.do_lines.new.self in
    let runs = c.in_ok-do_lines.ensures.runs in
    subst (λ (n : ℕ). n < length mid.script.now.body) (sym runs.next)
    (subst (λ (s : Script). lab.next < length s.body) (sym runs.same.script) (next-inside lab (item.Phase c.args.lines.now) c.requires.next))

pub do_lines-requires-clause-at : goal.do_lines-requires-clause-at
do_lines-requires-clause-at g c κs within = record {
  stage = c.requires.at.stage;
  at = IsAtStage-room c.args.self.now c.reserve.new.self c.reserve-2.new.self c.reserve.ensures.items c.reserve-2.ensures.kept c.requires.at.stage c.requires.at.at;
  base = c.requires.at.base;
  counted = c.requires.at.counted;
}

pub do_lines-requires-clause-next : goal.do_lines-requires-clause-next
do_lines-requires-clause-next g c κs within = c.requires.next

pub returns-in_err-reserve-clause-kept : goal.returns-in_err-reserve-clause-kept
returns-in_err-reserve-clause-kept g c =
    OnErr-always _
    (IsSameLab-room c.args.self.now c.reserve.new.self c.args.self.now.room c.reserve.ensures.items (λ rows readers has. has) c.requires.at.stage c.requires.at.at)

pub returns-in_err-reserve-2-clause-kept : goal.returns-in_err-reserve-2-clause-kept
returns-in_err-reserve-2-clause-kept g c =
    OnErr-always _ (IsSameLab-room c.args.self.now c.reserve.new.self c.reserve-2.new.self c.reserve.ensures.items c.reserve-2.ensures.kept c.requires.at.stage c.requires.at.at)

pub returns-in_err-do_lines-clause-kept : goal.returns-in_err-do_lines-clause-kept
returns-in_err-do_lines-clause-kept g c =
    OnErr-always _
    (IsSameLab-after c.args.self.now c.reserve.new.self c.reserve-2.new.self c.reserve.ensures.items c.reserve-2.ensures.kept c.do_lines.new.self c.in_err-do_lines.ensures.kept)

pub returns-clause-does : goal.returns-clause-does
returns-clause-does g c =
    let lab : Lab = c.args.self.now in
    let rows : Vec Row = c.reserve.new.self in
    let room : ReportRoom = c.reserve-2.new.self in
    let before : Stops = stops_by g.G.Gate.stops c.args.gates.now in
    let after : Stops = stops_by g.G.Gate.stops c.do_lines.new.gates in
    let lines = length c.args.lines.now in
    let readers = length lab.script.now.readers in
    let space = c.in_ok-reserve.ensures.ok in
    let capacity = c.capacity.ensures in
    let len = rows.ok.0 in
    let has_room : HasEndRoom lines (record lab { rows = rows; room = room }) =
    HasReportRoom-fewer c.capacity.result (length rows.items + lines) readers room (omega (arith, space, capacity, len))
    (c.in_ok-reserve-2.ensures.room (length lab.rows.items + 0) readers c.requires.at.at.room) in
    DoesPhase-room (HaveAsked g.G.Gate.asked c.args.gates.now c.do_lines.new.gates) before after lab c.count_phase.new.self rows room c.args.lines.now c.reserve.ensures.items c.reserve-2.ensures.kept
    (DoesPhase-counted (HaveAsked g.G.Gate.asked c.args.gates.now c.do_lines.new.gates) before after (record lab { rows = rows; room = room }) c.do_lines.new.self c.count_phase.new.self c.args.lines.now c.requires.next c.in_ok-do_lines.ensures.runs
    has_room c.count_phase.ensures)
