use Rattle.lab_phase.specs.Prelude.{arith, refl, rules, ◌+◌, ◌≡◌, Vec, length, List, Some, ◌≢◌, Line, Row, is_of_card, held_of, ops_by, CardActor, LabClients}
use Rattle.lab_phase.specs.Prelude.{LabReaders, AreOfRing-done, Lab, PhaseInput, HaveAsked-none, RunsPhase-more, capture_of, session_of, OnErr-always}
use Rattle.lab_phase.specs.Prelude.{OnOk-more, ActorLaws, asks_of_lab, HasRunLines, HaveAsked, HaveRunLines, HaveSameAsks, IsSameLab, RunsPhase, Stops}
use Rattle.lab_phase.specs.Prelude.{stops_by}
use Rattle.lab_phase.proofs.PhaseStages.{GiveFewRows-at, RunsPhase-reaped, can-meet, done-lines, fits-phase, phases-few}
use Rattle.mix_core.specs.declared.gate.Gate as gate
use Rattle.lab_phase.proofs.lab.Lab.do_lines.Goals as goal

pub returns-then-line_count-lines-clause-runs : goal.returns-then-line_count-lines-clause-runs
returns-then-line_count-lines-clause-runs g c =
    let stops : Stops = stops_by g.G.Gate.stops c.args.gates.now in
    let asked = g.G.Gate.asked in
    let lab : Lab = c.args.self.now in
    let after : Lab = c.run_card.new.self in
    OnOk-more ((all : Stops) → RunsPhase HaveSameAsks all all lab c.args.lines.now after)
    (RunsPhase (HaveAsked asked c.args.gates.now c.args.gates.now) stops stops lab c.args.lines.now after) c.run_card.result
    (λ runs. RunsPhase-more HaveSameAsks (HaveAsked asked c.args.gates.now c.args.gates.now) (λ stage next same. HaveAsked-none asked c.args.gates.now stage next same)
    stops stops lab after c.args.lines.now (runs stops))
    c.run_card.ensures.runs

-- what the lines made of the actors and the rows of a lab, they made of the lab
HasRunLines-parts : {T : Type 0} (G : gate.Ghosts T) (gates gates_after : List T) (lab : Lab) (lines : List Line) (card card_after : CardActor) (clients : LabClients)
    (readers : LabReaders) (rows : Vec Row) → lab.card ≡ Some card
    → HaveRunLines G gates gates_after (asks_of_lab lab lines) lab.rows.items rows.items card card_after lab.clients clients lab.readers readers
    → HasRunLines G gates gates_after lab lines (record lab { card = Some card_after; clients = clients; readers = readers; rows = rows })
HasRunLines-parts G gates gates_after lab lines card card_after clients readers rows is run = record {
  same = record { script = refl; wavs = refl; capture = refl; openings = refl };
  room = refl;
  phases = refl;
  next = refl;
  card = card;
  card_after = card_after;
  card_is = is;
  card_then = refl;
  run = run;
}

pub overflow_add-asked : goal.overflow_add-asked
overflow_add-asked g c =
    let few = phases-few c.args.self.now c.requires.at.stage c.args.lines.now c.requires.at.at c.requires.next c.runs_are_of_scripts.ensures.stages in search (few, rules)

pub run_together-requires-clause-fits : goal.run_together-requires-clause-fits
run_together-requires-clause-fits g c κs within =
    let lab : Lab = c.args.self.now in
    let asked : PhaseInput = record { wavs = lab.wavs; capture = lab.capture; phase = lab.phases + 1; lines = c.args.lines } in
    fits-phase lab c.requires.at.stage asked c.requires.at.at c.requires.next c.in-Some.card c.in-Some.is c.runs_are_of_scripts.ensures.phases

pub run_together-requires-clause-meet : goal.run_together-requires-clause-meet
run_together-requires-clause-meet g c κs within =
    let lab : Lab = c.args.self.now in
    let asked : PhaseInput = record { wavs = lab.wavs; capture = lab.capture; phase = lab.phases + 1; lines = c.args.lines } in
    can-meet lab c.requires.at.stage asked c.requires.at.at c.requires.next c.in-Some.card c.in-Some.is c.runs_are_of_scripts.ensures.phases (length c.args.gates.now) c.requires.gates
    refl

pub run_together-requires-clause-few_rows : goal.run_together-requires-clause-few_rows
run_together-requires-clause-few_rows g c κs within =
    let others : length (ops_by is_of_card c.args.lines.now) ≢ length c.args.lines.now = λ same. omega (arith, c.line_count.ensures.value, c.if-line_count-lines.false, same) in
    let laws : ActorLaws = record {
      clients = record { lasts = c.last_frames_are_own.ensures; parts = c.parts_are_runs.ensures.clients; alike = c.members_are_unreported.ensures.entries };
      readers = c.parts_are_runs.ensures.readers;
    } in
    GiveFewRows-at g.G.Gate c.args.gates.now c.args.self.now c.args.lines.now c.in-Some.card laws c.requires.next others c.in-Some.is c.requires.at.stage c.requires.at.base
    c.requires.at.at c.requires.at.counted

pub returns-in_err-run_together-clause-kept : goal.returns-in_err-run_together-clause-kept
returns-in_err-run_together-clause-kept g c =
    let lab : Lab = c.args.self.now in
    let after : Lab = record lab {
      card = Some c.run_together.new.card;
      clients = c.run_together.new.clients;
      readers = c.run_together.new.readers;
      rows = c.run_together.new.rows;
    } in
    let kept : IsSameLab lab after = record {
      same = record { script = refl; wavs = refl; capture = refl; openings = refl };
      rows = c.in_err-run_together.ensures.rows;
      room = λ count readers has. has;
      phases = refl;
      next = refl;
      card = c.in-Some.card;
      card_after = c.run_together.new.card;
      card_is = c.in-Some.is;
      card_then = refl;
      actors = c.in_err-run_together.ensures.kept;
    } in
    OnErr-always _ kept

pub reap-requires : goal.reap-requires
reap-requires g c =
    let others : length (ops_by is_of_card c.args.lines.now) ≢ length c.args.lines.now = λ same. omega (arith, c.line_count.ensures.value, c.if-line_count-lines.false, same) in
    let lab : Lab = c.args.self.now in
    let laws : ActorLaws = record {
      clients = record { lasts = c.last_frames_are_own.ensures; parts = c.parts_are_runs.ensures.clients; alike = c.members_are_unreported.ensures.entries };
      readers = c.parts_are_runs.ensures.readers;
    } in
    let mid : Lab = record lab { card = Some c.run_together.new.card; clients = c.run_together.new.clients; readers = c.run_together.new.readers; rows = c.run_together.new.rows } in
    let run = HasRunLines-parts g.G.Gate c.args.gates.now c.run_together.new.gates lab c.args.lines.now c.in-Some.card c.run_together.new.card c.run_together.new.clients c.run_together.new.readers c.run_together.new.rows c.in-Some.is
    c.in_ok-run_together.ensures.run in
    let done = done-lines g.G.Gate c.args.gates.now c.run_together.new.gates lab mid c.args.lines.now laws c.requires.next others run c.requires.at.stage c.requires.at.base
    c.requires.at.at c.requires.at.counted in
    record {
      clients = record { session = session_of lab; held = held_of c.requires.at.stage; xs = done.next_clients; are = done.clients };
      readers = AreOfRing-done (session_of lab) (capture_of lab) done.next_readers c.run_together.new.readers done.readers;
    }

pub returns-clause-runs : goal.returns-clause-runs
returns-clause-runs g c =
    let others : length (ops_by is_of_card c.args.lines.now) ≢ length c.args.lines.now = λ same. omega (arith, c.line_count.ensures.value, c.if-line_count-lines.false, same) in
    let lab : Lab = c.args.self.now in
    let laws : ActorLaws = record {
      clients = record { lasts = c.last_frames_are_own.ensures; parts = c.parts_are_runs.ensures.clients; alike = c.members_are_unreported.ensures.entries };
      readers = c.parts_are_runs.ensures.readers;
    } in
    let mid : Lab = record lab { card = Some c.run_together.new.card; clients = c.run_together.new.clients; readers = c.run_together.new.readers; rows = c.run_together.new.rows } in
    let run = HasRunLines-parts g.G.Gate c.args.gates.now c.run_together.new.gates lab c.args.lines.now c.in-Some.card c.run_together.new.card c.run_together.new.clients c.run_together.new.readers c.run_together.new.rows c.in-Some.is
    c.in_ok-run_together.ensures.run in
    RunsPhase-reaped g.G.Gate c.args.gates.now c.run_together.new.gates lab mid c.reap.new.self c.args.lines.now laws c.requires.next others run c.reap.ensures
