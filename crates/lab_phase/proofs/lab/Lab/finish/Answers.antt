use Rattle.lab_phase.specs.Prelude.{ap, arith, subst, sym, ◌+◌, ◌∙◌, Vec, IsSomeAnd, length, List, map, Option, ℕ, ℤ, ◌++◌, held_of, all_runs, all_segments}
use Rattle.lab_phase.specs.Prelude.{recorded_from, Session, Stage, CardActor, Lab, capture_of, session_of, IsMixOf}
use Rattle.snd_base.specs.declared.places.Segment.{Segment}
use Rattle.lab_clients.specs.End.{all_segments-listed}
use Rattle.lab_readers.specs.End.{all_runs-at}
use Rattle.lab_phase.proofs.Ending.{HaveAllPlaces-at, may-end, outcome-at, played-mixed}
use Rattle.lab_phase.proofs.Numbers.{reader_count}
use Rattle.lab_phase.proofs.lab.Lab.finish.Goals as goal

pub segments_into-requires : goal.segments_into-requires
segments_into-requires c =
    let lab : Lab = c.args.self in
    let stage : Stage = c.requires.at.stage in
    let at = c.requires.at.at in
    let within = (c.reports_are_within_rows.ensures (session_of lab) at.has_done.done stage at.has_done.reached.may).segments in
    let all = ap length (all_segments-listed (session_of lab) (held_of stage) stage.clients lab.clients at.actors.clients_are) in
    let rows = ap length at.rows in
    let room = at.room.segments in
    omega (arith, within, all, rows, room)

pub runs_into-requires : goal.runs_into-requires
runs_into-requires c =
    let lab : Lab = c.args.self in
    let stage : Stage = c.requires.at.stage in
    let at = c.requires.at.at in
    let within = (c.reports_are_within_rows.ensures (session_of lab) at.has_done.done stage at.has_done.reached.may).runs in
    let all = ap length (all_runs-at (session_of lab) (capture_of lab) stage.readers lab.readers at.actors.readers_are) in
    let rows = ap length at.rows in
    let room = at.room.runs in
    omega (arith, within, all, rows, room)

pub recorded_into-requires : goal.recorded_into-requires
recorded_into-requires c =
    let count = reader_count c.args.self c.requires.at.stage c.requires.at.at in
    let room = c.requires.at.at.room.recorded in
    omega (arith, count, room)

pub close_rings-requires-clause-places : goal.close_rings-requires-clause-places
close_rings-requires-clause-places c = HaveAllPlaces-at c.args.self c.requires.at.stage c.requires.at.at c.unwrap-card.result c.unwrap-card.ensures

pub returns-clause-stage : goal.returns-clause-stage
returns-clause-stage c stage at =
    let lab : Lab = c.args.self in
    let session : Session = session_of lab in
    let room = c.requires.at.at.room in
    outcome-at lab stage at c.unwrap-card.result c.unwrap-card.ensures c.report_of-report.result (map (λ (samples : Vec ℤ). samples.items) c.recorded_into.new.all.items) c.report_of-report.ensures.rows
    (c.report_of-report.ensures.segments
    ∙ (c.segments_into.ensures session (held_of stage) stage.clients at.actors.clients_are ∙ ap (λ (none : List (ℕ × Segment)). none ++ all_segments stage.clients) room.no_segments))
    (c.report_of-report.ensures.runs
    ∙ (c.runs_into.ensures.report session (capture_of lab) stage.readers at.actors.readers_are ∙ ap (λ (none : List (ℕ × ℕ × ℕ)). none ++ all_runs stage.readers) room.no_runs))
    (c.report_of-report.ensures.first ∙ c.frames_of-first.ensures.first) (c.report_of-report.ensures.frames ∙ c.frames_of-first.ensures.frames)
    (c.close_rings.ensures.mix session (held_of stage) stage.clients at.actors.clients_are)
    (c.recorded_into.ensures session (capture_of lab) stage.readers at.actors.readers_are
    ∙ ap (λ (none : List (Vec ℤ)). map (λ (samples : Vec ℤ). samples.items) none ++ recorded_from session (capture_of lab) 0 stage.readers) room.no_recorded)

pub returns-clause-run : goal.returns-clause-run
returns-clause-run c stage client_stops reader_stops at clients readers = record {
  end = stage;
  may = may-end c.args.self stage at c.requires.end;
  clients = clients;
  readers = readers;
  is = returns-clause-stage c stage at;
}

pub returns-clause-one : goal.returns-clause-one
returns-clause-one c = c.one_run.ensures (session_of c.args.self) (capture_of c.args.self) c.args.self.script.now.body

pub returns-clause-exact : goal.returns-clause-exact
returns-clause-exact c stage at clients readers unmixed =
    (c.one_run.ensures (session_of c.args.self) (capture_of c.args.self) c.args.self.script.now.body).only unmixed _
    (returns-clause-run c stage (λ n. 0) (λ n. 0) at clients readers)

pub returns-clause-placed : goal.returns-clause-placed
returns-clause-placed c stage at =
    subst (λ (card : Option CardActor). IsSomeAnd card (λ (a : CardActor). IsMixOf (session_of c.args.self) stage.clients a.card)) (sym c.unwrap-card.ensures)
    (c.close_rings.ensures.mix (session_of c.args.self) (held_of stage) stage.clients at.actors.clients_are)

pub returns-clause-mix : goal.returns-clause-mix
returns-clause-mix c = played-mixed c.args.self c.unwrap-card.result c.unwrap-card.ensures c.close_rings.ensures.mix
