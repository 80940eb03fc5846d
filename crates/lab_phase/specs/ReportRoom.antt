-- The room for what the end of a run leaves.
use Rattle.std.specs.Prelude.{◌≡◌, ℕ, ◌≤◌, []}
use Rattle.std.proofs.Common.{arith}
use Rattle.lab_actors.specs.Room.{HasSpace}
use Rattle.lab_phase.specs.declared.report_room.ReportRoom.{ReportRoom}

-- the lists are empty, and have room for as many segments and runs as a report of so many rows may have, and for the samples of so many readers
pub record HasReportRoom (rows readers : ℕ) (room : ReportRoom) : Type 0 where
  pub segments : HasSpace rows room.segments
  pub runs : HasSpace rows room.runs
  pub recorded : HasSpace readers room.recorded
  pub no_segments : room.segments.items ≡ []
  pub no_runs : room.runs.items ≡ []
  pub no_recorded : room.recorded.items ≡ []

-- it has whatever room it had
abbrev pub KeepsRoom : ReportRoom → ReportRoom → Type 0
KeepsRoom before after =
    (rows readers : ℕ) → HasReportRoom rows readers before → HasReportRoom rows readers after

-- room for more rows is room for fewer
pub HasReportRoom-fewer : (rows fewer readers : ℕ) (room : ReportRoom) → fewer ≤ rows → HasReportRoom rows readers room → HasReportRoom fewer readers room
HasReportRoom-fewer rows fewer readers room few has =
    let segments = has.segments in
    let runs = has.runs in
    record {
      segments = omega (arith, few, segments);
      runs = omega (arith, few, runs);
      recorded = has.recorded;
      no_segments = has.no_segments;
      no_runs = has.no_runs;
      no_recorded = has.no_recorded;
    }
