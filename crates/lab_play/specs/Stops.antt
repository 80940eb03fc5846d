-- How often the gates of a run stopped actors.
--     rises      since some moment
--     HaveNoStops      never
--     IsWithinStops      at most so often up to a stage of a run
use Rattle.std.specs.Prelude.{◌-◌}
use Rattle.run_laws.specs.Exact.{IsUnstopped}
use Rattle.lab_run.specs.LabRun.{AreWithin}
use Rattle.lab_run.specs.Stage.{Stage}
use Rattle.lab_phase.specs.PhaseRuns.{Stops}

-- how often each gate stopped its actor, when it had stopped so often before
abbrev pub rises : Stops → Stops → Stops
rises before after = record {
  clients = λ n. after.clients n - before.clients n;
  readers = λ n. after.readers n - before.readers n;
}

-- no gate stopped an actor
pub record HaveNoStops (stops : Stops) : Type 0 where
  pub clients : IsUnstopped stops.clients
  pub readers : IsUnstopped stops.readers

-- up to a stage of a run each actor was stopped by its own gate at most as often as this gate stopped
pub record IsWithinStops (stops : Stops) (stage : Stage) : Type 0 where
  pub clients : AreWithin stops.clients 0 stage.clients
  pub readers : AreWithin stops.readers 0 stage.readers
