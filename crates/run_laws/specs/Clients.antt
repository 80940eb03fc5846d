-- What each client placed, beside what the others did.
use Rattle.std.specs.Prelude.{◌≡◌, ℕ, List, length, map}
use Rattle.std.specs.List.{flat_map, range_with_len}
use Rattle.mix_core.specs.declared.port.Entry.{Entry}
use Rattle.mix_core.specs.Laid.{sum_of_samples, total}
use Rattle.lab_lines.specs.declared.report.Report.{Report}
use Rattle.lab_run.specs.LabRun.{entries_by}
use Rattle.lab_run.specs.OwnRows.{segments_by}
use Rattle.lab_run.specs.Stage.{Session}
use Rattle.run_laws.specs.Mix.{placed_entries}

-- the samples that the segments of one client placed
abbrev pub placed_by : Session → Report → ℕ → List Entry
placed_by session report number =
    flat_map (λ segment. entries_by session (number, segment)) (segments_by number report.segments)

-- What a report's segments placed is what each client placed, one client after the other. So the sum at a frame and channel is the sum of what each
-- client has there: a client that is stopped keeps what it placed, and nothing of another is missing.
pub record IsSumOfClients (session : Session) (report : Report) : Type 0 where
  pub each : placed_entries session report
      ≡ flat_map (placed_by session report) (range_with_len 0 (length session.clients))
  pub sums : (frame channel : ℕ) → total (placed_entries session report) frame channel
      ≡ sum_of_samples
      (map (λ number. total (placed_by session report number) frame channel)
      (range_with_len 0 (length session.clients)))
