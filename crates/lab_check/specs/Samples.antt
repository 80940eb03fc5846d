-- The samples that a report says of: what the card played and what each reader recorded, by script, files and report alone.
use Rattle.std.specs.Prelude.{ℕ, ◌+◌, ◌-◌, ◌*◌, ℤ, pos, nat_lt, if◌then◌else◌, List, [], ◌∷◌, map, Option, Some, None}
use Rattle.std.specs.List.{flat_map, range_with_len}
use Rattle.wav_io.specs.Sound.{Sound}
use Rattle.dmix_client.specs.Expansion.{sample_at}
use Rattle.lab_lines.specs.declared.report.Report.{Report}
use Rattle.lab_lines.specs.declared.script.CardLine.{CardLine}
use Rattle.lab_lines.specs.declared.script.ReaderLine.{ReaderLine}
use Rattle.lab_lines.specs.declared.script.Script.{Script}
use Rattle.lab_lines.specs.Script.{first_frame}
use Rattle.lab_run.specs.LabRun.{mixed_at}
use Rattle.lab_run.specs.Openings.{read_by}
use Rattle.lab_run.specs.OwnRows.{runs_by}
use Rattle.run_laws.specs.Files.{placed_from}
use Rattle.run_laws.specs.Recordings.{frames_of_runs}

-- the played samples, interleaved: each is the saturated sum of what the segments placed at its frame and channel
abbrev pub played_samples : Script → List Sound → Report → List ℤ
played_samples script wavs report =
    map (mixed_at script.card.channels report.first (placed_from script wavs report))
    (range_with_len 0 (report.frames * script.card.channels))

-- the sample that a card captures at a frame and channel: that of the capture file, or 0 where it has none
abbrev pub captured_by : CardLine → Option Sound → ℕ → ℕ → ℤ
captured_by card None frame channel = pos 0
captured_by card (Some wav) frame channel =
    if nat_lt channel wav.channels
    then sample_at wav.samples wav.channels (frame - first_frame card) channel else pos 0

-- the captured frames of some runs, interleaved: of each frame the channels that the bindings name, in their order
abbrev pub captured_runs : CardLine → Option Sound → List ℕ → List (ℕ × ℕ) → List ℤ
captured_runs card capture bindings runs =
    flat_map (λ frame. map (captured_by card capture frame) bindings) (frames_of_runs runs)

-- what the reader of a number and a line recorded: the captured frames of its runs, through its bindings
abbrev pub reader_samples : CardLine → Option Sound → Report → ℕ → ReaderLine → List ℤ
reader_samples card capture report number line =
    captured_runs card capture (read_by card line) (runs_by number report.runs)

-- what the readers of some lines recorded, the first of which has a number
abbrev pub readers_samples : CardLine → Option Sound → Report → ℕ → List ReaderLine → List (List ℤ)
readers_samples card capture report number [] = []
readers_samples card capture report number (line ∷ lines) =
    reader_samples card capture report number line
    ∷ readers_samples card capture report (number + 1) lines

-- what the card played, and what each reader recorded, in the order of the readers' lines
pub record RunSamples : Type 0 where
  pub played : List ℤ
  pub recorded : List (List ℤ)

-- what a report says was played and recorded
abbrev pub run_samples : Script → List Sound → Option Sound → Report → RunSamples
run_samples script wavs capture report = record {
  played = played_samples script wavs report;
  recorded = readers_samples script.card capture report 0 script.readers;
}
