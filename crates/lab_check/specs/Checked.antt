-- A checked run: a script, its clients' sounds, what its card captures, the text of a report, and the bytes of the files with what was played and
-- recorded, the played one first and then those of the readers in the order of their lines.
use Rattle.std.specs.Prelude.{◌≡◌, ℤ, ℕ, List, [], ◌∷◌, length, map, Option, Ok}
use Rattle.wav_io.specs.Canonical.{canonical}
use Rattle.wav_io.specs.Sound.{Sound}
use Rattle.lab_lines.specs.declared.report.Report.{Report}
use Rattle.lab_lines.specs.declared.script.CardLine.{CardLine}
use Rattle.lab_lines.specs.declared.script.ReaderLine.{ReaderLine}
use Rattle.lab_lines.specs.declared.script.Script.{Script}
use Rattle.lab_run.specs.Openings.{read_by}
use Rattle.lab_check.specs.Defects.{tested_report}
use Rattle.lab_check.specs.Samples.{RunSamples, run_samples}

-- what the card played as a sound, with the card's channels and rate
abbrev pub played_sound : CardLine → List ℤ → Sound
played_sound card samples =
    record { channels = card.channels; rate = card.rate; samples = samples }

-- what readers recorded as sounds, each with the number of its bindings and the card's rate
abbrev pub recorded_sounds : CardLine → List ReaderLine → List (List ℤ) → List Sound
recorded_sounds card [] recorded = []
recorded_sounds card (line ∷ lines) [] = []
recorded_sounds card (line ∷ lines) (samples ∷ recorded) =
    record { channels = length (read_by card line); rate = card.rate; samples = samples }
    ∷ recorded_sounds card lines recorded

-- all sounds of a run, in the order of its files
abbrev pub run_sounds : Script → RunSamples → List Sound
run_sounds script samples =
    played_sound script.card samples.played
    ∷ recorded_sounds script.card script.readers samples.recorded

-- the text is a report of the script that passes all tests, and the files are the canonical ones of the samples that it says
pub record IsChecked (script : Script) (wavs : List Sound) (capture : Option Sound)
    (text : List ℕ) (files : List (List ℕ)) : Type 0 where
  pub report : Report
  pub passes : tested_report script wavs text ≡ Ok report
  pub files_are : files ≡ map canonical (run_sounds script (run_samples script wavs capture report))
