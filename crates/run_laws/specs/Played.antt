-- What a card has played stays as it is.
use Rattle.std.specs.Prelude.{◌≡◌, ◌-◌, ◌++◌, ℤ, List}
use Rattle.lab_lines.specs.Script.{first_frame}
use Rattle.lab_run.specs.LabRun.{all_segments, mix_of}
use Rattle.lab_run.specs.Stage.{Session, Stage}

-- the mix of the segments of a stage of a run, of the frames that the card has played by then
abbrev pub played_at : Session → Stage → List ℤ
played_at session stage = mix_of session (all_segments stage.clients) (stage.position - first_frame session.card)

-- that of a later stage begins with it
abbrev pub PlayedStays : Session → Stage → Stage → Type 0
PlayedStays session stage later =
    (more : List ℤ) × (played_at session later ≡ played_at session stage ++ more)
