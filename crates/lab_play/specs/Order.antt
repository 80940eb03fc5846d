-- In which order a run that stopped had written: the rows of a phase are put only once all its frames are appended.
--     StopsInFrames      not all frames of a phase were appended: none of its rows was put
--     StopsInRows      the files hold all frames so far: no row was put but of the phases of these
--     StopsInHeads      no item was left, and not each file had its true head: nothing was put but rows, and the files have all frames
--     StopsInTail      each file is finished: any of the report may be put
--     RowsFollowFrames      one of these, or nothing was put but the first line
use Rattle.std.specs.Prelude.{◌≡◌, ◌⊎◌, ℕ, ℤ, List, [], ◌∷◌, Option}
use Rattle.std.specs.Option.{option_map}
use Rattle.lab_lines.specs.declared.line.Item.{Item}
use Rattle.lab_lines.specs.declared.line.Item.TheVariants as item
use Rattle.lab_lines.specs.declared.line.Line.{Line}
use Rattle.lab_lines.specs.declared.script.Script.{Script}
use Rattle.lab_run.specs.Items.{ItemMay}
use Rattle.lab_run.specs.ScriptWords.{IsReached}
use Rattle.lab_run.specs.Stage.{Session, Stage}
use Rattle.lab_input.specs.Input.{RunInput}
use Rattle.lab_output.specs.Files.{unfinished_files, output_files, finished_files}
use Rattle.lab_output.specs.Going.{KeepSamples}
use Rattle.lab_output.specs.Text.{head_text, text_so_far}
use Rattle.lab_shelf.specs.Files.{Files, TookPart}

-- the last phase led from an earlier stage to this one, and nothing was put but the first bytes of the rows of the earlier one
pub record StopsInFrames (input : RunInput) (session : Session) (others : List Item)
    (stage : Stage) (taken taken_after : Option (List ℕ)) : Type 0 where
  pub done : List Item
  pub lines : List Line
  pub earlier : Stage
  pub reached : IsReached input.script input.sounds session done (item.Phase lines ∷ others) earlier
  pub may : ItemMay session earlier (item.Phase lines) stage
  pub text : TookPart taken taken_after (text_so_far input.script earlier.rows)

-- each file holds an open head and all its samples so far, and nothing was put but the first bytes of the rows of the stage
pub record StopsInRows (script : Script) (out : List ℕ) (stage : Stage) (sounds : List (List ℤ))
    (before after : Option Files) (taken taken_after : Option (List ℕ)) : Type 0 where
  pub files : after ≡ option_map (unfinished_files (output_files script out) sounds) before
  pub text : TookPart taken taken_after (text_so_far script stage.rows)

-- all items are done, each file has all its samples, and nothing was put but the first bytes of the rows
pub record StopsInHeads (script : Script) (out : List ℕ) (others : List Item)
    (stage : Stage) (sounds : List (List ℤ)) (after : Option Files)
    (taken taken_after : Option (List ℕ)) : Type 0 where
  pub last : others ≡ []
  pub kept : KeepSamples (output_files script out) sounds after
  pub text : TookPart taken taken_after (text_so_far script stage.rows)

-- all items are done, and each file is the canonical WAV file of its samples
pub record StopsInTail (script : Script) (out : List ℕ) (others : List Item)
    (sounds : List (List ℤ)) (before after : Option Files) : Type 0 where
  pub last : others ≡ []
  pub files : after ≡ option_map (finished_files (output_files script out) sounds) before

-- the output took no byte of a phase's rows before all frames of the phase were appended, and none of what is below the rows before each file was finished
abbrev pub RowsFollowFrames : RunInput → List ℕ → Session → List Item → Stage → List (List ℤ)
    → Option Files → Option Files → Option (List ℕ) → Option (List ℕ) → Type 0
RowsFollowFrames input out session others stage sounds before after taken taken_after =
    TookPart taken taken_after head_text
    ⊎ (StopsInFrames input session others stage taken taken_after
    ⊎ (StopsInRows input.script out stage sounds before after taken taken_after
    ⊎ (StopsInHeads input.script out others stage sounds after taken taken_after
    ⊎ StopsInTail input.script out others sounds before after)))
