-- A run that the script settles: no phase of it is mixed, and no actor's own gate stops it. It is the only one, and each actor does in it what it
-- does by itself.
use Rattle.std.specs.Prelude.{◌≡◌, ℕ, ◌<◌, List, length, Option, None, slice_index_or}
use Rattle.wav_io.specs.Sound.{Sound}
use Rattle.lab_lines.specs.declared.line.Item.{Item}
use Rattle.lab_lines.specs.declared.script.Script.{Script}
use Rattle.lab_lines.specs.Script.{first_frame}
use Rattle.lab_lines.specs.declared.report.Report.{Report}
use Rattle.lab_run.specs.Items.{no_sound}
use Rattle.lab_run.specs.LabRun.{LabRun, Outcome, lab_text}
use Rattle.lab_run.specs.OwnRows.{IsClientAlone, IsReaderAlone, answers_of, own_items, rows_by, segments_by}
use Rattle.lab_run.specs.Phases.{AreUnmixed, is_client}
use Rattle.lab_run.specs.Stage.{Session}

-- no actor's own gate stops it
abbrev pub IsUnstopped : (ℕ → ℕ) → Type 0
IsUnstopped stops = (number : ℕ) → stops number ≡ 0

-- a run of a body in which no actor's own gate stops it
pub record IsUnstoppedRun (session : Session) (capture : Option Sound) (body : List Item)
    (outcome : Outcome) : Type 0 where
  pub client_stops : ℕ → ℕ
  pub reader_stops : ℕ → ℕ
  pub clients : IsUnstopped client_stops
  pub readers : IsUnstopped reader_stops
  pub run : LabRun session capture body client_stops reader_stops outcome

-- where no phase is mixed, such a run is the one in which each load gives the position at its phase's end and a frame is in time exactly where
-- it isn't below that; each other such run leaves the same report, played samples and recordings
pub record IsExactRun (session : Session) (capture : Option Sound) (body : List Item)
    (outcome : Outcome) : Type 0 where
  pub is : AreUnmixed body → outcome ≡ lab_text session capture body
  pub only : AreUnmixed body → (other : Outcome) → IsUnstoppedRun session capture body other
      → other ≡ outcome

-- where no phase is mixed, each client's rows and segments, and each reader's rows and runs, are those that it has by itself: they follow from
-- the card's lines, its own lines, its own file and the answers of its own opens
pub record IsOwnRun (script : Script) (session : Session) (outcome : Outcome) : Type 0 where
  pub clients : AreUnmixed script.body → (number : ℕ) → number < length script.clients
      → IsClientAlone session script.body outcome.report number
  pub readers : AreUnmixed script.body → (number : ℕ) → number < length script.readers
      → IsReaderAlone session script.body outcome.report number

-- two scripts have the same of a client: the card's ring and frames, the client's line and file, its own lines, and of each phase how many frames
-- the card plays
pub record HasSameClient (session : Session) (body : List Item) (other : Session)
    (other_body : List Item) (number : ℕ) : Type 0 where
  pub ring : session.ring ≡ other.ring
  pub first : first_frame session.card ≡ first_frame other.card
  pub setup : slice_index_or session.clients number None ≡ slice_index_or other.clients number None
  pub file : slice_index_or session.sounds number no_sound
      ≡ slice_index_or other.sounds number no_sound
  pub items : own_items (is_client number) body ≡ own_items (is_client number) other_body

-- then the client has the same rows and segments in both reports, if its opens are answered the same; the other clients don't matter
abbrev pub DoesTheSame : Report → Report → ℕ → Type 0
DoesTheSame report other number =
    answers_of (rows_by (is_client number) report.rows)
    ≡ answers_of (rows_by (is_client number) other.rows)
    → (rows_by (is_client number) report.rows ≡ rows_by (is_client number) other.rows)
    × (segments_by number report.segments ≡ segments_by number other.segments)
