-- A row that is answered late: it names a frame and channel at which the client's stretch has no sample.
use Rattle.std.specs.Prelude.{◌≡◌, ℕ, ◌+◌, false, List, [], ◌∷◌, ◌++◌, true, All, Some}
use Rattle.std.specs.List.{flat_map}
use Rattle.snd_base.specs.declared.errors.PcmError.TheVariants.{Xrun}
use Rattle.snd_base.specs.declared.errors.XrunWhy.TheVariants as why
use Rattle.snd_base.specs.declared.places.Segment.{Segment}
use Rattle.mix_core.specs.declared.port.Entry.{Entry}
use Rattle.mix_core.specs.Laid.{at}
use Rattle.dmix_client.specs.declared.stream.PlaybackStream.{PlaybackStream}
use Rattle.lab_lines.specs.declared.line.Actor.TheVariants as actor
use Rattle.lab_lines.specs.declared.line.Item.{Item}
use Rattle.lab_lines.specs.declared.line.Item.TheVariants as item
use Rattle.lab_lines.specs.declared.line.Line.{Line}
use Rattle.lab_lines.specs.declared.line.Op.{Op}
use Rattle.lab_lines.specs.declared.line.Op.TheVariants as op
use Rattle.lab_lines.specs.declared.report.Report.{Report}
use Rattle.lab_lines.specs.declared.row.Answer.{Answer}
use Rattle.lab_lines.specs.declared.row.Answer.TheVariants.{Failed}
use Rattle.lab_lines.specs.declared.row.Row.{Row}
use Rattle.lab_run.specs.Client.{Client, present_of, row_by, segments_of}
use Rattle.lab_run.specs.Items.{ItemsMay, client_kinds, rules_of}
use Rattle.lab_run.specs.LabRun.{entries_by}
use Rattle.run_laws.specs.LateRows.{IsLastSample, is_rewind}
use Rattle.lab_run.specs.Lines.{LineMay, LinesMay}
use Rattle.lab_run.specs.OwnRows.{segments_by}
use Rattle.lab_run.specs.Phases.{is_client, ops_by}
use Rattle.lab_run.specs.Rules.{AtPort}
use Rattle.lab_run.specs.Stage.{Session, Stage, client_at, first_stage}

-- a client's line in a run of a body: the phase that it is in, with the run up to there and the client's lines before it, and then the client
-- before the line and after it
pub record IsLineOf (session : Session) (body : List Item) (number : ℕ) (before : AtPort × Client)
    (asked : Op) (after : AtPort × Client) (answer : Answer) : Type 0 where
  pub done : List Item
  pub others : List Item
  pub lines : List Line
  pub body_is : body ≡ done ++ item.Phase lines ∷ others
  pub stage : Stage
  pub reached : ItemsMay session (first_stage session) done stage
  pub early : List Op
  pub rows : List Row
  pub later : List Op
  pub lines_are : ops_by (is_client number) lines ≡ early ++ asked ∷ later
  pub lines_so_far : LinesMay (client_kinds session stage number)
      (rules_of session stage lines) (client_at session stage number) early before rows
  pub line : LineMay (client_kinds session stage number) (rules_of session stage lines)
      before asked after answer

-- the samples that a client has placed in its present stretch: those of the segment that a report has of it
abbrev pub placed_now : Session → ℕ → Client → List Entry
placed_now session number client =
    flat_map (λ segment. entries_by session (number, segment)) (present_of client.own)

-- a line of a client was answered late, at a frame and channel of the card
abbrev pub IsLate : Answer → ℕ → ℕ → Type 0
IsLate answer frame channel = answer ≡ Failed (Xrun (why.Late frame channel 0))

-- a client is open, and the last sample of its stretch that is in the card's ring is at this frame and channel
pub record HasLast (client : Client) (frame channel : ℕ) : Type 0 where
  pub own : PlaybackStream
  pub is_own : client.own ≡ Some own
  pub last : IsLastSample own frame channel

-- Then none of the samples that the client's stretch has placed by then is at this frame and channel. A rewind that was late names the last sample
-- of the stretch that is in the card's ring instead: the one that it couldn't take back.
pub record LateLinesMiss (session : Session) (body : List Item) : Type 0 where
  pub missed : (number : ℕ) (before after : AtPort × Client) (asked : Op)
      (answer : Answer) (frame channel : ℕ)
      → IsLineOf session body number before asked after answer → is_rewind asked ≡ false
      → IsLate answer frame channel
      → at (placed_now session number after.1) frame channel ≡ []
  pub rewinds : (number : ℕ) (before after : AtPort × Client) (n : ℕ) (answer : Answer)
      (frame channel : ℕ)
      → IsLineOf session body number before (op.Rewind n) after answer → IsLate answer frame channel
      → HasLast after.1 frame channel

-- A row of a client is that of a line of the run. It is this run's line: the rows of the report up to its phase are the first ones of all rows.
pub record IsRowOfLine (session : Session) (body : List Item) (all : List Row)
    (row : Row) (number : ℕ) : Type 0 where
  pub before : AtPort × Client
  pub after : AtPort × Client
  pub asked : Op
  pub answer : Answer
  pub line : IsLineOf session body number before asked after answer
  pub later_rows : List Row
  pub rows_are : all ≡ line.stage.rows ++ later_rows
  pub row_is : row ≡ row_by (line.stage.phases + 1) number asked after.1.own answer

-- A report lists the segments that a client has after a line, that of its present stretch as the last one, and others only behind them.
pub record ListsSegments (report : Report) (number : ℕ) (client : Client) : Type 0 where
  pub others : List Segment
  pub segments_are : segments_by number report.segments ≡ segments_of client ++ others

-- After the line the client's stretch has no sample at a frame and channel, and the report lists the segment of this stretch as it is then.
pub record RowMisses (session : Session) (body : List Item) (report : Report)
    (row : Row) (number frame channel : ℕ) : Type 0 where
  pub of : IsRowOfLine session body report.rows row number
  pub none : at (placed_now session number of.after.1) frame channel ≡ []
  pub listed : ListsSegments report number of.after.1

-- After the line the last sample of the client's stretch that is in the card's ring is that of a frame and channel, and it stays: the report lists the
-- segment of this stretch as it is then.
pub record RowNamesLast (session : Session) (body : List Item) (report : Report)
    (row : Row) (number frame channel : ℕ) : Type 0 where
  pub of : IsRowOfLine session body report.rows row number
  pub last : HasLast of.after.1 frame channel
  pub listed : ListsSegments report number of.after.1

-- what a row says that is answered late: of a rewind the other thing
pub record SaysWhereLate (session : Session) (body : List Item) (report : Report)
    (row : Row) : Type 0 where
  -- it names a frame and channel at which its client's stretch has no sample
  pub missed : (number frame channel : ℕ) → row.actor ≡ actor.Client number
      → is_rewind row.op ≡ false → IsLate row.answer frame channel
      → RowMisses session body report row number frame channel
  -- a rewind names the sample that it couldn't take back
  pub rewinds : (number frame channel : ℕ) → row.actor ≡ actor.Client number
      → is_rewind row.op ≡ true → IsLate row.answer frame channel
      → RowNamesLast session body report row number frame channel

-- each row of a report
abbrev pub LateRowsMiss : Session → List Item → Report → Type 0
LateRowsMiss session body report = All (SaysWhereLate session body report) report.rows
