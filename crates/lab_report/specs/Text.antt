-- The text of a report: its lines, and what each of them says.
use Rattle.std.specs.Prelude.{◌≡◌, ℕ, ◌<◌, List, [], ◌∷◌, ◌++◌, length, map, Option, Some, None, All, codes, slice_get}
use Rattle.std.specs.Fmt.{decimal}
use Rattle.std.specs.List.{flat_map}
use Rattle.std.specs.Option.{option_map_or}
use Rattle.snd_base.specs.declared.errors.PcmError.{PcmError}
use Rattle.snd_base.specs.declared.errors.PcmError.TheVariants.{BadState, Xrun, Again, NoDevice, Invalid, Busy, NotSupported, LapEnd, Stopped, Memory}
use Rattle.snd_base.specs.declared.errors.Why.TheVariants.{Config}
use Rattle.snd_base.specs.declared.errors.XrunWhy.{XrunWhy}
use Rattle.snd_base.specs.declared.errors.XrunWhy.TheVariants.{Empty, Already, Avail, Late, Overtaken}
use Rattle.snd_base.specs.declared.places.Segment.{Segment}
use Rattle.pcm_states.specs.declared.states.State.{State}
use Rattle.pcm_states.specs.declared.states.State.TheVariants.{Suspended}
use Rattle.pcm_states.specs.States.{state_name}
use Rattle.lab_lines.specs.declared.line.Actor.{Actor}
use Rattle.lab_lines.specs.declared.line.Actor.TheVariants.{Card, Client, Reader}
use Rattle.lab_lines.specs.declared.script.ClientLine.{ClientLine}
use Rattle.lab_lines.specs.declared.script.ReaderLine.{ReaderLine}
use Rattle.lab_lines.specs.declared.script.Script.{Script}
use Rattle.lab_lines.specs.Limits.{IsActor}
use Rattle.lab_script.specs.Ops.{op_text}
use Rattle.lab_lines.specs.declared.request.Request.{Request}
use Rattle.lab_lines.specs.declared.row.Answer.{Answer}
use Rattle.lab_lines.specs.declared.row.Answer.TheVariants.{Done, Count, Failed}
use Rattle.lab_lines.specs.declared.row.Row.{Row}
use Rattle.lab_lines.specs.declared.report.Report.{Report}
use Rattle.lab_lines.specs.Rows.{request_of_row}
use Rattle.lab_report.specs.Requests.{requests_of}

-- the name of the client of this number
abbrev pub client_name : Script → ℕ → List ℕ
client_name script number = option_map_or (λ (client : ClientLine). client.name) (slice_get script.clients number) []

-- the name of the reader of this number
abbrev pub reader_name : Script → ℕ → List ℕ
reader_name script number = option_map_or (λ (reader : ReaderLine). reader.name) (slice_get script.readers number) []

-- the name of an actor: `card`, or the name of its client or reader
abbrev pub actor_name : Script → Actor → List ℕ
actor_name script Card = codes "card"
actor_name script (Client number) = client_name script number
actor_name script (Reader number) = reader_name script number

-- a number, or `-` where there is none
abbrev pub number_or_dash : Option ℕ → List ℕ
number_or_dash None = codes "-"
number_or_dash (Some n) = decimal n

-- why there was an xrun; what was seen is elsewhere in the row
abbrev pub xrun_text : XrunWhy → List ℕ
xrun_text Empty = codes "empty"
xrun_text Already = codes "already"
xrun_text (Avail avail seen) = codes "avail " ++ decimal avail
xrun_text (Late frame channel seen) = codes "late " ++ decimal frame ++ 32 ∷ decimal channel
xrun_text (Overtaken frame channel seen) = codes "overtaken " ++ decimal frame ++ 32 ∷ decimal channel

-- what a refusal's text begins with: the name of its error number, or `stopped`
abbrev pub error_front : PcmError → List ℕ
error_front BadState = codes "EBADFD"
error_front (Xrun why) = codes "EPIPE "
error_front Again = codes "EAGAIN"
error_front NoDevice = codes "ENODEV"
error_front (Invalid why) = codes "EINVAL"
error_front (Busy until seen) = codes "EBUSY "
error_front NotSupported = codes "EIO"
error_front Stopped = codes "stopped"
error_front LapEnd = []
error_front Memory = []

-- what a refusal's text says after that
abbrev pub error_rest : PcmError → List ℕ
error_rest (Xrun why) = xrun_text why
error_rest (Busy until seen) = number_or_dash until ++ 32 ∷ decimal seen
error_rest error = []

-- a refusal, by the name of its error number; `LapEnd` and `Memory` have no text in a report
abbrev pub error_text : PcmError → List ℕ
error_text BadState = codes "EBADFD"
error_text (Xrun why) = codes "EPIPE " ++ xrun_text why
error_text Again = codes "EAGAIN"
error_text NoDevice = codes "ENODEV"
error_text (Invalid why) = codes "EINVAL"
error_text (Busy until seen) = codes "EBUSY " ++ number_or_dash until ++ 32 ∷ decimal seen
error_text NotSupported = codes "EIO"
error_text Stopped = codes "stopped"
error_text LapEnd = []
error_text Memory = []

-- an answer
abbrev pub answer_text : Answer → List ℕ
answer_text Done = codes "ok"
answer_text (Count n) = decimal n
answer_text (Failed error) = error_text error

-- what a row is about: PHASE NAME OP =
abbrev pub front_text : Script → Request → List ℕ
front_text script request = decimal request.phase ++ 32 ∷ actor_name script request.actor ++ 32 ∷ op_text request.op ++ codes " ="

-- the line of a row: what it is about, the answer, the state, and what was seen
abbrev pub row_line : Script → Row → List ℕ
row_line script row =
    front_text script (request_of_row row) ++ 32 ∷ answer_text row.answer ++ 32 ∷ state_name row.state
    ++ 32 ∷ number_or_dash row.seen ++ 10 ∷ []

-- the line of a client's segment
abbrev pub segment_line : Script → (ℕ × Segment) → List ℕ
segment_line script (client, segment) =
    codes "segment " ++ client_name script client ++ 32 ∷ decimal segment.source ++ 32 ∷ decimal segment.card
    ++ 32 ∷ decimal segment.whole ++ 32 ∷ decimal segment.part ++ 10 ∷ []

-- the line of a reader's run
abbrev pub run_line : Script → (ℕ × ℕ × ℕ) → List ℕ
run_line script (reader, first, count) =
    codes "run " ++ reader_name script reader ++ 32 ∷ decimal first ++ 32 ∷ decimal count ++ 10 ∷ []

-- the line of what was played
abbrev pub played_line : ℕ → ℕ → List ℕ
played_line first frames = codes "played " ++ decimal first ++ 32 ∷ decimal frames ++ 10 ∷ []

-- what is below the rows: a line for each segment, one for each run, what was played, and the end
abbrev pub tail_text : Script → Report → List ℕ
tail_text script report =
    flat_map (segment_line script) report.segments ++ flat_map (run_line script) report.runs
    ++ played_line report.first report.frames ++ codes "end\n"

-- the text of a report of a script: the head, a line for each row, and what is below them
abbrev pub report_text : Script → Report → List ℕ
report_text script report = codes "dmixlab 1\n" ++ flat_map (row_line script) report.rows ++ tail_text script report

-- an xrun that a report can say: what isn't printed is 0
abbrev pub HasXrunText : XrunWhy → Type 0
HasXrunText Empty = Unit {0}
HasXrunText Already = Unit {0}
HasXrunText (Avail avail seen) = seen ≡ 0
HasXrunText (Late frame channel seen) = seen ≡ 0
HasXrunText (Overtaken frame channel seen) = seen ≡ 0

-- a refusal that a report can say
abbrev pub HasErrorText : PcmError → Type 0
HasErrorText LapEnd = ⊥
HasErrorText Memory = ⊥
HasErrorText (Xrun why) = HasXrunText why
HasErrorText (Invalid why) = why ≡ Config
HasErrorText error = Unit {0}

-- an answer that a report can say
abbrev pub HasText : Answer → Type 0
HasText Done = Unit {0}
HasText (Count n) = Unit {0}
HasText (Failed error) = HasErrorText error

-- a state that a report can say
abbrev pub HasStateText : State → Type 0
HasStateText Suspended = ⊥
HasStateText state = Unit {0}

-- a row is of an actor of the script, and its answer and state have a text
pub record IsRowOf (script : Script) (row : Row) : Type 0 where
  pub actor : IsActor (length script.clients) (length script.readers) row.actor
  pub answer : HasText row.answer
  pub state : HasStateText row.state

-- a segment is of a client of the script
abbrev pub IsSegmentOf : Script → (ℕ × Segment) → Type 0
IsSegmentOf script (client, segment) = client < length script.clients

-- a run is of a reader of the script
abbrev pub IsRunOf : Script → (ℕ × ℕ × ℕ) → Type 0
IsRunOf script (reader, first, count) = reader < length script.readers

-- what is below the rows is of actors of the script
pub record IsTailOf (script : Script) (report : Report) : Type 0 where
  pub segments : All (IsSegmentOf script) report.segments
  pub runs : All (IsRunOf script) report.runs

-- a report is one of a script: its rows are those of the script's lines, in order, and have texts; its segments and runs
-- are of the script's clients and readers
pub record IsReportOf (script : Script) (report : Report) : Type 0 where
  pub lines : map request_of_row report.rows ≡ requests_of script
  pub rows : All (IsRowOf script) report.rows
  pub tail : IsTailOf script report
