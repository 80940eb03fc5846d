-- What an actor does by itself: its rows, and its segments or its frames, by the card's line and lines, its own line, lines and file, and
-- the answers of its own opens. Nothing of another actor is in it.
use Rattle.std.specs.Prelude.{◌≡◌, ℕ, ◌+◌, Bool, true, false, ◌||◌, is_some, nat_eq, if◌then◌else◌, List, [], ◌∷◌, ◌++◌, filter, map, slice_index_or, Option, Some, None, option_map, ◌<◌, length, ⊤}
use Rattle.snd_base.specs.declared.errors.PcmError.TheVariants.{BadState}
use Rattle.snd_base.specs.declared.geometry.Geometry.{Geometry}
use Rattle.snd_base.specs.declared.places.Segment.{Segment}
use Rattle.pcm_states.specs.declared.states.State.TheVariants as state
use Rattle.wav_io.specs.Sound.{Sound}
use Rattle.lab_lines.specs.declared.line.Actor.{Actor}
use Rattle.lab_lines.specs.declared.line.Item.{Item}
use Rattle.lab_lines.specs.declared.line.Item.TheVariants as item
use Rattle.lab_lines.specs.declared.line.Op.{Op}
use Rattle.lab_lines.specs.declared.line.Op.TheVariants as op
use Rattle.lab_lines.specs.Script.{first_frame, unplugs}
use Rattle.lab_lines.specs.declared.row.Answer.{Answer}
use Rattle.lab_lines.specs.declared.row.Answer.TheVariants.{Done, Failed}
use Rattle.lab_lines.specs.declared.report.Report.{Report}
use Rattle.lab_lines.specs.declared.row.Row.{Row}
use Rattle.lab_run.specs.Client.{Client, client_kind, segments_of}
use Rattle.lab_run.specs.Items.{is_reader_stopped, is_stopped, no_sound}
use Rattle.lab_run.specs.LabRun.{lab_text, runs_of}
use Rattle.lab_run.specs.Lines.{Kind, lines_text}
use Rattle.lab_run.specs.Phases.{is_client, is_reader, ops_by, played_in}
use Rattle.lab_run.specs.Reader.{Reader, reader_kind}
use Rattle.lab_run.specs.Rules.{AtPort, CardEnd}
use Rattle.lab_run.specs.Stage.{Session, Setup, no_client, no_reader, opened_client, opened_reader, renewed_port}

-- what a script has of one actor: its opens and closes, and of each phase how far the card plays, whether it is unplugged, and the
-- actor's own lines
pub data OwnItem : Type 0 where
  own_open : OwnItem
  own_close : OwnItem
  own_phase : ℕ → Bool → List Op → OwnItem

abbrev pub own_item : (Actor → Bool) → Item → List OwnItem
own_item is_theirs (item.Opens number who) = if is_theirs who then own_open ∷ [] else []
own_item is_theirs (item.Closes number who) = if is_theirs who then own_close ∷ [] else []
own_item is_theirs (item.Phase lines) =
    own_phase (played_in lines) (unplugs lines) (ops_by is_theirs lines) ∷ []

abbrev pub own_items : (Actor → Bool) → List Item → List OwnItem
own_items is_theirs [] = []
own_items is_theirs (item ∷ items) = own_item is_theirs item ++ own_items is_theirs items

-- what an actor is by its line and file: the ring, its lines in the phase of a number, what it is when it is opened, if it can be, and when
-- it has ended, and whether it is open and whether it was stopped
pub record Given (S : Type 0) : Type 0 where
  pub ring : Geometry
  pub kind : ℕ → Kind S
  pub opened : S → Option S
  pub ended : S → S
  pub is_open : S → Bool
  pub is_stopped : S → Bool

-- an actor between two items: how many phases are done, the card's position and whether it is gone, the actor, and its rows
pub record Alone (S : Type 0) : Type 0 where
  pub phases : ℕ
  pub position : ℕ
  pub gone : Bool
  pub actor : AtPort × S
  pub rows : List Row

-- with a row of its own, by what the actor is after it
abbrev pub with_own : {S : Type 0} → Given S → Op → AtPort × S → Answer → Alone S → Alone S
with_own given asked actor answer alone =
    record alone {
      actor = actor;
      rows = alone.rows ++ (given.kind alone.phases).row asked actor.1 answer ∷ [];
    }

-- an actor that isn't open is opened, with the answer of its opening
abbrev pub open_by : {S : Type 0} → Given S → Alone S → Bool → Option S → Answer → Alone S
open_by given alone true opened answer = with_own given op.Opens alone.actor (Failed BadState) alone
open_by given alone false (Some s) Done =
    with_own given op.Opens (renewed_port given.ring alone.actor.0, s) Done alone
open_by given alone false opened answer = with_own given op.Opens alone.actor answer alone

abbrev pub open_alone : {S : Type 0} → Given S → Alone S → Answer → Alone S
open_alone given alone answer =
    open_by given alone (given.is_open alone.actor.1) (given.opened alone.actor.1) answer

-- an actor that ends
abbrev pub ended_actor : {S : Type 0} → Given S → AtPort × S → AtPort × S
ended_actor given (a, s) = (renewed_port given.ring a, given.ended s)

-- an actor that is open is closed
abbrev pub close_by : {S : Type 0} → Given S → Alone S → Bool → Alone S
close_by given alone false = with_own given op.Closes alone.actor (Failed BadState) alone
close_by given alone true = record alone {
  actor = ended_actor given alone.actor;
  rows =
      alone.rows
      ++ record ((given.kind alone.phases).row op.Closes alone.actor.1 Done) { state = state.Open }
      ∷ [];
}

abbrev pub close_alone : {S : Type 0} → Given S → Alone S → Alone S
close_alone given alone = close_by given alone (given.is_open alone.actor.1)

-- an actor that was stopped ends with the phase
abbrev pub reaped_by : {S : Type 0} → Given S → Bool → AtPort × S → AtPort × S
reaped_by given true actor = ended_actor given actor
reaped_by given false actor = actor

abbrev pub phase_alone : {S : Type 0} → Given S → Alone S → ℕ → Bool → List Op → Alone S
phase_alone given alone frames pulled ops =
    let card : CardEnd = record { ring = given.ring; position = alone.position + frames; gone = alone.gone } in
    let done = lines_text (given.kind (alone.phases + 1)) card alone.actor ops in record {
      phases = alone.phases + 1;
      position = alone.position + frames;
      gone = alone.gone || pulled;
      actor = reaped_by given (given.is_stopped done.0.1) done.0;
      rows = alone.rows ++ done.1;
    }

-- an actor by itself, with the answers of its own opens that are still to come
abbrev pub alone_by : {S : Type 0} → Given S → Alone S → List OwnItem → List Answer → Alone S
alone_by given alone [] answers = alone
alone_by given alone (own_open ∷ items) [] = alone
alone_by given alone (own_open ∷ items) (answer ∷ answers) =
    alone_by given (open_alone given alone answer) items answers
alone_by given alone (own_close ∷ items) answers =
    alone_by given (close_alone given alone) items answers
alone_by given alone (own_phase frames pulled ops ∷ items) answers =
    alone_by given (phase_alone given alone frames pulled ops) items answers

-- an actor by itself before the first item
abbrev pub alone_at : {S : Type 0} → ℕ → AtPort × S → Alone S
alone_at first actor =
    record { phases = 0; position = first; gone = false; actor = actor; rows = [] }

-- a client of a number, by its setup and its file
abbrev pub given_client : Geometry → ℕ → Option Setup → Sound → Given Client
given_client ring number setup wav = record {
  ring = ring;
  kind = λ phase. client_kind phase wav number;
  opened =
      λ client. option_map
      (λ (s : Setup).
      let opened : Client = record client { own = Some (opened_client ring number s) } in opened)
      setup;
  ended = λ client. record { own = None; ended = segments_of client };
  is_open = λ client. is_some client.own;
  is_stopped = λ client. is_stopped client.own;
}

-- a reader of a number, by its setup
abbrev pub given_reader : Geometry → ℕ → Option Setup → Given Reader
given_reader ring number setup = record {
  ring = ring;
  kind = λ phase. reader_kind phase number;
  opened =
      λ reader. option_map
      (λ (s : Setup). let opened : Reader = record reader { own = Some (opened_reader ring s) }
      in opened) setup;
  ended = λ reader. record reader { own = None };
  is_open = λ reader. is_some reader.own;
  is_stopped = λ reader. is_reader_stopped reader.own;
}

-- the rows and the segments of a client by itself, and the rows and the runs of a reader by itself
abbrev pub client_alone : Geometry → ℕ → Option Setup → Sound → ℕ → List OwnItem
    → List Answer → List Row × List Segment
client_alone ring number setup wav first items answers =
    let end = alone_by (given_client ring number setup wav) (alone_at first (no_client ring)) items answers in
    (end.rows, segments_of end.actor.1)

abbrev pub reader_alone : Geometry → ℕ → Option Setup → ℕ → List OwnItem → List Answer
    → List Row × List (ℕ × ℕ)
reader_alone ring number setup first items answers =
    let end = alone_by (given_reader ring number setup) (alone_at first (no_reader ring)) items answers in
    (end.rows, runs_of end.actor.1.frames)

-- the rows of an actor in a report, the answers of its opens among them, and its segments or runs
abbrev pub rows_by : (Actor → Bool) → List Row → List Row
rows_by is_theirs rows = filter (λ (row : Row). is_theirs row.actor) rows

abbrev pub is_opening : Op → Bool
is_opening op.Opens = true
is_opening other = false

abbrev pub answers_of : List Row → List Answer
answers_of rows = map (λ (row : Row). row.answer) (filter (λ (row : Row). is_opening row.op) rows)

abbrev pub segments_by : ℕ → List (ℕ × Segment) → List Segment
segments_by number segments =
    map (λ (pair : ℕ × Segment). pair.1)
    (filter (λ (pair : ℕ × Segment). nat_eq pair.0 number) segments)

abbrev pub runs_by : ℕ → List (ℕ × ℕ × ℕ) → List (ℕ × ℕ)
runs_by number runs =
    map (λ (run : ℕ × ℕ × ℕ). (run.1, run.2))
    (filter (λ (run : ℕ × ℕ × ℕ). nat_eq run.0 number) runs)

-- no line of a phase opens an actor, as in every script
abbrev pub NoneOpen : List Op → Type 0
NoneOpen [] = ⊤
NoneOpen (asked ∷ more) = (is_opening asked ≡ false) × NoneOpen more

abbrev pub HasLines : (Actor → Bool) → Item → Type 0
HasLines is_theirs (item.Opens number who) = ⊤
HasLines is_theirs (item.Closes number who) = ⊤
HasLines is_theirs (item.Phase lines) = NoneOpen (ops_by is_theirs lines)

abbrev pub HaveLines : (Actor → Bool) → List Item → Type 0
HaveLines is_theirs [] = ⊤
HaveLines is_theirs (item ∷ items) = HasLines is_theirs item × HaveLines is_theirs items

-- what a client of a session, and a reader, does by itself
abbrev pub client_part : Session → List Item → ℕ → List Answer → List Row × List Segment
client_part session body number answers =
    client_alone session.ring number (slice_index_or session.clients number None)
    (slice_index_or session.sounds number no_sound)
    (first_frame session.card) (own_items (is_client number) body) answers

abbrev pub reader_part : Session → List Item → ℕ → List Answer → List Row × List (ℕ × ℕ)
reader_part session body number answers =
    reader_alone session.ring number (slice_index_or session.readers number None)
    (first_frame session.card)
    (own_items (is_reader number) body) answers

-- in a report a client has the rows and segments that it has by itself, with the answers of its opens there
pub record IsClientAlone (session : Session) (body : List Item) (report : Report)
    (number : ℕ) : Type 0 where
  pub rows : rows_by (is_client number) report.rows
      ≡ (client_part session body number (answers_of (rows_by (is_client number) report.rows))).0
  pub segments : segments_by number report.segments
      ≡ (client_part session body number (answers_of (rows_by (is_client number) report.rows))).1

-- and a reader the rows and runs
pub record IsReaderAlone (session : Session) (body : List Item) (report : Report)
    (number : ℕ) : Type 0 where
  pub rows : rows_by (is_reader number) report.rows
      ≡ (reader_part session body number (answers_of (rows_by (is_reader number) report.rows))).0
  pub runs : runs_by number report.runs
      ≡ (reader_part session body number (answers_of (rows_by (is_reader number) report.rows))).1

-- where no phase leaves a choice, each actor that no line of a phase opens is in the report as it is by itself
pub record AreAlone (session : Session) (capture : Option Sound) (body : List Item) : Type 0 where
  pub clients : (number : ℕ) → number < length session.clients → HaveLines (is_client number) body
      → IsClientAlone session body (lab_text session capture body).report number
  pub readers : (number : ℕ) → number < length session.readers → HaveLines (is_reader number) body
      → IsReaderAlone session body (lab_text session capture body).report number
