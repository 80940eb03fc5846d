-- The runs of a script: which reports, played samples and readers' samples it may have, and the ones that it has where no phase leaves
-- a choice.
use Rattle.std.specs.Prelude.{◌≡◌, ℕ, ◌+◌, ◌-◌, ◌*◌, ◌/◌, ◌%◌, ◌≤◌, ℤ, pos, nat_lt, nat_eq, if◌then◌else◌, List, [], ◌∷◌, ◌++◌, map, slice_get, slice_index_or, Option, Some, None, ⊤}
use Rattle.std.specs.List.{flat_map, range_with_len}
use Rattle.snd_base.specs.declared.places.Segment.{Segment}
use Rattle.lap_word.specs.Clamp.{clamp_of}
use Rattle.mix_core.specs.Laid.{total}
use Rattle.mix_core.specs.declared.port.Entry.{Entry}
use Rattle.wav_io.specs.Sound.{Sound}
use Rattle.dmix_client.specs.Expansion.{expand, sample_at}
use Rattle.lab_lines.specs.declared.line.Item.{Item}
use Rattle.lab_lines.specs.Script.{first_frame}
use Rattle.lab_lines.specs.declared.report.Report.{Report}
use Rattle.lab_lines.specs.declared.row.Row.{Row}
use Rattle.lab_run.specs.Client.{Client, segments_of}
use Rattle.lab_run.specs.Items.{ItemsMay, items_text}
use Rattle.lab_run.specs.Phases.{AreUnmixed}
use Rattle.lab_run.specs.Reader.{Reader}
use Rattle.lab_run.specs.Rules.{AtPort}
use Rattle.lab_run.specs.Stage.{Session, Setup, Stage, first_stage}

-- what each member of a list has, with the member's number; the first of them has a number
abbrev pub with_numbers : {X Y : Type 0} → (X → List Y) → ℕ → List X → List (ℕ × Y)
with_numbers of number [] = []
with_numbers of number (x ∷ xs) = map (λ y. (number, y)) (of x) ++ with_numbers of (number + 1) xs

-- the runs of a list of frames: a run goes on as long as the next frame is the next number
abbrev pub joined_runs : ℕ → List (ℕ × ℕ) → List (ℕ × ℕ)
joined_runs frame [] = (frame, 1) ∷ []
joined_runs frame ((first, count) ∷ runs) =
    if nat_eq (frame + 1) first then (frame, count + 1) ∷ runs
    else (frame, 1) ∷ (first, count) ∷ runs

abbrev pub runs_of : List ℕ → List (ℕ × ℕ)
runs_of [] = []
runs_of (frame ∷ frames) = joined_runs frame (runs_of frames)

-- the segments of all clients, by client and then by time
abbrev pub all_segments : List (AtPort × Client) → List (ℕ × Segment)
all_segments clients = with_numbers (λ (client : AtPort × Client). segments_of client.1) 0 clients

-- the runs of all readers, by reader and then by time
abbrev pub all_runs : List (AtPort × Reader) → List (ℕ × ℕ × ℕ)
all_runs readers =
    map (λ (run : ℕ × (ℕ × ℕ)). (run.0, run.1.0, run.1.1))
    (with_numbers (λ (reader : AtPort × Reader). runs_of reader.1.frames) 0 readers)

-- the report of a run that ends at a stage
abbrev pub report_of : Session → Stage → Report
report_of session stage = record {
  rows = stage.rows;
  segments = all_segments stage.clients;
  runs = all_runs stage.readers;
  first = first_frame session.card;
  frames = stage.position - first_frame session.card;
}

-- what the segments of clients' files are of entries
abbrev pub entries_by : Session → ℕ × Segment → List Entry
entries_by session (client, segment) =
    of_file (slice_get session.sounds client) (slice_index_or session.clients client None)
  where
    of_file : Option Sound → Option Setup → List Entry
    of_file (Some wav) (Some setup) = expand client segment wav.samples setup.bindings
    of_file wav setup = []

abbrev pub entries_of : Session → List (ℕ × Segment) → List Entry
entries_of session segments = flat_map (entries_by session) segments

-- the played samples, interleaved: each is the saturated total of the entries at its frame and channel
abbrev pub mixed_at : ℕ → ℕ → List Entry → ℕ → ℤ
mixed_at channels first entries k = clamp_of (total entries (first + k / channels) (k % channels))

abbrev pub mix_of : Session → List (ℕ × Segment) → ℕ → List ℤ
mix_of session segments frames =
    map (mixed_at session.card.channels (first_frame session.card) (entries_of session segments))
    (range_with_len 0 (frames * session.card.channels))

-- the captured sample of a frame and channel: that of the capture file, or 0 where it has none
abbrev pub captured_sample : Session → Option Sound → ℕ → ℕ → ℤ
captured_sample session None frame channel = pos 0
captured_sample session (Some wav) frame channel =
    if nat_lt channel wav.channels
    then sample_at wav.samples wav.channels (frame - first_frame session.card) channel else pos 0

abbrev pub bindings_of : Option Setup → List ℕ
bindings_of None = []
bindings_of (Some setup) = setup.bindings

-- a reader's samples, interleaved: its frames through its bindings
abbrev pub recorded_by : Session → Option Sound → ℕ → Reader → List ℤ
recorded_by session capture number reader =
    flat_map (λ frame. map (captured_sample session capture frame)
    (bindings_of (slice_index_or session.readers number None))) reader.frames

abbrev pub recorded_from : Session → Option Sound → ℕ → List (AtPort × Reader) → List (List ℤ)
recorded_from session capture number [] = []
recorded_from session capture number (reader ∷ readers) =
    recorded_by session capture number reader.1 ∷ recorded_from session capture (number + 1) readers

-- what a run leaves: its report, the played samples, and each reader's samples
pub record Outcome : Type 0 where
  pub report : Report
  pub played : List ℤ
  pub recorded : List (List ℤ)

abbrev pub outcome_of : Session → Option Sound → Stage → Outcome
outcome_of session capture stage = record {
  report = report_of session stage;
  played = mix_of session (all_segments stage.clients) (stage.position - first_frame session.card);
  recorded = recorded_from session capture 0 stage.readers;
}

-- each actor's own gate stopped it so often at most
abbrev pub AreWithin : {S : Type 0} → (ℕ → ℕ) → ℕ → List (AtPort × S) → Type 0
AreWithin most number [] = ⊤
AreWithin most number (actor ∷ actors) =
    (actor.0.by_gate ≤ most number) × AreWithin most (number + 1) actors

-- the run of a session may leave this, where the gates of clients and readers stop them so often at most
pub record LabRun (session : Session) (capture : Option Sound) (body : List Item)
    (client_stops reader_stops : ℕ → ℕ) (outcome : Outcome) : Type 0 where
  pub end : Stage
  pub may : ItemsMay session (first_stage session) body end
  pub clients : AreWithin client_stops 0 end.clients
  pub readers : AreWithin reader_stops 0 end.readers
  pub is : outcome ≡ outcome_of session capture end

-- what it leaves where each load gives the position at its phase's end, and a frame is in time exactly where it isn't below that
abbrev pub lab_text : Session → Option Sound → List Item → Outcome
lab_text session capture body =
    outcome_of session capture (items_text session (first_stage session) body)

-- this is one of the runs, and where no phase is mixed and no actor's own gate stops it, it is the only one
pub record IsOneRun (session : Session) (capture : Option Sound) (body : List Item) : Type 0 where
  pub one : (client_stops reader_stops : ℕ → ℕ)
      → LabRun session capture body client_stops reader_stops (lab_text session capture body)
  pub only : AreUnmixed body → (outcome : Outcome)
      → LabRun session capture body (λ n. 0) (λ n. 0) outcome
      → outcome ≡ lab_text session capture body

-- a stage that the first items of a body may reach is one from which the others can go on: with the rows so far and more after them, and
-- with no more stops by an actor's own gate
pub record CanGoOn (session : Session) (done others : List Item) (stage : Stage) : Type 0 where
  pub may : ItemsMay session (first_stage session) (done ++ others)
      (items_text session stage others)
  pub more : List Row
  pub rows : (items_text session stage others).rows ≡ stage.rows ++ more
  pub clients : (most : ℕ → ℕ) → AreWithin most 0 stage.clients
      → AreWithin most 0 (items_text session stage others).clients
  pub readers : (most : ℕ → ℕ) → AreWithin most 0 stage.readers
      → AreWithin most 0 (items_text session stage others).readers
