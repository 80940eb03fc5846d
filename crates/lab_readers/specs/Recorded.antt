-- What a reader recorded: its samples are those of the capture file at the frames that it read, through its bindings.
use Rattle.std.specs.Prelude.{◌≡◌, ℕ, ◌-◌, ◌<◌, true, ℤ, List, [], ◌∷◌, ◌++◌, map, length, All, Contains, Option, Some, None}
use Rattle.std.specs.List.{flat_map, slice_index_or}
use Rattle.std.proofs.Common.{refl, sym, ap, ◌∙◌}
use Rattle.snd_base.specs.declared.geometry.Geometry.{Geometry}
use Rattle.snd_base.specs.Places.{first_frame}
use Rattle.snoop_core.specs.declared.port.Frame.{Frame}
use Rattle.snoop_table.specs.declared.seats.reader.ReaderSeat.{ReaderSeat}
use Rattle.snoop_table.specs.Readers.{view_of}
use Rattle.snoop_table.specs.Writers.{writer_track}
use Rattle.dsnoop_client.specs.Reads.{through_all}
use Rattle.wav_io.specs.Sound.{Sound}
use Rattle.card_sim.specs.declared.card.Card.{Card}
use Rattle.card_sim.specs.Runs.{records_of, writer_of}
use Rattle.lab_lines.specs.Script as scripts
use Rattle.lab_run.specs.LabRun.{bindings_of, captured_sample, recorded_by}
use Rattle.lab_run.specs.Stage.{Session}
use Rattle.lab_readers.specs.declared.lines.ReaderActor.{ReaderActor}
use Rattle.lab_readers.specs.FrameRuns.{frames_of_runs}
use Rattle.lab_card.specs.Captures.{captured_at, captured_frames}
use Rattle.lab_card.specs.Moves.{frames_since_first, geometry_of_card}
use Rattle.lab_readers.specs.declared.reader.LabReader.{LabReader}
use Rattle.lab_readers.specs.OneReader.{OnSeat, reader_in}

-- the captured sample of a frame, of a card with this first frame, and of a channel of the card
abbrev pub captured_from : Option Sound → ℕ → ℕ → ℕ → ℤ
captured_from capture first frame channel = captured_at capture (frame - first) channel

-- frames through bindings, interleaved
abbrev pub recorded_samples : Option Sound → ℕ → List ℕ → List ℕ → List ℤ
recorded_samples capture first bindings frames =
    flat_map (λ frame. map (captured_from capture first frame) bindings) frames

-- the frames that a reader's seat got, where it is open
abbrev pub got_at : Option ReaderSeat → List Frame
got_at None = []
got_at (Some seat) = (view_of seat).got

-- Each frame that a reader read is one that its seat got: first those of its openings that ended, which are among those that ended seats got, and
-- then those of the opening in which it is, before which it had read so many samples. They are all frames of its runs, and its samples are theirs,
-- through bindings.
pub record HasGotFrames (bindings : List ℕ) (ended_got : List Frame) (read_before : ℕ)
    (actor : ReaderActor) (seat : Option ReaderSeat) : Type 0 where
  pub ended : List Frame
  pub got_before : All (Contains ended_got) ended
  pub read_count : OnSeat seat (λ at. length (through_all bindings ended) ≡ read_before)
  pub frames : List Frame
  pub got_since : All (Contains (got_at seat)) frames
  pub numbers : frames_of_runs actor.frames.runs
      ≡ map (λ (frame : Frame). frame.number) (ended ++ frames)
  pub samples : actor.samples.items ≡ through_all bindings (ended ++ frames)

-- A reader's samples are the captured ones of its frames, through bindings that each go to a channel of the card; where it is open, these are its
-- stream's. Each of its frames is one that its seat got.
pub record IsRecordedAt (capture : Option Sound) (geometry : Geometry) (bindings : List ℕ)
    (ended_got : List Frame) (read_before : ℕ) (actor : ReaderActor) (seat : Option ReaderSeat)
    : Type 0 where
  pub on_card : All (λ channel. channel < geometry.channels) bindings
  pub bound : OnSeat seat (λ at. actor.reader.setup.bindings ≡ bindings)
  pub got : HasGotFrames bindings ended_got read_before actor seat
  pub samples : actor.samples.items
      ≡ recorded_samples capture (first_frame geometry) bindings (frames_of_runs actor.frames.runs)

abbrev pub IsRecorded : Option Sound → Geometry → List ℕ → List Frame → LabReader → Type 0
IsRecorded capture geometry bindings ended_got r =
    IsRecordedAt capture geometry bindings ended_got r.read_before r.actor r.seat

-- all that a card stored in its snoop ring, where it stores there, is what the capture file has of its frames so far
abbrev pub IsCapturedUpTo : Option Sound → Card → Type 0
IsCapturedUpTo capture c =
    records_of c ≡ true
    → (writer_track (writer_of c)).stored
    ≡ captured_frames capture (geometry_of_card c).channels 0 (frames_since_first c)

-- ---- as a run has it

captured-from : (session : Session) (capture : Option Sound) (frame channel : ℕ)
    → captured_sample session capture frame channel ≡ captured_from capture (scripts.first_frame session.card) frame channel
captured-from session None frame channel = refl
captured-from session (Some wav) frame channel = refl

map-same : {X Y : Type 0} (f g : X → Y) (xs : List X) → ((x : X) → f x ≡ g x) → map f xs ≡ map g xs
map-same f g [] same = refl
map-same f g (x ∷ xs) same = ap (λ y. y ∷ map f xs) (same x) ∙ ap (λ ys. g x ∷ ys) (map-same f g xs same)

flat_map-same : {X Y : Type 0} (f g : X → List Y) (xs : List X) → ((x : X) → f x ≡ g x) → flat_map f xs ≡ flat_map g xs
flat_map-same f g [] same = refl
flat_map-same f g (x ∷ xs) same = ap (λ ys. ys ++ flat_map f xs) (same x) ∙ ap (λ ys. g x ++ ys) (flat_map-same f g xs same)

-- what a reader recorded is what a run of the script has it record
pub recorded-by : (session : Session) (capture : Option Sound) (number : ℕ) (geometry : Geometry) (ended_got : List Frame) (r : LabReader)
    → scripts.first_frame session.card ≡ first_frame geometry → IsRecorded capture geometry (bindings_of (slice_index_or session.readers number None)) ended_got r
    → r.actor.samples.items ≡ recorded_by session capture number (reader_in r)
recorded-by session capture number geometry ended_got r first is =
    let bindings = bindings_of (slice_index_or session.readers number None) in
    is.samples
    ∙ sym (flat_map-same (λ frame. map (captured_sample session capture frame) bindings) (λ frame. map (captured_from capture (first_frame geometry) frame) bindings) (frames_of_runs r.actor.frames.runs)
    (λ frame. map-same (captured_sample session capture frame) (captured_from capture (first_frame geometry) frame) bindings
    (λ channel. captured-from session capture frame channel ∙ ap (λ (n : ℕ). captured_from capture n frame channel) first)))
