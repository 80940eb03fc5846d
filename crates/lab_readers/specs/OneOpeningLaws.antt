-- A new reader, one that is opened or closed, and one whose rows are taken: what each is in a run, and at its port.
use Rattle.std.specs.Prelude.{◌≡◌, ℕ, ◌<◌, ◌++◌, List, [], length, map, All, Contains, Option, Some, None, slice_index_or}
use Rattle.std.proofs.Common.{refl, sym, ap, subst, ◌∙◌, append-nil, arith}
use Rattle.std.proofs.lemmas.List.Elements.{All-append, All-contains, All-contains_itself}
use Rattle.atomic_table.specs.Seated.{TableId}
use Rattle.snd_base.specs.declared.geometry.Geometry.{Geometry}
use Rattle.snd_base.specs.Places.{first_frame}
use Rattle.snoop_core.specs.declared.port.Frame.{Frame}
use Rattle.snoop_table.specs.declared.seats.reader.ReaderSeat.{ReaderSeat}
use Rattle.snoop_table.specs.Readers.{geometry_of, ring_of, seat_view, view_of}
use Rattle.dsnoop_client.specs.declared.stream.CaptureStream.{CaptureStream}
use Rattle.dsnoop_client.specs.Reads.{through_all}
use Rattle.dsnoop_client.specs.View.{CanUse}
use Rattle.wav_io.specs.Sound.{Sound}
use Rattle.card_sim.specs.declared.card.Card.{Card}
use Rattle.lab_lines.specs.declared.line.Line.{Line}
use Rattle.lab_run.specs.Phases.{is_reader, ops_by, played_in}
use Rattle.lab_run.specs.Rules.{AtPort}
use Rattle.lab_run.specs.Stage.{Setup, new_port, opened_reader}
use Rattle.lab_readers.specs.declared.lines.ReaderActor.{ReaderActor}
use Rattle.lab_readers.specs.FrameRuns.{frames_of_runs}
use Rattle.lab_readers.specs.Parts.{HasRoomFor}
use Rattle.lab_card.specs.Meets.{IsInformedReader}
use Rattle.lab_readers.specs.declared.reader.LabReader.{LabReader}
use Rattle.lab_readers.specs.OneReader.{HasRoom, HasRoomAt, IsAt, IsOpenAt, IsSeatedAt, OnSeat, OnSeats, ops_of, reader_in_run, reader_in, stream_at}
use Rattle.lab_readers.specs.Recorded.{HasGotFrames, IsRecorded, got_at, recorded_samples}
use Rattle.lab_readers.specs.OneOpening.{HasClosed, HasOpened, IsNeverOpen}
use Rattle.lab_readers.specs.OpenReader.{HasSameFile, IsReaderInformed, IsSameBut}

-- ---- a new one

pub reader_in-new : (number : ℕ) (r : LabReader) → IsNeverOpen number r → reader_in r ≡ record { own = None; frames = [] }
reader_in-new number r new =
    ap (λ (seat : Option ReaderSeat). reader_in_run seat r.actor) new.closed
    ∙ ap (λ (runs : List (ℕ × ℕ)). record { own = None; frames = frames_of_runs runs }) new.frames

pub IsAt-new : (ring : TableId) (geometry : Geometry) (number k asks : ℕ) (r : LabReader) → IsNeverOpen number r → IsAt ring geometry r (new_port geometry k asks)
IsAt-new ring geometry number k asks r new = subst (λ (seat : Option ReaderSeat). IsSeatedAt ring geometry r.actor seat (new_port geometry k asks)) (sym new.closed) refl

pub IsRecorded-new : (capture : Option Sound) (geometry : Geometry) (bindings : List ℕ) (ended_got : List Frame) (number : ℕ) (r : LabReader) → All (λ channel. channel < geometry.channels) bindings
    → IsNeverOpen number r → IsRecorded capture geometry bindings ended_got r
IsRecorded-new capture geometry bindings ended_got number r on_card new = record {
  on_card = on_card;
  bound = subst (λ (seat : Option ReaderSeat). OnSeat seat (λ at. r.actor.reader.setup.bindings ≡ bindings)) (sym new.closed) tt;
  got = subst (HasGotFrames bindings ended_got r.read_before r.actor) (sym new.closed) (record {
    ended = [];
    got_before = λ k d inside. absurd (omega (arith, inside));
    read_count = tt;
    frames = [];
    got_since = λ k d inside. absurd (omega (arith, inside));
    numbers = ap frames_of_runs new.frames;
    samples = new.samples;
  });
  samples = new.samples ∙ ap (λ (runs : List (ℕ × ℕ)). recorded_samples capture (first_frame geometry) bindings (frames_of_runs runs)) (sym new.frames);
}

-- ---- what its seats got

-- the frames of its present opening are those of one that ended, where no seat is left or a new one
HasGotFrames-ended : (bindings : List ℕ) (ended_got more : List Frame) (before after : ℕ) (x y : ReaderActor) (p q : Option ReaderSeat) → HasSameFile x y → All (Contains more) ended_got
    → All (Contains more) (got_at p) → (has : HasGotFrames bindings ended_got before x p) → OnSeat q (λ at. length (through_all bindings (has.ended ++ has.frames)) ≡ after)
    → HasGotFrames bindings more after y q
HasGotFrames-ended bindings ended_got more before after x y p q file kept joined has count =
    let all : List Frame = has.ended ++ has.frames in
    record {
      ended = all;
      got_before = All-append (Contains more) has.ended has.frames
          (λ k d inside. All-contains (Contains more) ended_got (slice_index_or has.ended k d) kept (has.got_before k d inside))
          (λ k d inside. All-contains (Contains more) (got_at p) (slice_index_or has.frames k d) joined (has.got_since k d inside));
      read_count = count;
      frames = [];
      got_since = λ k d inside. absurd (omega (arith, inside));
      numbers = ap frames_of_runs file.frames ∙ (has.numbers ∙ ap (map (λ (frame : Frame). frame.number)) (sym (append-nil all)));
      samples = file.samples ∙ (has.samples ∙ ap (through_all bindings) (sym (append-nil all)));
    }

-- what a reader recorded, where ended seats got more
pub IsRecorded-more : (capture : Option Sound) (geometry : Geometry) (bindings : List ℕ) (ended_got more : List Frame) (r : LabReader) → All (Contains more) ended_got
    → IsRecorded capture geometry bindings ended_got r → IsRecorded capture geometry bindings more r
IsRecorded-more capture geometry bindings ended_got more r kept is = record {
  on_card = is.on_card;
  bound = is.bound;
  got = record {
    ended = is.got.ended;
    got_before = λ k d inside. All-contains (Contains more) ended_got (slice_index_or is.got.ended k d) kept (is.got.got_before k d inside);
    read_count = is.got.read_count;
    frames = is.got.frames;
    got_since = is.got.got_since;
    numbers = is.got.numbers;
    samples = is.got.samples;
  };
  samples = is.samples;
}

-- ---- opened

pub reader_in-opened : (seat : ReaderSeat) (setup : Setup) (r s : LabReader) → HasOpened seat setup r s
    → reader_in s ≡ record (reader_in r) { own = Some (opened_reader (geometry_of seat) setup) }
reader_in-opened seat setup r s opened =
    ap (λ (at : Option ReaderSeat). reader_in_run at s.actor) opened.seat_is
    ∙ (ap (λ (stream : CaptureStream). record { own = Some stream; frames = frames_of_runs s.actor.frames.runs }) opened.stream
    ∙ ap (λ (runs : List (ℕ × ℕ)). record { own = Some (opened_reader (geometry_of seat) setup); frames = frames_of_runs runs }) opened.file.frames)

-- it is at a new port, whichever position its seat has seen
pub IsAt-opened : (ring : TableId) (geometry : Geometry) (k asks : ℕ) (seat : ReaderSeat) (setup : Setup) (r s : LabReader) → ring_of seat ≡ ring → geometry_of seat ≡ geometry
    → HasOpened seat setup r s → IsAt ring geometry s (new_port geometry k asks)
IsAt-opened ring geometry k asks seat setup r s of_ring of_geometry opened =
    let usable : CanUse (opened_reader (geometry_of seat) setup) (seat_view seat) = record { same_geometry = refl; newer = omega arith } in
    let is : IsOpenAt ring geometry s.actor seat (new_port geometry k asks) =
    record {
      of_ring = of_ring;
      of_geometry = of_geometry;
      usable = subst (λ (stream : CaptureStream). CanUse stream (seat_view seat)) (sym opened.stream) usable;
      seen = omega arith;
      left = sym opened.left;
    } in
    subst (λ (at : Option ReaderSeat). IsSeatedAt ring geometry s.actor at (new_port geometry k asks)) (sym opened.seat_is) is

pub IsRecorded-opened : (capture : Option Sound) (geometry : Geometry) (bindings : List ℕ) (ended_got : List Frame) (seat : ReaderSeat) (setup : Setup) (r s : LabReader)
    → setup.bindings ≡ bindings → HasOpened seat setup r s → IsRecorded capture geometry bindings ended_got r → IsRecorded capture geometry bindings ended_got s
IsRecorded-opened capture geometry bindings ended_got seat setup r s bound opened is =
    let stream : s.actor.reader.setup.bindings ≡ bindings = ap (λ (stream : CaptureStream). stream.setup.bindings) opened.stream ∙ bound in
    let none : All (Contains ended_got) (got_at r.seat) =
    subst (λ (at : Option ReaderSeat). All (Contains ended_got) (got_at at)) (sym opened.seat_was) (λ k d inside. absurd (omega (arith, inside))) in
    record {
      on_card = is.on_card;
      bound = subst (λ (at : Option ReaderSeat). OnSeat at (λ now. s.actor.reader.setup.bindings ≡ bindings)) (sym opened.seat_is) stream;
      got = subst (HasGotFrames bindings ended_got s.read_before s.actor) (sym opened.seat_is)
          (HasGotFrames-ended bindings ended_got ended_got r.read_before s.read_before r.actor s.actor r.seat (Some seat) opened.file (All-contains_itself ended_got) none is.got
          (ap length (sym is.got.samples) ∙ sym opened.read_before));
      samples = opened.file.samples ∙ (is.samples ∙ ap (λ (runs : List (ℕ × ℕ)). recorded_samples capture (first_frame geometry) bindings (frames_of_runs runs)) (sym opened.file.frames));
    }

-- ---- closed

pub reader_in-closed : (seat : ReaderSeat) (r s : LabReader) → HasClosed seat r s → reader_in s ≡ record (reader_in r) { own = None }
reader_in-closed seat r s closed =
    ap (λ (at : Option ReaderSeat). reader_in_run at s.actor) closed.seat_is
    ∙ ap (λ (x : ReaderActor). record { own = None; frames = frames_of_runs x.frames.runs }) closed.actor

pub IsAt-closed : (ring : TableId) (geometry : Geometry) (k asks : ℕ) (seat : ReaderSeat) (r s : LabReader) → HasClosed seat r s → IsAt ring geometry s (new_port geometry k asks)
IsAt-closed ring geometry k asks seat r s closed = subst (λ (at : Option ReaderSeat). IsSeatedAt ring geometry s.actor at (new_port geometry k asks)) (sym closed.seat_is) refl

-- its seat's frames are among those that ended seats got then
pub IsRecorded-closed : (capture : Option Sound) (geometry : Geometry) (bindings : List ℕ) (ended_got more : List Frame) (seat : ReaderSeat) (r s : LabReader) → HasClosed seat r s
    → All (Contains more) ended_got → All (Contains more) (view_of seat).got → IsRecorded capture geometry bindings ended_got r → IsRecorded capture geometry bindings more s
IsRecorded-closed capture geometry bindings ended_got more seat r s closed kept joined is = record {
  on_card = is.on_card;
  bound = subst (λ (at : Option ReaderSeat). OnSeat at (λ now. s.actor.reader.setup.bindings ≡ bindings)) (sym closed.seat_is) tt;
  got = subst (HasGotFrames bindings more s.read_before s.actor) (sym closed.seat_is)
      (HasGotFrames-ended bindings ended_got more r.read_before s.read_before r.actor s.actor r.seat None
      (record {
        number = ap (λ (x : ReaderActor). x.number) closed.actor;
        frames = ap (λ (x : ReaderActor). x.frames.runs) closed.actor;
        samples = ap (λ (x : ReaderActor). x.samples.items) closed.actor;
      }) kept (subst (λ (at : Option ReaderSeat). All (Contains more) (got_at at)) (sym closed.seat_was) joined) is.got tt);
  samples = subst (λ (x : ReaderActor). x.samples.items ≡ recorded_samples capture (first_frame geometry) bindings (frames_of_runs x.frames.runs)) (sym closed.actor) is.samples;
}

-- ---- one that met a note

-- it has the room that it had
pub HasRoom-informed : (card : Card) (r s : LabReader) (lines : List Line) → IsReaderInformed card r s → HasRoom lines r → HasRoom lines s
HasRoom-informed card r s lines informed room =
    subst (λ (x : ReaderActor). HasRoomAt s.seat x played (ops_by (is_reader x.number) lines)) (sym informed.actor) (by_seats r.seat s.seat informed.seats room)
  where
    played : ℕ
    played = played_in lines

    by_seats : (p q : Option ReaderSeat) → OnSeats p q (IsInformedReader card) → HasRoomAt p r.actor played (ops_of r lines) → HasRoomAt q r.actor played (ops_of r lines)
    by_seats None None on has = has
    by_seats (Some seat) (Some later) on has = subst (λ (g : Geometry). HasRoomFor r.actor g.frames played (ops_of r lines)) (sym on.geometry) has
    by_seats None (Some later) on has = absurd on
    by_seats (Some seat) None on has = absurd on

-- ---- as before but for its rows

pub reader_in-same : (r s : LabReader) → IsSameBut r s → reader_in s ≡ reader_in r
reader_in-same r s same =
    ap (λ (seat : Option ReaderSeat). reader_in_run seat s.actor) same.seat
    ∙ (ap (λ (own : Option CaptureStream). record { own = own; frames = frames_of_runs s.actor.frames.runs }) (by_seat r.seat)
    ∙ ap (λ (runs : List (ℕ × ℕ)). record { own = stream_at r.seat r.actor; frames = frames_of_runs runs }) same.file.frames)
  where
    by_seat : (seat : Option ReaderSeat) → stream_at seat s.actor ≡ stream_at seat r.actor
    by_seat None = refl
    by_seat (Some at) = ap Some same.stream

pub IsAt-same : (ring : TableId) (geometry : Geometry) (r s : LabReader) (a : AtPort) → IsSameBut r s → IsAt ring geometry r a → IsAt ring geometry s a
IsAt-same ring geometry r s a same at =
    subst (λ (seat : Option ReaderSeat). IsSeatedAt ring geometry s.actor seat a) (sym same.seat) (by_seat r.seat at)
  where
    by_seat : (seat : Option ReaderSeat) → IsSeatedAt ring geometry r.actor seat a → IsSeatedAt ring geometry s.actor seat a
    by_seat None is = is
    by_seat (Some seat) is = record {
      of_ring = is.of_ring;
      of_geometry = is.of_geometry;
      usable = subst (λ (stream : CaptureStream). CanUse stream (seat_view seat)) (sym same.stream) is.usable;
      seen = is.seen;
      left = is.left ∙ sym same.left;
    }

pub IsRecorded-same : (capture : Option Sound) (geometry : Geometry) (bindings : List ℕ) (ended_got : List Frame) (r s : LabReader) → IsSameBut r s
    → IsRecorded capture geometry bindings ended_got r → IsRecorded capture geometry bindings ended_got s
IsRecorded-same capture geometry bindings ended_got r s same is = record {
  on_card = is.on_card;
  bound = subst (λ (seat : Option ReaderSeat). OnSeat seat (λ at. s.actor.reader.setup.bindings ≡ bindings)) (sym same.seat) (by_seat r.seat is.bound);
  got = subst (HasGotFrames bindings ended_got s.read_before s.actor) (sym same.seat) (record {
    ended = is.got.ended;
    got_before = is.got.got_before;
    read_count = count_by r.seat is.got.read_count;
    frames = is.got.frames;
    got_since = is.got.got_since;
    numbers = ap frames_of_runs same.file.frames ∙ is.got.numbers;
    samples = same.file.samples ∙ is.got.samples;
  });
  samples = same.file.samples ∙ (is.samples ∙ ap (λ (runs : List (ℕ × ℕ)). recorded_samples capture (first_frame geometry) bindings (frames_of_runs runs)) (sym same.file.frames));
}
  where
    by_seat : (seat : Option ReaderSeat) → OnSeat seat (λ at. r.actor.reader.setup.bindings ≡ bindings) → OnSeat seat (λ at. s.actor.reader.setup.bindings ≡ bindings)
    by_seat None bound = tt
    by_seat (Some at) bound = ap (λ (stream : CaptureStream). stream.setup.bindings) same.stream ∙ bound

    count_by : (seat : Option ReaderSeat) → OnSeat seat (λ at. length (through_all bindings is.got.ended) ≡ r.read_before)
        → OnSeat seat (λ at. length (through_all bindings is.got.ended) ≡ s.read_before)
    count_by None count = tt
    count_by (Some at) count = count ∙ sym same.read_before
