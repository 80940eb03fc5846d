-- What a card stored is what the capture file has, and so is what a reader recorded of it, from phase to phase.
use Rattle.std.specs.Prelude.{◌≡◌, ℕ, zero, suc, ◌+◌, ◌-◌, ◌*◌, ◌<◌, Bool, true, ℤ, pos, List, [], ◌∷◌, ◌++◌, length, map, All, Contains, Option, Some, None}
use Rattle.std.specs.List.{slice_index_or}
use Rattle.std.proofs.Common.{refl, sym, ap, subst, ◌∙◌, append_assoc, arith}
use Rattle.std.proofs.lemmas.List.{get_or-append-add, get_or_append_left, map-append}
use Rattle.std.proofs.lemmas.List.Concat.{flat_map-append}
use Rattle.std.proofs.lemmas.List.Elements.{All-append, Contains-append_left, Contains-append_right}
use Rattle.std.proofs.lemmas.List.FromFn.{get_or-map-range_with_len, length-map-range_with_len}
use mathlib.Core.Option.{some}
use lib.ListN.{get_elem?}
use Rattle.atomic_table.specs.Seated.{TableId}
use Rattle.snd_base.specs.declared.geometry.Geometry.{Geometry}
use Rattle.snd_base.specs.declared.places.Cursor.{Cursor}
use Rattle.snd_base.specs.Places.{first_frame}
use Rattle.ring_rule.specs.Lists.{at_second}
use Rattle.snoop_core.specs.declared.port.Frame.{Frame}
use Rattle.snoop_core.specs.Stored.{IsCaptured, sample_at}
use Rattle.snoop_table.specs.declared.seats.reader.ReaderSeat.{ReaderSeat}
use Rattle.snoop_table.specs.declared.view.Track.{Track}
use Rattle.snoop_table.specs.declared.view.View.{View}
use Rattle.snoop_table.specs.Captured.{next_to_store}
use Rattle.snoop_table.specs.Readers.{SeatGot, view_of}
use Rattle.snoop_table.specs.Writers.{writer_geometry, writer_track, writer_view}
use Rattle.pcm_stream.specs.declared.setup.Setup as streams
use Rattle.dsnoop_client.specs.Reads.{bound_samples, through_all}
use Rattle.wav_io.specs.Sound.{Sound}
use Rattle.card_sim.specs.declared.card.Card.{Card}
use Rattle.card_sim.specs.Runs.{captured_if, records_of, writer_of}
use Rattle.lab_lines.specs.declared.line.Line.{Line}
use Rattle.lab_lines.specs.declared.line.Op.{Op}
use Rattle.lab_lines.specs.Script.{is_of_card}
use Rattle.lab_run.specs.Phases.{is_reader, ops_by, played_in}
use Rattle.lab_readers.specs.declared.lines.ReaderActor.{ReaderActor}
use Rattle.lab_readers.specs.FrameRuns.{frames_of_runs}
use Rattle.lab_card.specs.declared.card.CardActor.{CardActor}
use Rattle.lab_card.specs.Captures.{captured_at, captured_frame, captured_frames}
use Rattle.lab_card.specs.CardLines.{CardPart, frames_by}
use Rattle.lab_card.specs.Findings.{CardPhase}
use Rattle.lab_card.specs.Meets.{IsInformedReader, IsSameCard, IsSameReader, KnowsReader}
use Rattle.lab_card.specs.Moves.{frame_of_card, frames_since_first, geometry_of_card}
use Rattle.lab_card.specs.MovesLaws.{captured_frames-append, frame-least, writer-next}
use Rattle.lab_readers.specs.declared.reader.LabReader.{LabReader}
use Rattle.lab_readers.specs.OneReaderLaws.{IsOver}
use Rattle.lab_readers.specs.OneReader.{OnSeats, ops_of}
use Rattle.lab_readers.specs.OnePhase.{Steps}
use Rattle.lab_readers.specs.Recorded.{HasGotFrames, IsCapturedUpTo, IsRecorded, IsRecordedAt, captured_from, recorded_samples}
use Rattle.lab_readers.specs.OpenReader.{AllRefused, HasRunAt, HasRun}

-- ---- what the card stored

frames_since-more : (c d : Card) (n : ℕ) → geometry_of_card d ≡ geometry_of_card c → frame_of_card d ≡ frame_of_card c + n → frames_since_first d ≡ frames_since_first c + n
frames_since-more c d n same moved =
    let low = frame-least c in
    let first : first_frame (geometry_of_card d) ≡ first_frame (geometry_of_card c) = ap first_frame same in
    omega (arith, low, first, moved)

captured_frames-same : (capture : Option Sound) (g h : Geometry) (n m : ℕ) → g ≡ h → n ≡ m → captured_frames capture g.channels 0 n ≡ captured_frames capture h.channels 0 m
captured_frames-same capture g h n m same frames =
    ap (λ (x : Geometry). captured_frames capture x.channels 0 n) same ∙ ap (captured_frames capture h.channels 0) frames

-- a card that stored nothing yet
pub IsCapturedUpTo-new : (capture : Option Sound) (c : Card) → (writer_track (writer_of c)).stored ≡ [] → frame_of_card c ≡ first_frame (geometry_of_card c) → IsCapturedUpTo capture c
IsCapturedUpTo-new capture c none first =
    let zero_frames : 0 ≡ frames_since_first c = omega (arith, first) in
    λ records. none ∙ ap (captured_frames capture (geometry_of_card c).channels 0) zero_frames

-- it stays so where the card met notes
pub IsCapturedUpTo-same : (capture : Option Sound) (c d : Card) → IsSameCard c d → IsCapturedUpTo capture c → IsCapturedUpTo capture d
IsCapturedUpTo-same capture c d same is =
    let rings : geometry_of_card d ≡ geometry_of_card c = ap (λ k. k.geometry) same.player.key in
    let frame : frame_of_card d ≡ frame_of_card c = ap (λ (at : Cursor). at.frame) same.player.next in
    let since : frames_since_first c ≡ frames_since_first d =
    let more = frames_since-more c d 0 rings (omega (arith, frame)) in omega (arith, more) in
    λ records.
    ap (λ (t : Track). t.stored) same.writer.track
    ∙ (is (sym same.records ∙ records) ∙ captured_frames-same capture (geometry_of_card c) (geometry_of_card d) (frames_since_first c) (frames_since_first d) (sym rings) since)

-- over the card's lines, between meets
pub IsCapturedUpTo-part : {phase : ℕ} (capture : Option Sound) (c : Card) (a b : CardActor) (d : Card) (ops : List Op) → IsSameCard c a.card → CardPart capture phase a b ops
    → IsSameCard b.card d → IsCapturedUpTo capture c → IsCapturedUpTo capture d
IsCapturedUpTo-part capture c a b d ops met part heard before =
    let n : ℕ = frames_by ops in
    let moves = part.did.moves in
    let at : IsCapturedUpTo capture a.card = IsCapturedUpTo-same capture c a.card met before in
    let m : ℕ = frames_since_first a.card in
    let channels : ℕ = (geometry_of_card a.card).channels in
    let rings : geometry_of_card b.card ≡ geometry_of_card a.card = ap (λ k. k.geometry) moves.player.key in
    let since : m + n ≡ frames_since_first b.card = sym (frames_since-more a.card b.card n rings moves.frame) in
    let next : captured_frames capture channels (0 + m) n ≡ captured_frames capture channels m n =
    ap (λ k. captured_frames capture channels k n) (let e : 0 + m ≡ m = omega arith in e) in
    let stored : IsCapturedUpTo capture b.card =
    λ records.
    let own : records_of a.card ≡ true = sym moves.records ∙ records in
    moves.writer.stored
    ∙ (ap (λ (b : Bool). (writer_track (writer_of a.card)).stored ++ captured_if b (captured_frames capture channels m n)) own
    ∙ (ap (λ (xs : List ℤ). xs ++ captured_frames capture channels m n) (at own)
    ∙ (ap (λ (xs : List ℤ). captured_frames capture channels 0 m ++ xs) (sym next)
    ∙ (sym (captured_frames-append capture channels 0 m n)
    ∙ captured_frames-same capture (geometry_of_card a.card) (geometry_of_card b.card) (m + n) (frames_since_first b.card) (sym rings) since)))) in
    IsCapturedUpTo-same capture b.card d heard stored

-- so over a phase
pub IsCapturedUpTo-phase : {phase : ℕ} (capture : Option Sound) (c : Card) (a b : CardActor) (d : Card) (lines : List Line) → CardPhase capture phase c a b d lines → IsCapturedUpTo capture c
    → IsCapturedUpTo capture d
IsCapturedUpTo-phase capture c a b d lines is = IsCapturedUpTo-part capture c a b d (ops_by is_of_card lines) is.before is.part is.after

-- ---- what a frame's samples are

-- the sample at a frame and channel among the captured ones
pub captured_frames-get : (capture : Option Sound) (channels from n k c : ℕ) (d : ℤ) → k < n → c < channels
    → slice_index_or (captured_frames capture channels from n) (k * channels + c) d ≡ captured_at capture (from + k) c
captured_frames-get capture channels from zero k c d within channel = absurd (omega (arith, within))
captured_frames-get capture channels from (suc n) zero c d within channel =
    let here : length (captured_frame capture channels from) ≡ channels = length-map-range_with_len (captured_at capture from) 0 channels in
    ap (λ (i : ℕ). slice_index_or (captured_frames capture channels from (suc n)) i d) (let e : 0 * channels + c ≡ c = omega arith in e)
    ∙ (get_or_append_left (captured_frame capture channels from) (captured_frames capture channels (from + 1) n) d c (omega (arith, here, channel))
    ∙ (get_or-map-range_with_len (captured_at capture from) 0 channels c c d channel (omega arith)
    ∙ ap (λ (i : ℕ). captured_at capture i c) (let e : from ≡ from + 0 = omega arith in e)))
captured_frames-get capture channels from (suc n) (suc k) c d within channel =
    let here : length (captured_frame capture channels from) ≡ channels = length-map-range_with_len (captured_at capture from) 0 channels in
    let at : suc k * channels + c ≡ length (captured_frame capture channels from) + (k * channels + c) = omega (arith, here) in
    ap (λ (i : ℕ). slice_index_or (captured_frames capture channels from (suc n)) i d) at
    ∙ (get_or-append-add (captured_frame capture channels from) (captured_frames capture channels (from + 1) n) (k * channels + c) d
    ∙ (captured_frames-get capture channels (from + 1) n k c d (omega (arith, within)) channel
    ∙ ap (λ (i : ℕ). captured_at capture i c) (let e : from + 1 + k ≡ from + suc k = omega arith in e)))

map-All : {X Y : Type 0} (f g : X → Y) (P : X → Type 0) (xs : List X) → All P xs → ((x : X) → P x → f x ≡ g x) → map f xs ≡ map g xs
map-All f g P [] all same = refl
map-All f g P (x ∷ xs) all same =
    ap (λ y. y ∷ map f xs) (same x (all 0 x (omega arith)))
    ∙ ap (λ ys. g x ∷ ys) (map-All f g P xs (λ k d inside. all (suc k) d (omega (arith, inside))) same)

-- a frame that the card stored, through bindings
pub through-captured : (capture : Option Sound) (c : Card) (bindings : List ℕ) (frame : Frame) → records_of c ≡ true → IsCapturedUpTo capture c
    → IsCaptured (writer_geometry (writer_of c)) (writer_track (writer_of c)).stored frame → All (λ channel. channel < (geometry_of_card c).channels) bindings
    → bound_samples bindings frame.samples ≡ map (captured_from capture (first_frame (geometry_of_card c)) frame.number) bindings
through-captured capture c bindings frame records up_to captured_it on_card =
    let g : Geometry = geometry_of_card c in
    let xs : List ℤ = (writer_track (writer_of c)).stored in
    let same : writer_geometry (writer_of c) ≡ g = sym c.in_step.geometry in
    let is : IsCaptured g xs frame = subst (λ (h : Geometry). IsCaptured h xs frame) same captured_it in
    let next : (next_to_store g (writer_track (writer_of c))).frame ≡ frame_of_card c =
    ap (λ (h : Geometry). (next_to_store h (writer_track (writer_of c))).frame) (sym same) ∙ ap (λ (at : Cursor). at.frame) (writer-next c records) in
    let whole = is.whole in
    let least = is.least in
    let within : frame.number - first_frame g < frames_since_first c = omega (arith, whole, least, next) in
    map-All (λ channel. slice_index_or frame.samples channel (pos 0)) (captured_from capture (first_frame g) frame.number) (λ channel. channel < g.channels) bindings on_card
    (λ channel below.
    is.samples channel below
    ∙ (ap (λ (ys : List ℤ). sample_at g ys frame.number channel) (up_to records)
    ∙ (captured_frames-get capture g.channels 0 (frames_since_first c) (frame.number - first_frame g) channel (pos 0) within below
    ∙ ap (λ (i : ℕ). captured_at capture i channel) (let e : 0 + (frame.number - first_frame g) ≡ frame.number - first_frame g = omega arith in e))))

-- frames that the card stored, through bindings
pub through_all-captured : (capture : Option Sound) (c : Card) (bindings : List ℕ) (frames : List Frame) → records_of c ≡ true → IsCapturedUpTo capture c
    → All (λ (frame : Frame). IsCaptured (writer_geometry (writer_of c)) (writer_track (writer_of c)).stored frame) frames
    → All (λ channel. channel < (geometry_of_card c).channels) bindings
    → through_all bindings frames ≡ recorded_samples capture (first_frame (geometry_of_card c)) bindings (map (λ (frame : Frame). frame.number) frames)
through_all-captured capture c bindings [] records up_to all on_card = refl
through_all-captured capture c bindings (frame ∷ frames) records up_to all on_card =
    let others = map (λ (x : Frame). x.number) frames in
    ap (λ (ys : List ℤ). ys ++ through_all bindings frames) (through-captured capture c bindings frame records up_to (all 0 frame (omega arith)) on_card)
    ∙ ap (λ (ys : List ℤ). map (captured_from capture (first_frame (geometry_of_card c)) frame.number) bindings ++ ys)
    (through_all-captured capture c bindings frames records up_to (λ k d inside. all (suc k) d (omega (arith, inside))) on_card)

-- ---- lists

elem-at : {X : Type 0} (xs : List X) (k : ℕ) (x : X) → k < length xs → slice_index_or xs k x ≡ x → get_elem? xs k ≡ some x
elem-at [] k x within is = absurd (omega (arith, within))
elem-at (y ∷ xs) zero x within is = ap some is
elem-at (y ∷ xs) (suc k) x within is = elem-at xs k x (omega (arith, within)) is

recorded-append : (capture : Option Sound) (first : ℕ) (bindings xs ys : List ℕ)
    → recorded_samples capture first bindings (xs ++ ys) ≡ recorded_samples capture first bindings xs ++ recorded_samples capture first bindings ys
recorded-append capture first bindings xs ys = flat_map-append (λ frame. map (captured_from capture first frame) bindings) xs ys

-- ---- what a reader recorded in a phase

module _ (capture : Option Sound) (ring : TableId) (geometry : Geometry) (d : Card) (over : IsOver ring geometry d) (records : records_of d ≡ true) (up_to : IsCapturedUpTo capture d)
    (bindings : List ℕ) (ended_got : List Frame) where
  geometry-card : geometry_of_card d ≡ geometry
  geometry-card = d.in_step.geometry ∙ over.of_geometry

  -- each frame that its seat got is the one that the card stored
  got-stored : (s t u : ReaderSeat) (got : List Frame) (frame : Frame) → SeatGot s t got → view_of u ≡ view_of t → KnowsReader d u → Contains got frame
      → IsCaptured (writer_geometry (writer_of d)) (writer_track (writer_of d)).stored frame
  got-stored s t u got frame got_them same knows there =
      let second = at_second (view_of s).got got there.0 frame (elem-at got there.0 frame there.1 there.2) in
      knows.got second.0 frame (ap (λ (v : View). get_elem? v.got second.0) same ∙ (ap (λ (fs : List Frame). get_elem? fs second.0) got_them.got ∙ second.1))

  -- its seat got the frames that it read, and those that it had got
  got-open : (read_before : ℕ) (c : Card) (x y : ReaderActor) (s t u v : ReaderSeat) (phase stops after asks played : ℕ) (ops : List Op)
      → IsRecordedAt capture geometry bindings ended_got read_before x (Some s) → IsInformedReader c s t → HasRun phase stops after asks played ops x y t u → IsSameReader u v
      → HasGotFrames bindings ended_got read_before y (Some v)
  got-open read_before c x y s t u v phase stops after asks played ops before informed ran same =
      let appends = ran.part.appends in
      let read = appends.samples in
      let seats : (view_of v).got ≡ ((view_of s).got ++ (writer_view (writer_of c)).got) ++ read.got =
      ap (λ (w : View). w.got) same.view ∙ (read.got_them.got ∙ ap (λ (fs : List Frame). fs ++ read.got) informed.got) in
      let was = before.got in
      let old : List Frame = was.ended ++ was.frames in
      let join : old ++ read.frames ≡ was.ended ++ (was.frames ++ read.frames) = append_assoc was.ended was.frames read.frames in
      record {
        ended = was.ended;
        got_before = was.got_before;
        read_count = was.read_count;
        frames = was.frames ++ read.frames;
        got_since = subst (λ (fs : List Frame). All (Contains fs) (was.frames ++ read.frames)) (sym seats)
            (All-append (Contains (((view_of s).got ++ (writer_view (writer_of c)).got) ++ read.got)) was.frames read.frames
            (λ k e inside.
            Contains-append_left ((view_of s).got ++ (writer_view (writer_of c)).got) read.got (slice_index_or was.frames k e)
            (Contains-append_left (view_of s).got (writer_view (writer_of c)).got (slice_index_or was.frames k e) (was.got_since k e inside)))
            (λ k e inside. Contains-append_right ((view_of s).got ++ (writer_view (writer_of c)).got) read.got (slice_index_or read.frames k e) (read.among k e inside)));
        numbers = appends.numbers_are
            ∙ (ap (λ (ns : List ℕ). ns ++ appends.numbers) was.numbers
            ∙ (ap (λ (ns : List ℕ). map (λ (frame : Frame). frame.number) old ++ ns) (sym read.numbers_are)
            ∙ (sym (map-append (λ (frame : Frame). frame.number) old read.frames) ∙ ap (map (λ (frame : Frame). frame.number)) join)));
        samples = appends.more_are
            ∙ (ap (λ (zs : List ℤ). zs ++ appends.more) was.samples
            ∙ (ap (λ (zs : List ℤ). through_all bindings old ++ zs) (read.samples_are ∙ ap (λ (bound : List ℕ). through_all bound read.frames) before.bound)
            ∙ (sym (flat_map-append (λ (frame : Frame). bound_samples bindings frame.samples) old read.frames) ∙ ap (through_all bindings) join)));
      }

  recorded-open : (read_before : ℕ) (c : Card) (x y : ReaderActor) (s t u v : ReaderSeat) (phase stops after asks played : ℕ) (ops : List Op)
      → IsRecordedAt capture geometry bindings ended_got read_before x (Some s) → IsInformedReader c s t
      → HasRun phase stops after asks played ops x y t u → IsSameReader u v → KnowsReader d v → IsRecordedAt capture geometry bindings ended_got read_before y (Some v)
  recorded-open read_before c x y s t u v phase stops after asks played ops before informed ran same knows =
      let appends = ran.part.appends in
      let read = appends.samples in
      let first : ℕ = first_frame geometry in
      let on_card : All (λ channel. channel < (geometry_of_card d).channels) bindings =
      subst (λ (g : Geometry). All (λ channel. channel < g.channels) bindings) (sym geometry-card) before.on_card in
      let all : All (λ (frame : Frame). IsCaptured (writer_geometry (writer_of d)) (writer_track (writer_of d)).stored frame) read.frames =
      λ i e inside. got-stored t u v read.got (slice_index_or read.frames i e) read.got_them same.view knows (read.among i e inside) in
      let more : appends.more ≡ recorded_samples capture first bindings appends.numbers =
      read.samples_are
      ∙ (ap (λ (bound : List ℕ). through_all bound read.frames) before.bound
      ∙ (through_all-captured capture d bindings read.frames records up_to all on_card
      ∙ (ap (λ (g : Geometry). recorded_samples capture (first_frame g) bindings (map (λ (frame : Frame). frame.number) read.frames)) geometry-card
      ∙ ap (recorded_samples capture first bindings) read.numbers_are))) in
      record {
        on_card = before.on_card;
        bound = ap (λ (z : streams.Setup). z.bindings) ran.part.same.setup.same_setup ∙ before.bound;
        got = got-open read_before c x y s t u v phase stops after asks played ops before informed ran same;
        samples = appends.more_are
            ∙ (ap (λ (zs : List ℤ). zs ++ appends.more) before.samples
            ∙ (ap (λ (zs : List ℤ). recorded_samples capture first bindings (frames_of_runs x.frames.runs) ++ zs) more
            ∙ (sym (recorded-append capture first bindings (frames_of_runs x.frames.runs) appends.numbers) ∙ ap (recorded_samples capture first bindings) (sym appends.numbers_are))));
      }

  recorded-closed : (read_before : ℕ) (x y : ReaderActor) (phase stops after asks : ℕ) (ops : List Op) → IsRecordedAt capture geometry bindings ended_got read_before x None
      → AllRefused phase stops after asks ops x y → IsRecordedAt capture geometry bindings ended_got read_before y None
  recorded-closed read_before x y phase stops after asks ops before ran = record {
    on_card = before.on_card;
    bound = tt;
    got = record {
      ended = before.got.ended;
      got_before = before.got.got_before;
      read_count = tt;
      frames = before.got.frames;
      got_since = before.got.got_since;
      numbers = ap frames_of_runs ran.file.frames ∙ before.got.numbers;
      samples = ran.file.samples ∙ before.got.samples;
    };
    samples = ran.file.samples ∙ (before.samples ∙ ap (λ (runs : List (ℕ × ℕ)). recorded_samples capture (first_frame geometry) bindings (frames_of_runs runs)) (sym ran.file.frames));
  }

  recorded-seats : (read_before : ℕ) (c : Card) (x y : ReaderActor) (p q l m : Option ReaderSeat) (phase stops after asks played : ℕ) (ops : List Op) → IsRecordedAt capture geometry bindings ended_got read_before x p
      → OnSeats p q (IsInformedReader c) → HasRunAt phase stops after asks played ops x y q l → OnSeats l m IsSameReader → OnSeats l m (λ seat later. KnowsReader d later)
      → IsRecordedAt capture geometry bindings ended_got read_before y m
  recorded-seats read_before c x y None None None None phase stops after asks played ops before informed ran same knows = recorded-closed read_before x y phase stops after asks ops before ran
  recorded-seats read_before c x y (Some s) (Some t) (Some u) (Some v) phase stops after asks played ops before informed ran same knows =
      recorded-open read_before c x y s t u v phase stops after asks played ops before informed ran same knows
  recorded-seats read_before c x y None (Some t) l m phase stops after asks played ops before informed ran same knows = absurd informed
  recorded-seats read_before c x y (Some s) None l m phase stops after asks played ops before informed ran same knows = absurd informed
  recorded-seats read_before c x y None None (Some u) m phase stops after asks played ops before informed ran same knows = absurd ran
  recorded-seats read_before c x y (Some s) (Some t) None m phase stops after asks played ops before informed ran same knows = absurd ran
  recorded-seats read_before c x y None None None (Some v) phase stops after asks played ops before informed ran same knows = absurd same
  recorded-seats read_before c x y (Some s) (Some t) (Some u) None phase stops after asks played ops before informed ran same knows = absurd same

  -- What a reader recorded is what the capture file has, also after a phase, of a card that stored nothing else.
  pub IsRecorded-phase : (c : Card) (phase stops after asks : ℕ) (lines : List Line) (r s t u : LabReader) → IsRecorded capture geometry bindings ended_got r
      → Steps c d phase stops after asks lines r s t u → IsRecorded capture geometry bindings ended_got u
  IsRecorded-phase c phase stops after asks lines r s t u before steps =
      let ran : HasRunAt phase stops after asks (played_in lines) (ops_of r lines) r.actor t.actor s.seat t.seat =
      subst (λ (x : ReaderActor). HasRunAt phase stops after asks (played_in lines) (ops_by (is_reader x.number) lines) x t.actor s.seat t.seat) steps.informed.actor steps.ran.ran in
      subst (λ (n : ℕ). IsRecordedAt capture geometry bindings ended_got n u.actor u.seat) (sym (steps.heard.read_before ∙ (steps.ran.read_before ∙ steps.informed.read_before)))
      (subst (λ (y : ReaderActor). IsRecordedAt capture geometry bindings ended_got r.read_before y u.seat) (sym steps.heard.actor)
      (recorded-seats r.read_before c r.actor t.actor r.seat s.seat t.seat u.seat phase stops after asks (played_in lines) (ops_of r lines) before steps.informed.seats ran steps.heard.seats steps.heard.knows))
