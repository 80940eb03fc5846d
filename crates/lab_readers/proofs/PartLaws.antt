-- A reader's lines, one after the other.
use Rattle.lab_readers.specs.Prelude.{ap, append_assoc, arith, length, List, refl, subst, sym, vec_capacity, vec_len, ℕ, [], ◌*◌, ◌++◌, ◌+◌, ◌∙◌, ◌∷◌, ◌≡◌, ◌≤◌}
use Rattle.lab_readers.specs.Prelude.{add-mul, mul-le-mul_right, nat_tests, append-nil, length-append, length-map, map-append, flat_map-append, All-append}
use Rattle.lab_readers.specs.Prelude.{All-nil, All-weaker, Contains-append_left, Contains-append_right, sum_by-append, sum_by-cons, Contains, Option, Some}
use Rattle.lab_readers.specs.Prelude.{sum_by, ℤ, ◌-◌, Geometry, Composes, Frame, SnoopView, CaptureStream, most_read, bound_samples, Op, Answer, Row, Doing}
use Rattle.lab_readers.specs.Prelude.{PartsGrow, frames_by, Reader, reader_kind, row_by, IsAtSnoop, IsReaderLine, got_by, HasSpace, ReaderActor, frames_of_runs}
use Rattle.lab_readers.specs.Prelude.{AreSamples, HasReaderAnswered, HasSameSetup, AppendsFrames, channels_of, HasGot, HasReaderDone, IsSameReader, reader_of}
use Rattle.lab_readers.specs.Prelude.{ReaderLine, ReaderPart, Progress-joined, Progress-most, SeesAtMost, asked_by, frames_wanted, most_wanted, spare_frames}
use Rattle.lab_readers.specs.Prelude.{wanted_by}
use Rattle.std.proofs.lemmas.List.FromFn.{length-range_with_len}
use Rattle.std.proofs.lemmas.Nat.{le-div}
use Rattle.pcm_stream.specs.declared.setup.Setup.{Setup}
use Rattle.lab_readers.proofs.Called.{HasLoaded-joined, HasLoaded-none, frames_by-count, length-through}
use Rattle.snoop_core.specs.declared.port.SnoopPort as snoopport
use Rattle.lab_lines.specs.declared.line.Op.TheVariants as op

-- an actor is the same as itself, and after two lines
pub IsSameActor-none : (a : ReaderActor) → IsSameReader a a
IsSameActor-none a = record { number = refl; setup = record { same_ring = refl; same_setup = refl } }

pub IsSameActor-joined : (a x b : ReaderActor) → IsSameReader a x → IsSameReader x b → IsSameReader a b
IsSameActor-joined a x b one two = grind (arith, nat_tests)

-- ---- the frames that they got

-- the samples of frames are as many as these have numbers, times the channels
AreSamples-length : {S : Type 0} (P : snoopport.Ghosts S) (p q : S) (r : CaptureStream) (numbers : List ℕ) (samples : List ℤ) → AreSamples P p q r numbers samples
    → length samples ≡ length numbers * length r.setup.bindings
AreSamples-length P p q r numbers samples are =
    ap length are.samples_are
    ∙ length-through r.setup.bindings are.frames
    ∙ ap (λ (n : ℕ). n * length r.setup.bindings) (sym (length-map are.frames (λ (frame : Frame). frame.number)) ∙ ap length are.numbers_are)

-- a line got as many frames as its row counts
pub HasGot-line : {S T : Type 0} (P : snoopport.Ghosts S) (left : T → Option ℕ) (by_gate at_gate : T → ℕ) (s t : S × T) (a b : ReaderActor) (asked : Op) (answer : Answer)
    → HasReaderAnswered P left by_gate at_gate s t a.reader b.reader a.samples.items b.samples.items asked (spare_frames a.reader a.samples) answer
    → vec_capacity a.samples ≤ vec_capacity b.samples → HasGot (P.view s.0) (P.view t.0) a b (asked ∷ [])
HasGot-line P left by_gate at_gate s t a b asked answer answered room =
    let has_read = answered.has_read in
    let count : ℕ = got_by asked answer in
    let few = answered.few in
    let one = sum_by-cons asked_by asked [] in
    let numbers : length (frames_by asked answer b.reader) ≡ count =
    ap length (frames_by-count asked answer b.reader) ∙ length-range_with_len (b.reader.next - count) count in
    let more : length has_read.more ≡ count * channels_of a =
    AreSamples-length P s.0 t.0 a.reader (frames_by asked answer b.reader) has_read.more has_read.read ∙ ap (λ (n : ℕ). n * channels_of a) numbers in
    let all = ap length has_read.appended ∙ length-append a.samples.items has_read.more in
    let before = a.samples.ok.0 in
    let after = b.samples.ok.0 in
    record {
      count = count;
      few = omega (arith, few, one);
      samples = omega (arith, all, more, before, after);
      room = room;
      progress = answered.progress;
    }

pub HasGot-none : (v : SnoopView) (a : ReaderActor) → HasGot v v a a []
HasGot-none v a = grind (arith, nat_tests)

pub HasGot-more : (u v w : SnoopView) (a x b : ReaderActor) (ops : List Op) (asked : Op) → IsSameReader a x → HasGot u v a x ops → HasGot v w x b (asked ∷ [])
    → HasGot u w a b (ops ++ asked ∷ [])
HasGot-more u v w a x b ops asked same one two =
    let few = one.few in
    let more = two.few in
    let whole = sum_by-append asked_by ops (asked ∷ []) in
    let before = one.samples in
    let after = two.samples in
    let channels : two.count * channels_of x ≡ two.count * channels_of a = ap (λ (setup : Setup). two.count * length setup.bindings) same.setup.same_setup in
    let all = add-mul one.count two.count (channels_of a) in
    let kept = one.room in
    let still = two.room in
    record {
      count = one.count + two.count;
      few = omega (arith, few, more, whole);
      samples = omega (arith, before, after, channels, all);
      room = omega (arith, kept, still);
      progress = Progress-joined one.count two.count a.reader x.reader b.reader u v w one.progress two.progress;
    }

-- ---- the room for them

-- a read wants no more room than it asks for, and than the most that a read gets or starts by
wanted-asked : (most : ℕ) (asked : Op) → (wanted_by most asked ≤ asked_by asked) × (wanted_by most asked ≤ most)
wanted-asked most (op.Read n) = (omega arith, omega arith)
wanted-asked most other = (omega arith, omega arith)

-- There is room for the next line, where a phase's lines have theirs, and the port saw no more frames so far than the card plays.
pub line-fits : (played : ℕ) (v w : SnoopView) (a x : ReaderActor) (all ops : List Op) (asked : Op) → 1 ≤ channels_of x → IsSameReader a x → HasGot v w a x ops
    → sum_by asked_by ops + asked_by asked ≤ sum_by asked_by all
    → HasSpace (frames_wanted (most_wanted a.reader v.geometry.frames played) all * channels_of a) a.samples → SeesAtMost played v w
    → wanted_by (most_read x.reader) asked ≤ spare_frames x.reader x.samples
line-fits played v w a x all ops asked some same got within space most =
    let wanted : ℕ = wanted_by (most_read x.reader) asked in
    let count = got.count in
    let few = got.few in
    let few_asked = (wanted-asked (most_read x.reader) asked).0 in
    let few_read = (wanted-asked (most_read x.reader) asked).1 in
    let start : x.reader.setup.params.start_threshold ≡ a.reader.setup.params.start_threshold = ap (λ (setup : Setup). setup.params.start_threshold) same.setup.same_setup in
    let held = Progress-most count played a.reader x.reader v w got.progress most in
    let total : ℕ = frames_wanted (most_wanted a.reader v.geometry.frames played) all in
    let fits : count + wanted ≤ total = omega (arith, few, few_asked, few_read, start, held, within) in
    let channels : channels_of x ≡ channels_of a = ap (λ (setup : Setup). length setup.bindings) same.setup.same_setup in
    let both = add-mul count wanted (channels_of a) in
    let samples_fit : (count + wanted) * channels_of a ≤ total * channels_of a = mul-le-mul_right (channels_of a) fits in
    let own : wanted * channels_of x ≡ wanted * channels_of a = ap (λ (n : ℕ). wanted * n) channels in
    let samples = got.samples in
    let room = got.room in
    le-div wanted (vec_capacity x.samples - vec_len x.samples) (channels_of x) some (omega (arith, both, samples_fit, own, samples, room, space))

module _ {S : Type 0} (P : snoopport.Ghosts S) (composes : Composes P.got) where
  -- samples of frames through the same setup
  AreSamples-same : (p q : S) (r d : CaptureStream) (numbers : List ℕ) (samples : List ℤ) → HasSameSetup r d → AreSamples P p q d numbers samples → AreSamples P p q r numbers samples
  AreSamples-same p q r d numbers samples same are = grind (arith, nat_tests)

  AreSamples-joined : (p q s : S) (r : CaptureStream) (numbers others : List ℕ) (samples more : List ℤ) → AreSamples P p q r numbers samples → AreSamples P q s r others more
      → AreSamples P p s r (numbers ++ others) (samples ++ more)
  AreSamples-joined p q s r numbers others samples more one two =
      record {
        got = one.got ++ two.got;
        got_them = composes.joined p q s one.got two.got one.got_them two.got_them;
        frames = one.frames ++ two.frames;
        among = All-append (Contains (one.got ++ two.got)) one.frames two.frames
            (All-weaker (Contains one.got) (Contains (one.got ++ two.got)) (λ x. Contains-append_left one.got two.got x) one.frames one.among)
            (All-weaker (Contains two.got) (Contains (one.got ++ two.got)) (λ x. Contains-append_right one.got two.got x) two.frames two.among);
        numbers_are = map-append (λ (frame : Frame). frame.number) one.frames two.frames ∙ (λ i. one.numbers_are i ++ two.numbers_are i);
        whole = All-append (λ (frame : Frame). length frame.samples ≡ r.geometry.channels) one.frames two.frames one.whole two.whole;
        samples_are = (λ i. one.samples_are i ++ two.samples_are i)
            ∙ sym (flat_map-append (λ (frame : Frame). bound_samples r.setup.bindings frame.samples) one.frames two.frames);
      }

  pub AppendsFrames-none : (p : S) (a : ReaderActor) → AppendsFrames P p p a a
  AppendsFrames-none p a = record {
    numbers = [];
    numbers_are = sym (append-nil (frames_of_runs a.frames.runs));
    more = [];
    more_are = sym (append-nil a.samples.items);
    samples = record {
      got = [];
      got_them = composes.none p;
      frames = [];
      among = All-nil (Contains []);
      numbers_are = refl;
      whole = All-nil (λ (frame : Frame). length frame.samples ≡ a.reader.geometry.channels);
      samples_are = refl;
    };
  }

  pub AppendsFrames-joined : (p q s : S) (a x b : ReaderActor) → IsSameReader a x → AppendsFrames P p q a x → AppendsFrames P q s x b → AppendsFrames P p s a b
  AppendsFrames-joined p q s a x b same one two = record {
    numbers = one.numbers ++ two.numbers;
    numbers_are = two.numbers_are ∙ ap (λ (frames : List ℕ). frames ++ two.numbers) one.numbers_are ∙ append_assoc (frames_of_runs a.frames.runs) one.numbers two.numbers;
    more = one.more ++ two.more;
    more_are = two.more_are ∙ ap (λ (samples : List ℤ). samples ++ two.more) one.more_are ∙ append_assoc a.samples.items one.more two.more;
    samples = AreSamples-joined p q s a.reader one.numbers two.numbers one.more two.more one.samples (AreSamples-same q s a.reader x.reader two.numbers two.more same.setup two.samples);
  }

module _ {S T : Type 0} (P : snoopport.Ghosts S) (composes : Composes P.got) (loading : Composes P.loaded) (left : T → Option ℕ) (by_gate at_gate : T → ℕ) where
  pub ReaderPart-none : (s : S × T) (phase played : ℕ) (a : ReaderActor) → ReaderPart P left by_gate at_gate s s phase played a a []
  ReaderPart-none s phase played a = record {
    rows = [];
    rows_are = sym (append-nil a.rows.items);
    part = λ most first ring before at. record { doing = before; done = (refl, refl); at = at };
    loaded = HasLoaded-none P loading s.0;
    appends = AppendsFrames-none P composes s.0 a;
    same = IsSameActor-none a;
  }

  pub ReaderPart-more : ((ring : Geometry) (phase number : ℕ) → PartsGrow (reader_kind phase number) ring)
      → (s t u : S × T) (phase played : ℕ) (a x b : ReaderActor) (ops : List Op) (asked : Op) → (P.view t.0).seen ≤ (P.view u.0).seen
      → (SeesAtMost played (P.view s.0) (P.view t.0) → wanted_by (most_read x.reader) asked ≤ spare_frames x.reader x.samples)
      → ReaderPart P left by_gate at_gate s t phase played a x ops → ReaderLine P left by_gate at_gate t u phase x b asked → ReaderPart P left by_gate at_gate s u phase played a b (ops ++ asked ∷ [])
  ReaderPart-more grow s t u phase played a x b ops asked rising fits one line =
      let row : Row = row_by phase a.number asked (Some b.reader) line.answer in
      record {
        rows = one.rows ++ row ∷ [];
        rows_are =
            line.rows_are
            ∙ ap (λ (n : ℕ). x.rows.items ++ row_by phase n asked (Some b.reader) line.answer ∷ []) one.same.number
            ∙ ap (λ (rows : List Row). rows ++ row ∷ []) one.rows_are
            ∙ append_assoc a.rows.items one.rows (row ∷ []);
        part = λ most first ring before at.
            let earlier : SeesAtMost played (P.view s.0) (P.view t.0) = omega (arith, most, rising) in
            let p = one.part earlier first ring before at in
            let l = subst (λ (n : ℕ). IsReaderLine P left by_gate at_gate first ring u phase n p.doing (reader_of x) asked (reader_of b) line.answer) one.same.number
            (line.line (fits earlier) first ring p.doing p.at) in
            record {
              doing = l.doing;
              done = grow ring phase a.number ((before.0, reader_of a), before.1) ((p.doing.0, reader_of x), p.doing.1) ((l.doing.0, reader_of b), l.doing.1)
                  ops one.rows asked line.answer p.done l.done;
              at = l.at;
            };
        loaded = HasLoaded-joined P loading s.0 t.0 u.0 one.loaded line.loaded;
        appends = AppendsFrames-joined P composes s.0 t.0 u.0 a x b one.same one.appends line.appends;
        same = IsSameActor-joined a x b one.same line.same;
      }

-- the same at a gate of which the shares are the same
IsAtSnoop-shared : {S T U : Type 0} (P : snoopport.Ghosts S) (left : T → Option ℕ) (by_gate at_gate : T → ℕ) (other_left : U → Option ℕ) (by_other at_other : U → ℕ)
    (first : S) (ring : Geometry) (p : S) (g : T) (h : U) (doing : Doing) → left g ≡ other_left h → by_gate g ≡ by_other h → at_gate g ≡ at_other h
    → IsAtSnoop P left by_gate at_gate first ring (p, g) doing → IsAtSnoop P other_left by_other at_other first ring (p, h) doing
IsAtSnoop-shared P left by_gate at_gate other_left by_other at_other first ring p g h doing same_left same_gate same_asks at = grind (arith, nat_tests)

-- an actor that differs from another in nothing but what a `die` lets pass
pub record IsSameButLeft (b c : ReaderActor) : Type 0 where
  pub number : c.number ≡ b.number
  pub reader : c.reader ≡ b.reader
  pub frames : c.frames.runs ≡ b.frames.runs
  pub samples : c.samples.items ≡ b.samples.items
  pub rows : c.rows.items ≡ b.rows.items

pub ReaderPart-shared : {S T U : Type 0} (P : snoopport.Ghosts S) (left : T → Option ℕ) (by_gate at_gate : T → ℕ) (other_left : U → Option ℕ) (by_other at_other : U → ℕ)
    (p q : S) (g h : T) (k m : U) (phase played : ℕ) (a b c : ReaderActor) (ops : List Op)
    → left g ≡ other_left k → by_gate g ≡ by_other k → at_gate g ≡ at_other k → left h ≡ other_left m → by_gate h ≡ by_other m → at_gate h ≡ at_other m → IsSameButLeft b c
    → ReaderPart P left by_gate at_gate (p, g) (q, h) phase played a b ops → ReaderPart P other_left by_other at_other (p, k) (q, m) phase played a c ops
ReaderPart-shared P left by_gate at_gate other_left by_other at_other p q g h k m phase played a b c ops left_before gate_before asks_before left_after gate_after asks_after same part =
    let same_reader : reader_of b ≡ reader_of c = λ i. record { own = Some ((sym same.reader) i); frames = frames_of_runs ((sym same.frames) i) } in
    record {
      rows = part.rows;
      rows_are = same.rows ∙ part.rows_are;
      part = λ most first ring before at.
          let done = part.part most first ring before
          (IsAtSnoop-shared P other_left by_other at_other left by_gate at_gate first ring p k g before (sym left_before) (sym gate_before) (sym asks_before) at) in
          subst (λ (own : Reader). HasReaderDone P other_left by_other at_other first ring (q, m) phase a.number before (reader_of a) ops own part.rows) same_reader (record {
            doing = done.doing;
            done = done.done;
            at = IsAtSnoop-shared P left by_gate at_gate other_left by_other at_other first ring q h m done.doing left_after gate_after asks_after done.at;
          });
      loaded = part.loaded;
      appends = record {
        numbers = part.appends.numbers;
        numbers_are = ap frames_of_runs same.frames ∙ part.appends.numbers_are;
        more = part.appends.more;
        more_are = same.samples ∙ part.appends.more_are;
        samples = part.appends.samples;
      };
      same = record {
        number = same.number ∙ part.same.number;
        setup = subst (λ (r : CaptureStream). HasSameSetup a.reader r) (sym same.reader) part.same.setup;
      };
    }
