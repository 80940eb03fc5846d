-- A reader's frames are captured ones: each that it gets is after the others, and below the position known. So they are at most as many as the card has captured.
use Rattle.run_laws.specs.Prelude.{ap, arith, inl, inr, length, List, None, Option, refl, Some, subst, sym, ℕ, [], ◌++◌, ◌+◌, ◌-◌, ◌∷◌, ◌≡◌, ◌≤◌, ◌⊎◌}
use Rattle.run_laws.specs.Prelude.{nat_tests, append-nil, range_with_len, Bool, Contains, Err, false, if◌then◌else◌, Ok, Result, suc, true, zero, ⊤, PcmError}
use Rattle.run_laws.specs.Prelude.{Call, State, next_of, Position, Got, ends, ◌>>=◌, CaptureStream, facts_with, over_of, read_after, seen_at, taken_of, waits}
use Rattle.run_laws.specs.Prelude.{with_avail, get_on, gets_frames, starts, transfer_on, transfers, Op, Answer, Failed, count_answer, done_answer, frames_by}
use Rattle.run_laws.specs.Prelude.{Reader, Rules, AreRisingFrames}
use Rattle.pcm_states.specs.declared.calls.Outcome.{Outcome}
use Rattle.dsnoop_client.specs.Calls.{Answered, in_state, with_outcome, after_sync}
use Rattle.dsnoop_client.specs.Course.{syncs}
use Rattle.dsnoop_client.specs.View.{is_running}
use Rattle.lab_run.specs.Reader.{after_call, call_of, line_by, line_if}
use Rattle.lab_run.proofs.ReadParts.{Parts, call_of-says}
use Rattle.run_laws.proofs.Known.{AllKnown, gets-known, known_at, loads-known}
use Rattle.run_laws.proofs.Yields.{Yields, Yields-ends, Yields-then, yields-so}
use Rattle.snd_base.specs.declared.errors.PcmError.TheVariants as error
use Rattle.pcm_states.specs.declared.calls.Call.TheVariants as call
use Rattle.pcm_states.specs.declared.states.State.TheVariants as state
use Rattle.snoop_core.specs.declared.port.Got.TheVariants as got
use Rattle.lab_lines.specs.declared.line.Op.TheVariants as op

-- ---- frames that rise

rising-less : (least more end : ℕ) (frames : List ℕ) → least ≤ more → AreRisingFrames more end frames → AreRisingFrames least end frames
rising-less least more end [] less rising = omega (arith, less, rising)
rising-less least more end (frame ∷ frames) less (low, rising) = (omega (arith, less, low), rising)

rising-few : (least end : ℕ) (frames : List ℕ) → AreRisingFrames least end frames → least + length frames ≤ end
rising-few least end [] rising = omega (arith, rising)
rising-few least end (frame ∷ frames) (low, rising) = let few = rising-few (frame + 1) end frames rising in omega (arith, low, few)

pub rising-end : (least end : ℕ) (frames : List ℕ) → AreRisingFrames least end frames → least ≤ end
rising-end least end frames rising = let few = rising-few least end frames rising in omega (arith, few)

rising-append : (least between end : ℕ) (frames more : List ℕ) → AreRisingFrames least between frames → AreRisingFrames between end more
    → AreRisingFrames least end (frames ++ more)
rising-append least between end [] more low rising = rising-less least between end more low rising
rising-append least between end (frame ∷ frames) more (low, rising) after = (low, rising-append (frame + 1) between end frames more rising after)

-- with a later end
pub rising-later : (least end more : ℕ) (frames : List ℕ) → end ≤ more → AreRisingFrames least end frames → AreRisingFrames least more frames
rising-later least end more frames later rising = subst (AreRisingFrames least more) (append-nil frames) (rising-append least end more frames [] rising later)

rising-range : (least end first count : ℕ) → least ≤ first → first + count ≤ end → AreRisingFrames least end (range_with_len first count)
rising-range least end first zero low few = omega (arith, low, few)
rising-range least end first (suc count) low few = (low, rising-range (first + 1) end (first + 1) count (omega arith) (omega (arith, few)))

-- ---- a reader

-- a reader that runs has its next frame at a frame or past it
abbrev pub IsPast : ℕ → CaptureStream → Type 0
IsPast base r = is_running r.status.state ≡ true → base ≤ r.next

-- a call that gets nothing
abbrev Stays : {T : Type 0} → ℕ → ℕ → Answered T → Type 0
Stays base known (d, r) = (base ≤ known) × IsPast base d

-- the load of a read: where the call goes on, the next frame and the position are known
abbrev Begins : ℕ → ℕ → Answered (Unit {0}) → Type 0
Begins base known (d, Ok done) = (base ≤ known) × (base ≤ d.next) × (d.seen ≡ Some known)
Begins base known (d, Err e) = (base ≤ known) × IsPast base d

-- a read moves the next frame on by what it counts, and not past the position known
abbrev Reads : ℕ → ℕ → Answered ℕ → Type 0
Reads base known (d, Ok count) = ((count ≡ 0) × (base ≤ known) × IsPast base d) ⊎ ((base + count ≤ d.next) × (d.next ≤ known))
Reads base known (d, Err e) = (base ≤ known) × IsPast base d

-- ---- the parts of a call

with_outcome-begins : (base known : ℕ) (d : CaptureStream) (s : State) (r : Result (Unit {0}) PcmError) → base ≤ known → base ≤ d.next → d.seen ≡ Some known
    → Begins base known (in_state d s, r)
with_outcome-begins base known d s (Ok done) low next seen = (low, next, seen)
with_outcome-begins base known d s (Err e) low next seen = (low, λ runs. next)

-- a reader that doesn't run and finds the card gone doesn't run afterwards, and its read ends there
gone-begins : (base known : ℕ) (s : State) (d : CaptureStream) → base ≤ known → is_running s ≡ false → Begins base known (with_outcome d (next_of s call.Transfer (facts_with true None None)))
gone-begins base known state.Running d low not = absurd (cc)
gone-begins base known other d low not = (low, λ runs. absurd (cc))

gone-stays : (base known : ℕ) (s : State) (d : CaptureStream) → base ≤ known → (is_running s ≡ true → base ≤ d.next)
    → Stays base known (with_outcome d (next_of s call.Start (facts_with true None None)))
gone-stays base known state.Running d low next = (low, next)
gone-stays base known other d low next = (low, λ runs. absurd (cc))

read-reads : (base known : ℕ) (d : CaptureStream) (n done : ℕ) (how : Got) → base ≤ known → base ≤ d.next → d.seen ≡ Some known → done ≤ taken_of d n
    → Reads base known (read_after d n done how)
read-reads base known d n done how low next seen few = grind (arith, nat_tests)

waits-reads : (base known : ℕ) (r : CaptureStream) (n : ℕ) → base ≤ known → IsPast base r → Reads base known (r, waits n)
waits-reads base known r n low next = grind (arith, nat_tests)

-- ---- the calls

with_avail-stays : (base known : ℕ) (done : Answered (Unit {0})) → Stays base known done → Stays base known (with_avail done)
with_avail-stays base known (d, Ok done) is = is
with_avail-stays base known (d, Err e) is = is

module _ {rules : Rules} {begin : ℕ} (least : (q : ℕ) → Contains rules.published q → begin ≤ q) where
  starts-begins : (base known : ℕ) (r : CaptureStream) → base ≤ known → is_running r.status.state ≡ false → AllKnown rules begin (Begins base) known (starts r call.Transfer)
  unfolding starts
  starts-begins base known r low not = loads-known least (Yields-ends (low, λ runs. absurd (cc))) (λ p newer. Yields-ends (by_gone p (omega (arith, low, newer)) p.gone))
    where
      by_gone : (p : Position) → base ≤ p.frame → (gone : Bool)
          → Begins base p.frame (with_outcome (if gone then seen_at r p else record r { seen = Some p.frame; next = p.frame }) (next_of r.status.state call.Transfer (facts_with gone None None)))
      by_gone p past true = gone-begins base p.frame r.status.state (seen_at r p) past not
      by_gone p past false =
          let d : CaptureStream = record r { seen = Some p.frame; next = p.frame } in
          let o : Outcome = next_of r.status.state call.Transfer (facts_with false None None) in
          with_outcome-begins base p.frame d o.state o.answer past past refl

  starts-stays : (base known : ℕ) (r : CaptureStream) → base ≤ known → IsPast base r → AllKnown rules begin (Stays base) known (starts r call.Start)
  unfolding starts
  starts-stays base known r low next = loads-known least (Yields-ends (low, next)) (λ p newer. Yields-ends (by_gone p (omega (arith, low, newer)) p.gone))
    where
      by_gone : (p : Position) → base ≤ p.frame → (gone : Bool)
          → Stays base p.frame (with_outcome (if gone then seen_at r p else record r { seen = Some p.frame; next = p.frame }) (next_of r.status.state call.Start (facts_with gone None None)))
      by_gone p past true = gone-stays base p.frame r.status.state (seen_at r p) past next
      by_gone p past false = (past, λ runs. past)

  syncs-begins : (base known : ℕ) (r : CaptureStream) (asked : Call) → base ≤ known → base ≤ r.next → AllKnown rules begin (Begins base) known (syncs r asked)
  unfolding syncs
  syncs-begins base known r asked low next = loads-known least (Yields-ends (low, λ runs. next)) (λ p newer. Yields-ends (by_load p (omega (arith, low, newer))))
    where
      by_load : (p : Position) → base ≤ p.frame → Begins base p.frame (after_sync r asked (Some p))
      by_load p past =
          let o : Outcome = next_of r.status.state asked (facts_with p.gone (over_of (seen_at r p)) None) in
          with_outcome-begins base p.frame (seen_at r p) o.state o.answer past next refl

  syncs-stays : (base known : ℕ) (r : CaptureStream) (asked : Call) → base ≤ known → base ≤ r.next → AllKnown rules begin (Stays base) known (syncs r asked)
  unfolding syncs
  syncs-stays base known r asked low next = loads-known least (Yields-ends (low, λ runs. next)) (λ p newer. Yields-ends (omega (arith, low, newer), λ runs. next))

  -- so many frames are got at most
  gets-few : (known count first : ℕ) → AllKnown rules begin (λ later (x : ℕ × Got). (later ≡ known) × (x.0 ≤ count)) known (gets_frames count first)
  unfolding gets_frames
  gets-few known zero first = Yields-ends (refl, omega arith)
  gets-few known (suc count) first = gets-known begin (by_end (gets-few known count (first + 1)))
    where
      by_end : AllKnown rules begin (λ later (x : ℕ × Got). (later ≡ known) × (x.0 ≤ count)) known (gets_frames count (first + 1))
          → (how : Got) → AllKnown rules begin (λ later (x : ℕ × Got). (later ≡ known) × (x.0 ≤ suc count)) known (get_on how (gets_frames count (first + 1)))
      by_end rest got.Whole = Yields-then rest (λ later x few. Yields-ends (few.0, let low = few.1 in omega (arith, low)))
      by_end rest (got.Overtaken channel word) = Yields-ends (refl, omega arith)
      by_end rest got.Stopped = Yields-ends (refl, omega arith)

  transfer_on-reads : (base known n : ℕ) (done : Answered (Unit {0})) → Begins base known done → AllKnown rules begin (Reads base) known (transfer_on n done)
  unfolding transfers
  transfer_on-reads base known n (d, Err e) is = Yields-ends is
  transfer_on-reads base known n (d, Ok done) (low, next, seen) = Yields-then (gets-few known (taken_of d n) d.next)
      (λ later x few. Yields-ends (subst (λ (k : ℕ). Reads base k (read_after d n x.0 x.1)) (sym few.0) (read-reads base known d n x.0 x.1 low next seen few.1)))

  reads-stay : (base known : ℕ) (r : CaptureStream) → base ≤ known → IsPast base r
      → Parts (Yields rules (known_at begin)) r known (Begins base) (Stays base) (Stays base) (Reads base)
  reads-stay base known r low next = record {
    same = (low, next);
    none = (low, next);
    refused = λ asked e is. (low, next);
    not_counted = λ asked e is. (low, next);
    not_read = λ asked e is. (low, next);
    starts_so = starts-stays base known r low next;
    syncs_so = λ runs. syncs-stays base known r call.Sync low (next runs);
    available = λ later done is. with_avail-stays base later done is;
    goes_on = λ runs. syncs-begins base known r call.Transfer low (next runs);
    begins = λ still. starts-begins base known r low still;
    gets_on = λ n later done is. transfer_on-reads base later n done is;
    waiting = λ n. waits-reads base known r n low next;
    dropped = (low, λ runs. absurd (cc));
    prepared = (low, λ runs. absurd (cc));
  }

-- ---- the lines

-- an open reader whose frames are before a frame
abbrev pub IsOwnPast : ℕ → Option CaptureStream → Type 0
IsOwnPast base None = ⊤
IsOwnPast base (Some r) = IsPast base r

-- a reader whose frames rise from a first one, and are below the position known
abbrev pub HasFrames : ℕ → ℕ → Reader → Type 0
HasFrames first known reader = (end : ℕ) × AreRisingFrames first end reader.frames × (end ≤ known) × IsOwnPast end reader.own

pub frames-few : (first known : ℕ) (reader : Reader) → HasFrames first known reader → first + length reader.frames ≤ known
frames-few first known reader (end, rising, low, past) = let few = rising-few first end reader.frames rising in omega (arith, few, low)

abbrev pub LineHas : ℕ → ℕ → Reader × Answer → Type 0
LineHas first known (reader, answer) = HasFrames first known reader

-- what a call leaves of a reader that had some frames
abbrev IsLeft : ℕ → ℕ → Op → CaptureStream × Answer → Type 0
IsLeft base known asked (d, answer) = (end : ℕ) × AreRisingFrames base end (frames_by asked answer d) × (end ≤ known) × IsPast end d

-- a call that got nothing
none-left : (base known : ℕ) (asked : Op) (d : CaptureStream) (answer : Answer) → frames_by asked answer d ≡ [] → (base ≤ known) × IsPast base d
    → IsLeft base known asked (d, answer)
none-left base known asked d answer none is =
    let rising : base ≤ base = omega arith in
    (base, subst (AreRisingFrames base base) (sym none) rising, is.0, is.1)

-- a read
read-left : (base n known : ℕ) (x : Answered ℕ) → Reads base known x → IsLeft base known (op.Read n) (x.0, count_answer x.1)
read-left base n known (d, Ok count) (inl (none, low, past)) =
    none-left base known (op.Read n) d (count_answer (Ok count)) (ap (λ k. range_with_len (d.next - k) k) none) (low, past)
read-left base n known (d, Ok count) (inr (next, low)) =
    (d.next, rising-range base d.next (d.next - count) count (omega (arith, next)) (omega (arith, next)), low, λ runs. omega arith)
read-left base n known (d, Err e) is = none-left base known (op.Read n) d (count_answer (Err e)) refl is

no-frames : (o : Op) (r : Result (Unit {0}) PcmError) (d : CaptureStream) → frames_by o (done_answer r) d ≡ []
no-frames other r d = grind (arith, nat_tests)

failed-frames : (o : Op) (e : PcmError) (d : CaptureStream) → frames_by o (Failed e) d ≡ []
failed-frames (op.Read n) e d = refl
failed-frames other e d = refl

-- a line adds the frames that its call got
line-left : (first base known : ℕ) (reader : Reader) (asked : Op) (x : CaptureStream × Answer) → AreRisingFrames first base reader.frames → IsLeft base known asked x
    → LineHas first known (after_call reader asked x)
line-left first base known reader asked (d, answer) rising (end, more, low, past) =
    (end, rising-append first base end reader.frames (frames_by asked answer d) rising more, low, past)

module _ {rules : Rules} {begin : ℕ} (least : (q : ℕ) → Contains rules.published q → begin ≤ q) where
  call-left : (base known : ℕ) (r : CaptureStream) (asked : Op) → base ≤ known → IsPast base r → AllKnown rules begin (λ later x. IsLeft base later asked x) known (call_of r asked)
  call-left base known r asked low next = call_of-says (Yields rules (known_at begin)) (yields-so rules (known_at begin)) (reads-stay least base known r low next) (λ o later x. IsLeft base later o x)
      (λ o later x is. none-left base later o x.0 (done_answer x.1) (no-frames o x.1 x.0) is)
      (λ later x is. none-left base later op.Avail x.0 (count_answer x.1) refl is) (λ n later x is. read-left base n later x is)
      (λ o. none-left base known o r (Failed error.NotSupported) (failed-frames o error.NotSupported r) (low, next))
      (λ o. none-left base known o r (Failed error.BadState) (failed-frames o error.BadState r) (low, next)) asked

  pub line-has : (first known : ℕ) (reader : Reader) (own : Option CaptureStream) (asked : Op) → reader.own ≡ own → HasFrames first known reader
      → AllKnown rules begin (LineHas first) known (line_by reader own asked)
  line-has first known reader None asked is has = Yields-ends has
  line-has first known reader (Some r) asked is has = by_stop r.status.stopped asked
    where
      by_call : (o : Op) → AllKnown rules begin (LineHas first) known (call_of r o >>= λ done. ends (after_call reader o done))
      by_call o = Yields-then (call-left has.0 known r o has.2 (subst (IsOwnPast has.0) is has.3)) (λ later x left. Yields-ends (line-left first has.0 later reader o x has.1 left))

      by_op : (o : Op) → AllKnown rules begin (LineHas first) known (line_if false reader r o)
      by_op (op.Die k) = Yields-ends has
      by_op other = by_call other

      by_stop : (stopped : Bool) (o : Op) → AllKnown rules begin (LineHas first) known (line_if stopped reader r o)
      by_stop true o = Yields-ends has
      by_stop false o = by_op o
