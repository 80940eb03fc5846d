-- The lines of a reader: each gets one slice of frames, and in a stretch each slice begins where the one before it ended.
use Rattle.run_laws.specs.Prelude.{ap, arith, inl, inr, List, None, Option, refl, Some, subst, sym, ℕ, [], ◌++◌, ◌+◌, ◌-◌, ◌∙◌, ◌∷◌, ◌≡◌, ◌⊎◌, nat_tests}
use Rattle.run_laws.specs.Prelude.{append-nil, append_assoc, range_with_len, Bool, Err, false, if◌then◌else◌, nat_eq, nat_le, Ok, Result, true, ⊤, PcmError}
use Rattle.run_laws.specs.Prelude.{XrunWhy, Call, State, Disconnected, Running, next_of, Capture, nothing_found, refusal_in, Got, Course, ends, ◌>>=◌, Gives}
use Rattle.run_laws.specs.Prelude.{Gives-any, Gives-behind, Gives-map, Gives-then, CaptureStream, read_after, taken_of, waits, with_avail, counts, gets_frames}
use Rattle.run_laws.specs.Prelude.{read_course, reads_first, reads_on, starts, transfer_on, transfers, Op, Answer, Count, Done, Failed, Row, count_answer}
use Rattle.run_laws.specs.Prelude.{done_answer, reported_error, LineMay, LinesMay, frames_by, Reader, reader_kind, AtPort, Rules, AreSlices, ends_by_row}
use Rattle.run_laws.specs.Prelude.{goes_on_after, got_by, IsFirstOf, open_reader-line, reader-line}
use Rattle.dsnoop_client.specs.Calls.{Answered}
use Rattle.dsnoop_client.specs.Course.{admitted_by, syncs}
use Rattle.dsnoop_client.specs.View.{is_running}
use Rattle.lab_run.specs.Reader.{after_call, call_answer, call_of, row_by}
use Rattle.run_laws.specs.Slices.{ends_by, ends_stretch, LinesGetSlices, ReadersReadOn, ReadsOn}
use Rattle.snd_base.specs.declared.errors.PcmError.TheVariants as error
use Rattle.pcm_states.specs.declared.calls.Call.TheVariants as call
use Rattle.snoop_core.specs.declared.port.Got.TheVariants as got
use Rattle.lab_lines.specs.declared.line.Op.TheVariants as op

-- a reader that wasn't stopped and runs, or whose card is gone
abbrev IsOn : CaptureStream → Type 0
IsOn d = (d.status.stopped ≡ false) × (d.status.state ≡ Running)

abbrev IsOpen : CaptureStream → Type 0
IsOpen d = (d.status.stopped ≡ false) × ((d.status.state ≡ Running) ⊎ (d.status.state ≡ Disconnected))

-- where a stretch has frames, its reader is open and at the frame after them
abbrev pub IsGoing : Option ℕ → Option CaptureStream → Type 0
IsGoing None own = ⊤
IsGoing (Some next) None = ⊥
IsGoing (Some next) (Some d) = (d.next ≡ next) × IsOpen d

-- a call
pub record Gets (at : Option ℕ) (asked : Op) (x : CaptureStream × Answer) : Type 0 where
  pub first : ℕ
  pub begins : IsFirstOf at first
  pub frames : frames_by asked x.1 x.0 ≡ range_with_len first (got_by asked x.1)
  pub goes : IsGoing (goes_on_after (ends_by_row asked x.1) at first (got_by asked x.1)) (Some x.0)

-- a row without frames, of a reader without a stretch, and of one with a stretch
none-goes : (b : Bool) (first : ℕ) (own : Option CaptureStream) → IsGoing (goes_on_after b None first 0) own
none-goes true first own = tt
none-goes false first own = tt

still-goes : (b : Bool) (next first : ℕ) (d : CaptureStream) → d.next ≡ next → IsOpen d ⊎ (b ≡ true) → IsGoing (goes_on_after b (Some next) first 0) (Some d)
still-goes b next first d same open_or = grind (arith, nat_tests)

got-failed : (asked : Op) (e : PcmError) → got_by asked (Failed e) ≡ 0
got-failed (op.Read n) e = refl
got-failed other e = refl

got-done : (asked : Op) → got_by asked Done ≡ 0
got-done (op.Read n) = refl
got-done other = refl

-- ---- a reader in a stretch

abbrev pub going : CaptureStream → CaptureStream
going r = record r { status = record { state = Running; stopped = false } }

abbrev gone : CaptureStream → CaptureStream
gone r = record r { status = record { state = Disconnected; stopped = false } }

abbrev StaysBy : Op → Result (Unit {0}) PcmError → CaptureStream → Type 0
StaysBy asked (Ok done) d = IsOn d
StaysBy asked (Err e) d = IsOpen d ⊎ (ends_by_row asked (Failed (reported_error e)) ≡ true)

-- a reader that doesn't run any more has an error that ends what it reads
abbrev RunsBy : Result (Unit {0}) PcmError → CaptureStream → Type 0
RunsBy (Ok done) d = ⊤
RunsBy (Err e) d = (d.status.state ≡ Running) ⊎ (ends_by (reported_error e) ≡ true)

record Syncs (r : CaptureStream) (asked : Op) (x : Answered (Unit {0})) : Type 0 where
  next : x.0.next ≡ r.next
  stays : StaysBy asked x.1 x.0
  runs : RunsBy x.1 x.0

-- a line whose stretch an xrun ends, and a stop
abbrev EndsSo : Op → Type 0
EndsSo asked = ((w : XrunWhy) → ends_by_row asked (Failed (error.Xrun w)) ≡ true) × (ends_by_row asked (Failed error.Stopped) ≡ true)

syncs-on : (r : CaptureStream) (asked : Op) → EndsSo asked → (c : Call) → (c ≡ call.Transfer) ⊎ (c ≡ call.Sync) → Gives (Syncs r asked) (syncs (going r) c)
unfolding syncs
syncs-on r asked so c which = grind (arith, nat_tests)

-- a call that gets nothing
gets-none : (at : Option ℕ) (first : ℕ) (d : CaptureStream) (asked : Op) (answer : Answer) → IsFirstOf at first → frames_by asked answer d ≡ [] → got_by asked answer ≡ 0
    → IsGoing (goes_on_after (ends_by_row asked answer) at first 0) (Some d) → Gets at asked (d, answer)
gets-none at first d asked answer begins no_frames none goes = grind (arith, nat_tests)

-- of a reader in a stretch
nothing : (r d : CaptureStream) (asked : Op) (answer : Answer) → frames_by asked answer d ≡ [] → got_by asked answer ≡ 0 → d.next ≡ r.next
    → IsOpen d ⊎ (ends_by_row asked answer ≡ true) → Gets (Some r.next) asked (d, answer)
nothing r d asked answer no_frames none same stays =
    gets-none (Some r.next) r.next d asked answer refl no_frames none (still-goes (ends_by_row asked answer) r.next r.next d same stays)

-- a call of a reader in a stretch that runs: the next frame is after those that it got, and the reader runs on, or the line ends what it reads
pub record GoesOn (r : CaptureStream) (asked : Op) (x : CaptureStream × Answer) : Type 0 where
  pub gets : Gets (Some r.next) asked x
  pub next : x.0.next ≡ r.next + got_by asked x.1
  pub goes : (x.0.status.state ≡ Running) ⊎ (ends_stretch asked x.1 ≡ true)

still : (r d : CaptureStream) (asked : Op) (answer : Answer) → frames_by asked answer d ≡ [] → got_by asked answer ≡ 0 → d.next ≡ r.next
    → IsOpen d ⊎ (ends_by_row asked answer ≡ true) → (d.status.state ≡ Running) ⊎ (ends_stretch asked answer ≡ true) → GoesOn r asked (d, answer)
still r d asked answer no_frames none same stays goes =
    record { gets = nothing r d asked answer no_frames none same stays; next = omega (arith, none, same); goes = goes }

-- the frames of its read
frames-on : (r d : CaptureStream) (n done : ℕ) (ended : Got) → d.next ≡ r.next → IsOn d → GoesOn r (op.Read n) (let x = read_after d n done ended in (x.0, count_answer x.1))
frames-on r d n done ended same on = grind (arith, nat_tests)

-- a fact of a call and its answer
answers-on : {X : Type 0} (P : CaptureStream × Answer → Type 0) (answer : Result X PcmError → Answer) (m : Course (Answered X)) → Gives (λ x. P (x.0, answer x.1)) m
    → Gives P (call_answer answer m)
answers-on P answer m all = Gives-then (λ x. P (x.0, answer x.1)) P m (λ done. ends (done.0, answer done.1)) all (λ x is. is)

transfers-on : (r d : CaptureStream) (n : ℕ) → d.next ≡ r.next → IsOn d → Gives (λ x. GoesOn r (op.Read n) (x.0, count_answer x.1)) (transfers d n)
unfolding transfers
transfers-on r d n same on = Gives-behind _ (gets_frames (taken_of d n) d.next) (λ end. ends (read_after d n end.0 end.1)) (λ x. frames-on r d n x.0 x.1 same on)

read-on : (r : CaptureStream) (n : ℕ) → Gives (λ x. GoesOn r (op.Read n) (x.0, count_answer x.1)) (reads_on (going r) n)
unfolding reads_on
read-on r n = Gives-then (Syncs r (op.Read n)) _ (syncs (going r) call.Transfer) (transfer_on n) (syncs-on r (op.Read n) ((λ w. refl), refl) call.Transfer (inl refl)) transfer
  where
    transfer : (x : Answered (Unit {0})) → Syncs r (op.Read n) x → Gives (λ x. GoesOn r (op.Read n) (x.0, count_answer x.1)) (transfer_on n x)
    transfer (d, Ok done) is = transfers-on r d n is.next is.stays
    transfer (d, Err e) is = still r d (op.Read n) _ refl refl is.next is.stays is.runs

pub calls-on : (r : CaptureStream) (asked : Op) → Gives (GoesOn r asked) (call_of (going r) asked)
unfolding ◌>>=◌ counts
calls-on r (op.Read n) = answers-on (GoesOn r (op.Read n)) count_answer _ (read-on r n)
calls-on r op.Start = still r _ op.Start _ refl refl refl (inl (refl, inl refl)) (inl refl)
calls-on r op.Sync = answers-on (GoesOn r op.Sync) done_answer _ (Gives-map (Syncs r op.Sync) _ (syncs (going r) call.Sync)
    (syncs-on r op.Sync ((λ w. refl), refl) call.Sync (inr refl)) by_sync)
  where
    by_sync : (x : Answered (Unit {0})) → Syncs r op.Sync x → GoesOn r op.Sync (x.0, done_answer x.1)
    by_sync (d, Ok done) is = still r d op.Sync _ refl refl is.next (inl (is.stays.0, inl is.stays.1)) (inl is.stays.1)
    by_sync (d, Err e) is = still r d op.Sync _ refl refl is.next is.stays is.runs
calls-on r op.Avail = answers-on (GoesOn r op.Avail) count_answer _
    (Gives-then (Syncs r op.Avail) _ (syncs (going r) call.Sync) (λ done. ends (with_avail done)) (syncs-on r op.Avail ((λ w. refl), refl) call.Sync (inr refl)) by_sync)
  where
    by_sync : (x : Answered (Unit {0})) → Syncs r op.Avail x → GoesOn r op.Avail (let y = with_avail x in (y.0, count_answer y.1))
    by_sync (d, Ok done) is = still r d op.Avail _ refl refl is.next (inl (is.stays.0, inl is.stays.1)) (inl is.stays.1)
    by_sync (d, Err e) is = still r d op.Avail _ refl refl is.next is.stays is.runs
calls-on r op.Drop = still r _ op.Drop _ refl refl refl (inr refl) (inr refl)
calls-on r op.Prepare = still r _ op.Prepare _ refl refl refl (inl (refl, inl refl)) (inl refl)
calls-on r op.Pause = still r _ op.Pause _ refl refl refl (inl (refl, inl refl)) (inl refl)
calls-on r other = still r _ other _ refl refl refl (inl (refl, inl refl)) (inl refl)

-- a reader whose card is gone gets nothing
calls-gone : (r : CaptureStream) (asked : Op) → Gives (Gets (Some r.next) asked) (call_of (gone r) asked)
unfolding ◌>>=◌
calls-gone r other = grind (arith, nat_tests)

-- ---- a reader without a stretch

-- a call that gets nothing, and one that gets frames as it would in a stretch
idle : (d : CaptureStream) (asked : Op) (answer : Answer) → frames_by asked answer d ≡ [] → got_by asked answer ≡ 0 → Gets None asked (d, answer)
idle d asked answer no_frames none = gets-none None 0 d asked answer tt no_frames none (none-goes (ends_by_row asked answer) 0 (Some d))

gets-first : (next : ℕ) (asked : Op) (x : CaptureStream × Answer) → Gets (Some next) asked x → Gets None asked x
gets-first next asked x gets = grind (arith, nat_tests)

-- a start after which the reader runs
abbrev Opens : Answered (Unit {0}) → Type 0
Opens (d, Ok done) = IsOn d
Opens (d, Err e) = ⊤

starts-well : (r : CaptureStream) → r.status.stopped ≡ false → Gives Opens (starts r call.Transfer)
unfolding starts
starts-well r goes = grind (arith, nat_tests)

going-same : (r : CaptureStream) → r.status.stopped ≡ false → r.status.state ≡ Running → r ≡ going r
going-same r goes runs = λ i. record r { status = record { state = runs i; stopped = goes i } }

reads-first : (r : CaptureStream) (n : ℕ) → r.status.stopped ≡ false → Gives (λ x. Gets None (op.Read n) (x.0, count_answer x.1)) (read_course r n)
unfolding reads_on reads_first
reads-first r n goes = by_running (is_running r.status.state) (runs-of r.status.state)
  where
    FirstRead : Answered ℕ → Type 0
    FirstRead x = Gets None (op.Read n) (x.0, count_answer x.1)

    runs-of : (s : State) → is_running s ≡ true → s ≡ Running
    runs-of Running is = refl
    runs-of other is = absurd (cc)

    transfer : (x : Answered (Unit {0})) → Opens x → Gives FirstRead (transfer_on n x)
    transfer (d, Ok done) on = Gives-map _ FirstRead (transfers d n) (transfers-on d d n refl on) (λ x on. gets-first d.next (op.Read n) (x.0, count_answer x.1) on.gets)
    transfer (d, Err e) on = idle d (op.Read n) (Failed (reported_error e)) refl refl

    by_none : (b : Bool) → FirstRead (r, if b then Ok 0 else Err error.Again)
    by_none true = idle r (op.Read n) (Count 0) refl refl
    by_none false = idle r (op.Read n) (Failed error.Again) refl refl

    by_start : (b : Bool) → Gives FirstRead (if b then reads_first r n else ends (r, waits n))
    by_start true = Gives-then Opens FirstRead (starts r call.Transfer) (transfer_on n) (starts-well r goes) transfer
    by_start false = by_none (nat_eq n 0)

    by_running : (b : Bool) → (b ≡ true → r.status.state ≡ Running)
        → Gives FirstRead (if b then reads_on r n else (if nat_le r.setup.params.start_threshold n then reads_first r n else ends (r, waits n)))
    by_running true runs = subst (λ q. Gives FirstRead (reads_on q n)) (sym (going-same r goes (runs refl)))
        (Gives-map _ FirstRead (reads_on (going r) n) (read-on r n) (λ x on. gets-first r.next (op.Read n) (x.0, count_answer x.1) on.gets))
    by_running false runs = by_start (nat_le r.setup.params.start_threshold n)

calls-first : (r : CaptureStream) (asked : Op) → Gives (Gets None asked) (call_of r asked)
calls-first r (op.Read n) = answers-on (Gets None (op.Read n)) count_answer _ (by_stop r.status.stopped refl)
  where
    FirstRead : Answered ℕ → Type 0
    FirstRead x = Gets None (op.Read n) (x.0, count_answer x.1)

    by_refusal : (refusal : Option PcmError) → r.status.stopped ≡ false → Gives FirstRead (admitted_by refusal r (read_course r n))
    by_refusal None goes = reads-first r n goes
    by_refusal (Some e) goes = idle r (op.Read n) (Failed (reported_error e)) refl refl

    by_stop : (stopped : Bool) → r.status.stopped ≡ stopped
        → Gives FirstRead (admitted_by (if stopped then Some error.Stopped else refusal_in (next_of r.status.state call.Transfer (nothing_found Capture)).answer) r (read_course r n))
    by_stop true is = idle r (op.Read n) (Failed error.Stopped) refl refl
    by_stop false is = by_refusal (refusal_in (next_of r.status.state call.Transfer (nothing_found Capture)).answer) is
calls-first r other = Gives-any _ (call_of r other) (λ x. idle x.0 other x.1 refl refl)

calls-get : (at : Option ℕ) (r : CaptureStream) (asked : Op) → IsGoing at (Some r) → Gives (Gets at asked) (call_of r asked)
calls-get None r asked goes = calls-first r asked
calls-get (Some next) r asked (same, (goes, inl runs)) = subst (λ k. Gives (Gets (Some k) asked) (call_of r asked)) same
    (Gives-map (GoesOn r asked) (Gets (Some r.next) asked) (call_of r asked)
    (subst (λ q. Gives (GoesOn r asked) (call_of q asked)) (sym (going-same r goes runs)) (calls-on r asked)) (λ x goes. goes.gets))
calls-get (Some next) r asked (same, (goes, inr lost)) = subst (λ k. Gives (Gets (Some k) asked) (call_of r asked)) same
    (subst (λ q. Gives (Gets (Some r.next) asked) (call_of q asked)) (sym is) (calls-gone r asked))
  where
    is : r ≡ gone r
    is = λ i. record r { status = record { state = lost i; stopped = goes i } }

-- ---- the lines

record LineGets (at : Option ℕ) (reader after : Reader) (asked : Op) (answer : Answer) : Type 0 where
  first : ℕ
  begins : IsFirstOf at first
  frames : after.frames ≡ reader.frames ++ range_with_len first (got_by asked answer)
  goes : IsGoing (goes_on_after (ends_by_row asked answer) at first (got_by asked answer)) after.own

-- a slice of no frames, where a stretch goes on from there
pub first-of : (at : Option ℕ) → (first : ℕ) × IsFirstOf at first
first-of None = (0, tt)
first-of (Some next) = (next, refl)

-- a line that leaves its reader as it is
unchanged : (at : Option ℕ) (reader : Reader) (asked : Op) (answer : Answer) → got_by asked answer ≡ 0 → IsGoing at reader.own → LineGets at reader reader asked answer
unchanged at reader asked answer none goes = record {
  first = (first-of at).0;
  begins = (first-of at).1;
  frames = sym (append-nil reader.frames) ∙ ap (λ n. reader.frames ++ range_with_len (first-of at).0 n) (sym none);
  goes = subst (λ n. IsGoing (goes_on_after (ends_by_row asked answer) at (first-of at).0 n) reader.own) (sym none)
      (same (ends_by_row asked answer) at (first-of at).0 goes);
}
  where
    same : (b : Bool) (at : Option ℕ) (first : ℕ) → IsGoing at reader.own → IsGoing (goes_on_after b at first 0) reader.own
    same true at first goes = tt
    same false at first goes = goes

line-gets : (rules : Rules) (phase number : ℕ) (a b : AtPort) (reader after : Reader) (asked : Op) (answer : Answer) (at : Option ℕ) → IsGoing at reader.own
    → LineMay (reader_kind phase number) rules (a, reader) asked (b, after) answer → LineGets at reader after asked answer
line-gets rules phase number a b reader after asked answer at goes may =
    reader-line (λ x. LineGets at reader x.0 asked x.1) rules phase number a b reader after asked answer (λ none. fails error.BadState) (λ r is. fails error.Stopped)
    (λ r is. unchanged at reader asked Done (got-done asked) goes)
    (λ r is. Gives-map (Gets at asked) (λ x. LineGets at reader (after_call reader asked x).0 asked (after_call reader asked x).1) (call_of r asked)
    (calls-get at r asked (subst (λ (own : Option CaptureStream). IsGoing at own) is goes)) called) may
  where
    fails : (e : PcmError) → LineGets at reader reader asked (Failed e)
    fails e = unchanged at reader asked (Failed e) (got-failed asked e) goes

    called : (x : CaptureStream × Answer) → Gets at asked x → LineGets at reader (after_call reader asked x).0 asked (after_call reader asked x).1
    called (d, given) gets = record { first = gets.first; begins = gets.begins; frames = ap (λ frames. reader.frames ++ frames) gets.frames; goes = gets.goes }

-- lines: the frames that their rows got
pub record LinesGet (at : Option ℕ) (reader after : Reader) (rows : List Row) : Type 0 where
  pub got : List ℕ
  pub frames : after.frames ≡ reader.frames ++ got
  pub next : Option ℕ
  pub slices : AreSlices at rows got next
  pub goes : IsGoing next after.own

pub lines-get : (rules : Rules) (phase number : ℕ) (x y : AtPort × Reader) (ops : List Op) (rows : List Row) (at : Option ℕ) → IsGoing at x.1.own
    → LinesMay (reader_kind phase number) rules x ops y rows → LinesGet at x.1 y.1 rows
lines-get rules phase number x y [] rows at goes (same, none) = record {
  got = [];
  frames = ap (λ (z : AtPort × Reader). z.1.frames) same ∙ sym (append-nil x.1.frames);
  next = at;
  slices = rw none (refl, refl);
  goes = rw same goes;
}
lines-get rules phase number x y (asked ∷ ops) rows at goes (between, answer, others, may, rest, are) =
    let one = line-gets rules phase number x.0 between.0 x.1 between.1 asked answer at goes may in
    let more = lines-get rules phase number between y ops others (goes_on_after (ends_by_row asked answer) at one.first (got_by asked answer)) one.goes rest in record {
      got = range_with_len one.first (got_by asked answer) ++ more.got;
      frames = more.frames ∙ ap (λ frames. frames ++ more.got) one.frames ∙ append_assoc x.1.frames (range_with_len one.first (got_by asked answer)) more.got;
      next = more.next;
      slices = rw are (by_row between.1.own one.first one.begins more.got more.next more.slices);
      goes = more.goes;
    }
  where
    by_row : (own : Option CaptureStream) (first : ℕ) → IsFirstOf at first → (got : List ℕ) (next : Option ℕ)
        → AreSlices (goes_on_after (ends_by_row asked answer) at first (got_by asked answer)) others got next
        → AreSlices at (row_by phase number asked own answer ∷ others) (range_with_len first (got_by asked answer) ++ got) next
    by_row None first begins got next are = (first, got, begins, refl, are)
    by_row (Some r) first begins got next are = (first, got, begins, refl, are)

-- rows after rows
pub AreSlices-append : (a b c : Option ℕ) (xs ys : List Row) (f g : List ℕ) → AreSlices a xs f b → AreSlices b ys g c → AreSlices a (xs ++ ys) (f ++ g) c
AreSlices-append a b c [] ys f g (none, same) more = rw (none, sym same) more
AreSlices-append a b c (x ∷ xs) ys f g (first, others, begins, frames, rest) more =
    (first, others ++ g, begins, ap (λ l. l ++ g) frames ∙ append_assoc _ others g, AreSlices-append (goes_on_after (ends_by_row x.op x.answer) a first (got_by x.op x.answer)) b c xs ys others g rest more)

-- ---- a reader that runs reads on

pub readers-read_on : (rules : Rules) (phase number : ℕ) → ReadersReadOn rules phase number
readers-read_on rules phase number a b reader after r asked answer is runs may =
    open_reader-line (λ x. ReadsOn reader r asked x.0 x.1) rules phase number a b reader after r asked answer is (stays (Failed error.Stopped)) (stays Done)
    (λ goes. Gives-map (GoesOn r asked) (λ x. ReadsOn reader r asked (after_call reader asked x).0 (after_call reader asked x).1) (call_of r asked)
    (subst (λ q. Gives (GoesOn r asked) (call_of q asked)) (sym (going-same r goes runs)) (calls-on r asked)) called) may
  where
    stays : (given : Answer) → ReadsOn reader r asked reader given
    stays given = record { own = r; is_own = is; count = 0; frames = sym (append-nil reader.frames); next = omega arith; goes = inl runs }

    called : (x : CaptureStream × Answer) → GoesOn r asked x → ReadsOn reader r asked (after_call reader asked x).0 (after_call reader asked x).1
    called (d, given) goes =
        record {
          own = d;
          is_own = refl;
          count = got_by asked given;
          frames = ap (λ frames. reader.frames ++ frames) (goes.gets.frames ∙ ap (λ first. range_with_len first (got_by asked given)) goes.gets.begins);
          next = goes.next;
          goes = goes.goes;
        }

pub lines-get_slices : (rules : Rules) (phase number : ℕ) → LinesGetSlices rules phase number
lines-get_slices rules phase number a b reader after asked answer may =
    let got = line-gets rules phase number a b reader after asked answer None tt may in record { first = got.first; count = got_by asked answer; frames = got.frames }
