-- What a line of an open reader is answered, as a run has it.
use Rattle.lab_readers.specs.Prelude.{ap, arith, List, refl, subst, sym, ℕ, [], ◌++◌, ◌<◌, ◌∙◌, ◌≡◌, ◌≤◌, min-eq_left, nat_tests, append-nil, Bool, false, min}
use Rattle.lab_readers.specs.Prelude.{nat_le, Option, Some, true, ℤ, Stopped, Geometry, Composes, GetsAtSnoop, LoadsAtSnoop, NoLay, TakesAtSnoop, ends}
use Rattle.lab_readers.specs.Prelude.{Takes-parts, Takes-then, CaptureStream, Answered, if_admitted, read_course, most_read, read_course-fewer, CanUse, Op}
use Rattle.lab_readers.specs.Prelude.{Answer, Done, Failed, Doing, count_answer, call_of, frames_by, IsAtSnoop, IsReaderLine, ReaderLinesAreParts}
use Rattle.lab_readers.specs.Prelude.{ReaderLinesWithoutCall, got_by, HasRead, HasReaderAnswered, HasReaderCalled, Progress, asked_by, fitting_op, wanted_by}
use Rattle.lab_run.specs.ClientAtPort.{is_die}
use Rattle.lab_readers.proofs.CallProgress.{Progress-same, call-makes}
use Rattle.lab_readers.proofs.Called.{HasLoaded-none, HasRead-none, frames-none, got-none, loaded-some}
use Rattle.mix_core.specs.declared.gate.Gate as gates
use Rattle.snoop_core.specs.declared.port.SnoopPort as snoopport
use Rattle.pcm_states.specs.declared.calls.Call.TheVariants as call
use Rattle.lab_lines.specs.declared.line.Op.TheVariants as op

-- a read of no more frames than there is room for counts as any read does
got-fitting : (asked : Op) (spare : ℕ) (answer : Answer) → got_by (fitting_op spare asked) answer ≡ got_by asked answer
got-fitting other spare answer = grind (arith, nat_tests)

asked-fitting : (asked : Op) (spare : ℕ) → asked_by (fitting_op spare asked) ≤ asked_by asked
asked-fitting (op.Read n) spare = omega arith
asked-fitting other spare = omega arith

HasRead-fitting : {S : Type 0} (P : snoopport.Ghosts S) (p q : S) (r after : CaptureStream) (before samples : List ℤ) (asked : Op) (spare : ℕ) (answer : Answer)
    → HasRead P p q r after before samples (fitting_op spare asked) answer → HasRead P p q r after before samples asked answer
HasRead-fitting P p q r after before samples asked spare answer has_read = grind (arith, nat_tests)

-- and it is the read that the line names, where there is room for the frames that this may get
call-fitting : {S T : Type 0} (P : snoopport.Ghosts S) (G : gates.Ghosts T) (s t : S × T) (r d : CaptureStream) (asked : Op) (spare : ℕ) (answer : Answer)
    → wanted_by (most_read r) asked ≤ spare → TakesAtSnoop P G s (call_of r (fitting_op spare asked)) t (d, answer) → TakesAtSnoop P G s (call_of r asked) t (d, answer)
call-fitting P G s t r d (op.Read n) spare answer fits takes = by_order (nat_le n spare) refl
  where
    by_order : (few : Bool) → nat_le n spare ≡ few → TakesAtSnoop P G s (call_of r (op.Read n)) t (d, answer)
    by_order true is =
        let all : min n spare ≡ n = min-eq_left (grind (arith, nat_tests)) in
        subst (λ (k : ℕ). TakesAtSnoop P G s (call_of r (op.Read k)) t (d, answer)) all takes
    by_order false is =
        let many : spare < n = grind (arith, nat_tests) in
        let parts = Takes-parts (LoadsAtSnoop P G) NoLay (GetsAtSnoop P G) s t (if_admitted r call.Transfer (read_course r (min n spare)))
        (λ (done : Answered ℕ). ends (done.0, count_answer done.1)) (d, answer) takes in
        Takes-then (LoadsAtSnoop P G) NoLay (GetsAtSnoop P G) s parts.0 t (if_admitted r call.Transfer (read_course r n))
        (λ (done : Answered ℕ). ends (done.0, count_answer done.1)) parts.1 (d, answer)
        (read_course-fewer P G s parts.0 r n spare parts.1 (omega (arith, fits, many)) parts.2) parts.3
call-fitting P G s t r d other spare answer fits takes = takes

module _ {S T : Type 0} (P : snoopport.Ghosts S) (composes : Composes P.got) (loading : Composes P.loaded) (left : T → Option ℕ) (by_gate at_gate : T → ℕ) where
  pub answered-call : (G : gates.Ghosts T) → ((first : S) (ring : Geometry) → ReaderLinesAreParts P G left by_gate at_gate first ring)
      → (s t : S × T) (r d : CaptureStream) (before samples : List ℤ) (asked : Op) (spare : ℕ) (answer : Answer) → r.status.stopped ≡ false → is_die asked ≡ false
      → HasReaderCalled P G s t r d before samples (fitting_op spare asked) answer → HasReaderAnswered P left by_gate at_gate s t r d before samples asked spare answer
  answered-call G parts s t r d before samples asked spare answer goes asks called =
      let makes = call-makes P G s t r d (fitting_op spare asked) answer called.takes in
      let got = got-fitting asked spare answer in
      let few = makes.few in
      let most = asked-fitting asked spare in
      record {
        line = λ fits phase number frames first ring doing at.
            parts first ring s t phase number doing (record { own = Some r; frames = frames }) r asked d answer
            (record { is_open = refl; goes = goes; asks = asks }) at (call-fitting P G s t r d asked spare answer fits called.takes);
        has_read = HasRead-fitting P s.0 t.0 r d before samples asked spare answer called.has_read;
        loaded = loaded-some P G loading s t (call_of r (fitting_op spare asked)) (d, answer) called.takes;
        progress = subst (λ (n : ℕ). Progress n r d (P.view s.0) (P.view t.0)) got makes.progress;
        few = omega (arith, few, most, got);
      }

  -- a line that makes no call
  still : (p : S) (g h : T) (r : CaptureStream) (before : List ℤ) (asked : Op) (spare : ℕ) (answer : Answer) → CanUse r (P.view p) → got_by asked answer ≡ 0 → frames_by asked answer r ≡ []
      → ((phase number : ℕ) (frames : List ℕ) (first : S) (ring : Geometry) (doing : Doing) → IsAtSnoop P left by_gate at_gate first ring (p, g) doing
      → IsReaderLine P left by_gate at_gate first ring (p, h) phase number doing (record { own = Some r; frames = frames }) asked (record { own = Some r; frames = frames }) answer)
      → HasReaderAnswered P left by_gate at_gate (p, g) (p, h) r r before before asked spare answer
  still p g h r before asked spare answer usable none no_frames line = record {
    line = λ fits phase number frames first ring doing at.
        subst (λ (same : List ℕ). IsReaderLine P left by_gate at_gate first ring (p, h) phase number doing (record { own = Some r; frames = frames }) asked (record { own = Some r; frames = same }) answer)
        (sym (ap (λ (more : List ℕ). frames ++ more) no_frames ∙ append-nil frames)) (line phase number frames first ring doing at);
    has_read = HasRead-none P p p r r before asked answer [] (composes.none p) usable (record { same_ring = refl; same_setup = refl }) none no_frames;
    loaded = HasLoaded-none P loading p;
    progress = subst (λ (n : ℕ). Progress n r r (P.view p) (P.view p)) (sym none) (Progress-same r (P.view p));
    few = omega (arith, none);
  }

  -- a line of a reader that was stopped
  pub answered-stopped : ((ring : Geometry) (phase number : ℕ) → ReaderLinesWithoutCall ring phase number)
      → (s : S × T) (r : CaptureStream) (before : List ℤ) (asked : Op) (spare : ℕ) → r.status.stopped ≡ true → CanUse r (P.view s.0)
      → HasReaderAnswered P left by_gate at_gate s s r r before before asked spare (Failed Stopped)
  answered-stopped laws s r before asked spare stopped usable = still s.0 s.1 s.1 r before asked spare (Failed Stopped) usable (got-none asked Stopped) (frames-none asked Stopped r)
      (λ phase number frames first ring doing at. record {
        doing = doing;
        done = (laws ring phase number).stopped doing.0 doing.1 (record { own = Some r; frames = frames }) r asked refl stopped;
        at = at;
      })

  -- a `die`
  pub answered-die : ((ring : Geometry) (phase number : ℕ) → ReaderLinesWithoutCall ring phase number)
      → (p : S) (g h : T) (r : CaptureStream) (before : List ℤ) (asks spare : ℕ) → r.status.stopped ≡ false → left h ≡ Some asks → by_gate h ≡ by_gate g → at_gate h ≡ at_gate g → CanUse r (P.view p)
      → HasReaderAnswered P left by_gate at_gate (p, g) (p, h) r r before before (op.Die asks) spare Done
  answered-die laws p g h r before asks spare going left_is gate_is asks_are usable = still p g h r before (op.Die asks) spare Done usable refl refl
      (λ phase number frames first ring doing at. record {
        doing = (record doing.0 { left = Some asks }, doing.1);
        done = (laws ring phase number).dies doing.0 doing.1 (record { own = Some r; frames = frames }) r asks refl going;
        at = (let passing = sym left_is in let same_gate = at.by_gate_is ∙ sym gate_is in let same_asks = at.at_gate_is ∙ sym asks_are in assumption);
      })
