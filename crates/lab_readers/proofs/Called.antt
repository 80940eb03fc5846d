-- The call that a line of a reader names, from what the reader's call says.
use Rattle.lab_readers.specs.Prelude.{ap, append_assoc, arith, drop, Err, length, List, None, refl, Result, slice_index_or, subst, sym, take, zero-mul, ℕ, []}
use Rattle.lab_readers.specs.Prelude.{◌*◌, ◌++◌, ◌+◌, ◌∙◌, ◌∷◌, ◌≡◌, ◌≤◌, mul-div_cancel, suc-mul, nat_tests, append-nil, length-append, length-drop}
use Rattle.lab_readers.specs.Prelude.{length-map, length-replicate, length-take, take_at, All-contains_itself, All-nil, range_with_len, option_to_list}
use Rattle.lab_readers.specs.Prelude.{Contains, min, Ok, Option, pos, replicate, Some, ℤ, ◌-◌, ◌/◌, PcmError, BadState, Composes, Call, Capture, refusal_of}
use Rattle.lab_readers.specs.Prelude.{Frame, frame_if, numbered_frame, GetsAtSnoop, LoadsAtSnoop, NoLay, TakesAtSnoop, Course, ends, Takes-keeps_getting}
use Rattle.lab_readers.specs.Prelude.{Takes-map, CaptureStream, Answered, in_state, if_admitted, read_course, most_read, read_course-fewer, bound_samples}
use Rattle.lab_readers.specs.Prelude.{GivesFrames, through_all, CanRead, CanUse, frames_in, Op, Answer, Failed, count_answer, done_answer, call_answer, call_of}
use Rattle.lab_readers.specs.Prelude.{frames_by, got_by, AreSamples, HasLoaded, HasRead, HasReaderCalled, HasSameSetup}
use Rattle.std.proofs.Math.Seq.{take-append-add, take-append_seam}
use Rattle.std.specs.Result.{result_unwrap_or}
use Rattle.pcm_states.specs.declared.states.State.{State}
use Rattle.dsnoop_client.specs.CallRelations.{Calls}
use Rattle.dsnoop_client.specs.Port.{Keeps}
use Rattle.mix_core.specs.declared.gate.Gate as gates
use Rattle.snoop_core.specs.declared.port.SnoopPort as snoopport
use Rattle.pcm_states.specs.declared.calls.Call.TheVariants as call
use Rattle.lab_lines.specs.declared.line.Op.TheVariants as op

-- as many samples as frames times channels
pub length-through : (bindings : List ℕ) (frames : List Frame) → length (through_all bindings frames) ≡ length frames * length bindings
length-through bindings [] = sym (zero-mul (length bindings))
length-through bindings (frame ∷ frames) =
    let here = length-append (bound_samples bindings frame.samples) (through_all bindings frames) in
    let one = length-map bindings (λ (channel : ℕ). slice_index_or frame.samples channel (pos 0)) in
    let others = length-through bindings frames in
    let all = suc-mul (length frames) (length bindings) in
    omega (arith, here, one, others, all)

-- a line that isn't answered with a number reads nothing
pub got-none : (asked : Op) (e : PcmError) → got_by asked (Failed e) ≡ 0
got-none (op.Read n) e = refl
got-none other e = refl

pub frames-none : (asked : Op) (e : PcmError) (r : CaptureStream) → frames_by asked (Failed e) r ≡ []
frames-none (op.Read n) e r = refl
frames-none other e r = refl

-- what a line counts are its frames, which end before the reader's next one
pub frames_by-count : (asked : Op) (answer : Answer) (r : CaptureStream) → frames_by asked answer r ≡ range_with_len (r.next - got_by asked answer) (got_by asked answer)
frames_by-count asked answer r = grind (arith, nat_tests)

-- no call has another name
pub call-none : (r : CaptureStream) (asked : Op) → ((n : ℕ) → asked ≡ op.Read n → ⊥) → (asked ≡ op.Start → ⊥) → (asked ≡ op.Sync → ⊥) → (asked ≡ op.Avail → ⊥)
    → (asked ≡ op.Drop → ⊥) → (asked ≡ op.Prepare → ⊥) → (asked ≡ op.Pause → ⊥) → call_of r asked ≡ ends (r, Failed BadState)
call-none r other read start sync avail drop prepare pause = grind (arith, nat_tests)

-- room for whole frames
frames_in-whole : (r : CaptureStream) (room : List ℤ) (n : ℕ) → 1 ≤ length r.setup.bindings → length room ≡ n * length r.setup.bindings → frames_in r room ≡ n
frames_in-whole r room n some size = ap (λ (k : ℕ). k / length r.setup.bindings) size ∙ mul-div_cancel n (omega (arith, some))

pub can-read : (r : CaptureStream) (room : List ℤ) (n : ℕ) → 1 ≤ length r.setup.bindings → n ≤ 4194304 → length room ≡ n * length r.setup.bindings → CanRead r room
can-read r room n some few size = grind (arith, nat_tests)

-- the room for so many samples that were put after others
pub length-room : (old xs : List ℤ) (before count : ℕ) → xs ≡ old ++ replicate count (pos 0) → length old ≡ before → length (take (length xs - before) (drop before xs)) ≡ count
length-room old xs before count is size =
    let whole = ap length is ∙ length-append old (replicate count (pos 0)) in
    let zeros = length-replicate count (pos 0) in
    let dropped = length-drop before xs in
    let taken = length-take (length xs - before) (drop before xs) in
    omega (arith, whole, zeros, size, dropped, taken)

-- samples that were put into room after others, of which the first are kept
placed_behind : {X : Type 0} (n b : ℕ) (xs d p r : List X) → b ≤ length xs → b + length d ≡ n → take n ((take b xs ++ (d ++ p)) ++ r) ≡ take b xs ++ d
placed_behind n b xs d p r inside count =
    ap (take n) (append_assoc (take b xs) (d ++ p) r ∙ ap (λ (zs : List _). take b xs ++ zs) (append_assoc d p r) ∙ sym (append_assoc (take b xs) d (p ++ r)))
    ∙ take_at (take b xs ++ d) (p ++ r) n (omega (arith, length-append (take b xs) d, length-take b xs))

pub kept-behind : {X : Type 0} (old zeros xs out p r : List X) (n b m : ℕ) → xs ≡ old ++ zeros → length old ≡ b → b + length out ≡ n
    → take (b + m) (take n ((take b xs ++ (out ++ p)) ++ r)) ≡ old ++ take m out
kept-behind old zeros xs out p r n b m is size count =
    let whole = ap length is ∙ length-append old zeros in
    let first : take b xs ≡ old = ap (take b) is ∙ take_at old zeros b size in
    ap (take (b + m)) (placed_behind n b xs out p r (omega (arith, whole, size)) count ∙ ap (λ (ys : List _). ys ++ out) first)
    ∙ ap (λ (k : ℕ). take (k + m) (old ++ out)) (sym size)
    ∙ take-append-add old out m

-- nothing was read
pub HasRead-none : {S : Type 0} (P : snoopport.Ghosts S) (p q : S) (r d : CaptureStream) (before : List ℤ) (asked : Op) (answer : Answer) (got : List Frame) → P.got p q got
    → CanUse d (P.view q) → HasSameSetup r d → got_by asked answer ≡ 0 → frames_by asked answer d ≡ [] → HasRead P p q r d before before asked answer
HasRead-none P p q r d before asked answer got got_them usable same none no_frames = record {
  usable = usable;
  same = same;
  below = omega (arith, none);
  more = [];
  appended = sym (append-nil before);
  read = record {
    got = got;
    got_them = got_them;
    frames = [];
    among = All-nil (Contains got);
    numbers_are = sym no_frames;
    whole = All-nil (λ (frame : Frame). length frame.samples ≡ r.geometry.channels);
    samples_are = refl;
  };
}

-- no positions, and those of two states after each other
pub HasLoaded-none : {S : Type 0} (P : snoopport.Ghosts S) → Composes P.loaded → (p : S) → HasLoaded P p p
HasLoaded-none P loading p = record { loads = []; loaded_them = loading.none p }

pub HasLoaded-joined : {S : Type 0} (P : snoopport.Ghosts S) → Composes P.loaded → (p q s : S) → HasLoaded P p q → HasLoaded P q s → HasLoaded P p s
HasLoaded-joined P loading p q s one two = record {
  loads = one.loads ++ two.loads;
  loaded_them = loading.joined p q s one.loads two.loads one.loaded_them two.loaded_them;
}

-- each course loaded some positions, or none
pub loaded-some : {S T X : Type 0} (P : snoopport.Ghosts S) (G : gates.Ghosts T) → Composes P.loaded → (s t : S × T) (m : Course X) (y : X) → TakesAtSnoop P G s m t y
    → HasLoaded P s.0 t.0
loaded-some {S = S} {T = T} P G loading s t m y takes =
    Takes-keeps_getting (LoadsAtSnoop P G) (GetsAtSnoop P G) (λ (a b : S × T). HasLoaded P a.0 b.0)
    (λ a. HasLoaded-none P loading a.0)
    (λ a b c one two. HasLoaded-joined P loading a.0 b.0 c.0 one two)
    (λ a b load step. record { loads = option_to_list load; loaded_them = step.loaded_it })
    (λ a b number got step. record { loads = []; loaded_them = step.1.loaded_nothing })
    s t m y takes

module _ {S T : Type 0} (P : snoopport.Ghosts S) (G : gates.Ghosts T) (composes : Composes P.got) where
  -- each course got some frames, or none
  got-some : {X : Type 0} (s t : S × T) (m : Course X) (y : X) → TakesAtSnoop P G s m t y → (frames : List Frame) × P.got s.0 t.0 frames
  got-some s t m y takes =
      Takes-keeps_getting (LoadsAtSnoop P G) (GetsAtSnoop P G) (λ (a b : S × T). (frames : List Frame) × P.got a.0 b.0 frames)
      (λ a. ([], composes.none a.0))
      (λ a b c one two. (one.0 ++ two.0, composes.joined a.0 b.0 c.0 one.0 two.0 one.1 two.1))
      (λ a b load step. ([], step.got_nothing))
      (λ a b number got step. (frame_if got (numbered_frame number step.0), step.1.got_it))
      s t m y takes

  -- a call that reads no frame
  called-reading_none : {X : Type 0} (answer_of : Result X PcmError → Answer) (s t : S × T) (r d : CaptureStream) (before : List ℤ) (asked line : Op)
      (m : Course (Answered X)) (result : Result X PcmError) (answer : Answer) → asked ≡ line → call_of r line ≡ call_answer answer_of m → TakesAtSnoop P G s m t (d, result)
      → answer ≡ answer_of result → CanUse d (P.view t.0) → HasSameSetup r d → got_by line answer ≡ 0 → frames_by line answer d ≡ []
      → HasReaderCalled P G s t r d before before asked answer
  called-reading_none answer_of s t r d before asked line m result answer named course_is takes is usable same none no_frames =
      let got = got-some s t m (d, result) takes in
      rw named (record {
        takes = subst (λ (n : Course (CaptureStream × Answer)). TakesAtSnoop P G s n t (d, answer)) (sym course_is)
            (Takes-map (LoadsAtSnoop P G) NoLay (GetsAtSnoop P G) s t m (λ (done : Answered _). (done.0, answer_of done.1)) (d, result) (d, answer) takes
            (ap (λ (a : Answer). (d, a)) (sym is)));
        has_read = HasRead-none P s.0 t.0 r d before line answer got.0 got.1 usable same none no_frames;
      })

  -- a call that loads the position and no frame
  pub called-keeps : {X : Type 0} {result : Result X PcmError} {what : Call} {course : Course (Answered X)} {Cause : Type 0} (answer_of : Result X PcmError → Answer) (s t : S × T) (r d : CaptureStream)
      (before : List ℤ) (asked line : Op) (answer : Answer) → asked ≡ line → Calls P G s t r d result what course Cause → call_of r line ≡ call_answer answer_of (if_admitted r what course)
      → answer ≡ answer_of result → got_by line answer ≡ 0 → frames_by line answer d ≡ [] → HasReaderCalled P G s t r d before before asked answer
  called-keeps {result = result} {what = what} {course = course} answer_of s t r d before asked line answer named calls course_is is =
      called-reading_none answer_of s t r d before asked line (if_admitted r what course) result answer named course_is calls.takes is calls.keeps.port
      (record { same_ring = calls.keeps.same_ring; same_setup = calls.keeps.same_setup })

  -- a call that only changes the reader's state
  pub called-state : (s : S × T) (r d : CaptureStream) (before : List ℤ) (asked line : Op) (what : Call) (state : State) (result : Result (Unit {0}) PcmError) (answer : Answer)
      → asked ≡ line → call_of r line ≡ call_answer done_answer (if_admitted r what (ends (in_state r state, Ok tt)))
      → ((e : PcmError) → refusal_of Capture r.status what ≡ Some e → (result ≡ Err e) × (d ≡ r))
      → (refusal_of Capture r.status what ≡ None → (result ≡ Ok tt) × (d ≡ in_state r state))
      → answer ≡ done_answer result → CanUse r (P.view s.0) → got_by line answer ≡ 0 → frames_by line answer d ≡ []
      → HasReaderCalled P G s s r d before before asked answer
  called-state s r d before asked line what state result answer named course_is refused admits is usable none no_frames = by_refusal (refusal_of Capture r.status what) refl
    where
      called : (x : CaptureStream) (y : Result (Unit {0}) PcmError) → (result ≡ y) × (d ≡ x) → TakesAtSnoop P G s (if_admitted r what (ends (in_state r state, Ok tt))) s (x, y)
          → CanUse x (P.view s.0) → HasSameSetup r x → HasReaderCalled P G s s r d before before asked answer
      called x y now takes usable same =
          called-reading_none done_answer s s r d before asked line (if_admitted r what (ends (in_state r state, Ok tt))) result answer named course_is (rw (now.1, now.0) takes) is
          (rw now.1 usable) (rw now.1 same) none no_frames

      by_refusal : (refusal : Option PcmError) → refusal_of Capture r.status what ≡ refusal → HasReaderCalled P G s s r d before before asked answer
      by_refusal None found = called (in_state r state) (Ok tt) (admits found) (rw found (record { there = refl; result = refl }))
          (record { same_geometry = usable.same_geometry; newer = usable.newer }) (record { same_ring = refl; same_setup = refl })
      by_refusal (Some e) found = called r (Err e) (refused e found) (rw found (record { there = refl; result = refl })) usable (record { same_ring = refl; same_setup = refl })

  -- a line that is refused at once
  pub called-refused : (s : S × T) (r : CaptureStream) (before : List ℤ) (asked : Op) (e : PcmError) → call_of r asked ≡ ends (r, Failed e) → CanUse r (P.view s.0)
      → HasReaderCalled P G s s r r before before asked (Failed e)
  called-refused s r before asked e course_is usable = record {
    takes = subst (λ (n : Course (CaptureStream × Answer)). TakesAtSnoop P G s n s (r, Failed e)) (sym course_is) (record { there = refl; result = refl });
    has_read = HasRead-none P s.0 s.0 r r before asked (Failed e) [] (composes.none s.0) usable (record { same_ring = refl; same_setup = refl }) (got-none asked e) (frames-none asked e r);
  }

  -- a read of n frames into room for as many of them as a read gets or starts by; the samples that it gave are kept
  pub called-read : (s t : S × T) (r d : CaptureStream) (before samples room filled : List ℤ) (n : ℕ) (result : Result ℕ PcmError) (answer : Answer)
      → 1 ≤ length r.setup.bindings → length room ≡ min n (most_read r) * length r.setup.bindings
      → TakesAtSnoop P G s (if_admitted r call.Transfer (read_course r (frames_in r room))) t (d, result) → GivesFrames P s.0 t.0 r d room filled result
      → Keeps P G s t r d result → answer ≡ count_answer result → samples ≡ before ++ take (result_unwrap_or result 0 * length r.setup.bindings) filled
      → HasReaderCalled P G s t r d before samples (op.Read n) answer
  called-read s t r d before samples room filled n result answer some size takes reads keeps is kept = rw is (record {
    takes = Takes-map (LoadsAtSnoop P G) NoLay (GetsAtSnoop P G) s t (if_admitted r call.Transfer (read_course r n)) (λ (done : Answered ℕ). (done.0, count_answer done.1))
        (d, result) (d, count_answer result)
        (read_course-fewer P G s t r n (most_read r) (d, result) (omega arith)
        (subst (λ (k : ℕ). TakesAtSnoop P G s (if_admitted r call.Transfer (read_course r k)) t (d, result)) (frames_in-whole r room (min n (most_read r)) some size) takes))
        refl;
    has_read = record {
      usable = keeps.port;
      same = record { same_ring = keeps.same_ring; same_setup = keeps.same_setup };
      below = below_next result reads;
      more = take (result_unwrap_or result 0 * length r.setup.bindings) filled;
      appended = kept;
      read = samples_of result reads;
    };
  })
    where
      below_next : (result : Result ℕ PcmError) → GivesFrames P s.0 t.0 r d room filled result → got_by (op.Read n) (count_answer result) ≤ d.next
      below_next (Ok count) reads = let next = reads.next_is in omega (arith, next)
      below_next (Err e) reads = omega arith

      samples_of : (result : Result ℕ PcmError) → GivesFrames P s.0 t.0 r d room filled result
          → AreSamples P s.0 t.0 r (frames_by (op.Read n) (count_answer result) d) (take (result_unwrap_or result 0 * length r.setup.bindings) filled)
      samples_of (Ok count) reads = record {
        got = reads.frames;
        got_them = reads.got_them;
        frames = reads.frames;
        among = All-contains_itself reads.frames;
        numbers_are = reads.are.numbers
            ∙ ap (range_with_len reads.first) reads.count
            ∙ ap (λ (first : ℕ). range_with_len first count) (let next = reads.next_is in let same : reads.first ≡ d.next - count = omega (arith, next) in same);
        whole = reads.are.whole;
        samples_are = ap (take (count * length r.setup.bindings)) reads.samples
            ∙ ap (λ (k : ℕ). take k (through_all r.setup.bindings reads.frames ++ drop (count * length r.setup.bindings) room))
            (sym (length-through r.setup.bindings reads.frames ∙ ap (λ (k : ℕ). k * length r.setup.bindings) reads.count))
            ∙ take-append_seam (through_all r.setup.bindings reads.frames) (drop (count * length r.setup.bindings) room);
      }
      samples_of (Err e) reads = record {
        got = reads.frames;
        got_them = reads.got_them;
        frames = [];
        among = All-nil (Contains reads.frames);
        numbers_are = refl;
        whole = All-nil (λ (frame : Frame). length frame.samples ≡ r.geometry.channels);
        samples_are = ap (λ (k : ℕ). take k filled) (zero-mul (length r.setup.bindings));
      }
