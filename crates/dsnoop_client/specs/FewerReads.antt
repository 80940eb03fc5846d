-- A read of more frames than the ring has, and than start the reader, does what a read of so many does: it gets no more of them.
use Rattle.std.proofs.Common.{◌≡◌, ◌≤◌, ◌<◌, ◌+◌, ◌∙◌, refl, sym, ap, subst, arith}
use Rattle.std.proofs.Math.Nat.{min-eq_left, min-eq_right}
use Rattle.std.proofs.lemmas.Bool.Decides.{nat_tests}
use Rattle.std.specs.Prelude.{◌-◌, ℕ, suc, Bool, true, false, nat_eq, nat_le, nat_lt, ◌&&◌, if◌then◌else◌, max, min, Option, None, Some, Ok, Err, unwrap_or}
use Rattle.snd_base.specs.declared.errors.PcmError.{PcmError}
use Rattle.snd_base.specs.declared.errors.PcmError.TheVariants.{Again}
use Rattle.snd_base.specs.declared.geometry.Geometry.{Geometry}
use Rattle.mix_core.specs.declared.gate.Gate as gates
use Rattle.mix_core.specs.declared.port.Position.{Position}
use Rattle.pcm_states.specs.declared.calls.Call.TheVariants as call
use Rattle.pcm_stream.specs.declared.direction.Direction.TheVariants.{Capture}
use Rattle.pcm_stream.specs.Status.{refusal_of}
use Rattle.snoop_core.specs.declared.port.Got.{Got}
use Rattle.snoop_core.specs.declared.port.Got.TheVariants.{Whole, Overtaken, Stopped}
use Rattle.snoop_core.specs.declared.port.SnoopPort as snoopport
use Rattle.snoop_core.specs.Port.{SnoopView}
use Rattle.course.specs.AtSnoopPort.{GetsAtSnoop, LoadsAtSnoop, NoLay, TakesAtSnoop, TakesAtSnoop-same}
use Rattle.course.specs.Course.{ends}
use Rattle.course.specs.CourseLaws.{Takes-parts, Takes-then}
use Rattle.dsnoop_client.specs.declared.stream.CaptureStream.{CaptureStream}
use Rattle.dsnoop_client.specs.Calls.{Answered, read_after, read_to, seen_at, taken_of, waits}
use Rattle.dsnoop_client.specs.Course.{if_admitted, admitted_by, gets_frames, read_course, reads_first, reads_on, starts, syncs, transfer_on, transfers}
use Rattle.dsnoop_client.specs.View.{avail_of, is_running}

-- as many frames as a ring has at most, or as start a reader
abbrev pub most_read : CaptureStream → ℕ
most_read c = max c.setup.params.start_threshold 16384

-- a read of some frames and one of none wait for no other reason
read_after-more : (c : CaptureStream) (k n done : ℕ) (ended : Got) → 1 ≤ k → k ≤ n → read_after c k done ended ≡ read_after c n done ended
read_after-more c k n done ended some more =
    let one : nat_lt 0 k ≡ true = grind (arith, nat_tests) in
    let other : nat_lt 0 n ≡ true = grind (arith, nat_tests) in
    let same : nat_lt 0 k ≡ nat_lt 0 n = one ∙ sym other in
    ap (λ (b : Bool). if b && nat_eq (avail_of c) 0 then (c, Err Again) else read_to c done ended) same

module _ {S T : Type 0} (P : snoopport.Ghosts S) (G : gates.Ghosts T) where
  -- where the first frame is more than the ring's length before the position seen, none is got, however many are wanted
  gets-at-once : (s t : S × T) (first i j : ℕ) (y : ℕ × Got) → first + (P.view s.0).geometry.frames < (P.view s.0).seen
      → TakesAtSnoop P G s (gets_frames (suc i) first) t y → TakesAtSnoop P G s (gets_frames (suc j) first) t y
  unfolding gets_frames
  gets-at-once s t first i j y early (Whole, m, step, rest) = absurd (step.1.at_once early)
  gets-at-once s t first i j y early (Overtaken channel word, m, step, rest) = (Overtaken channel word, m, step, rest)
  gets-at-once s t first i j y early (Stopped, m, step, rest) = (Stopped, m, step, rest)

  -- so is it where more frames are wanted than the ring has
  gets-more : (s t : S × T) (c : CaptureStream) (k n : ℕ) (y : ℕ × Got) → 1 ≤ k → k ≤ n → (P.view s.0).geometry.frames ≤ k
      → (P.view s.0).seen ≡ unwrap_or c.seen 0
      → TakesAtSnoop P G s (gets_frames (taken_of c k) c.next) t y → TakesAtSnoop P G s (gets_frames (taken_of c n) c.next) t y
  gets-more s t c k n y some more ring saw takes = by_order (nat_le (avail_of c) k) refl
    where
      by_order : (few : Bool) → nat_le (avail_of c) k ≡ few → TakesAtSnoop P G s (gets_frames (taken_of c n) c.next) t y
      by_order true is =
          let few : avail_of c ≤ k = grind (arith, nat_tests) in
          let still : avail_of c ≤ n = omega (arith, few, more) in
          subst (λ (j : ℕ). TakesAtSnoop P G s (gets_frames j c.next) t y) (min-eq_right few ∙ sym (min-eq_right still)) takes
      by_order false is =
          let many : k < avail_of c = grind (arith, nat_tests) in
          let one : taken_of c k ≡ suc (k - 1) = min-eq_left (omega (arith, many)) ∙ omega (arith, some) in
          let other : taken_of c n ≡ suc (taken_of c n - 1) = omega (arith, some, more, many) in
          subst (λ (j : ℕ). TakesAtSnoop P G s (gets_frames j c.next) t y) (sym other)
          (gets-at-once s t c.next (k - 1) (taken_of c n - 1) y (omega (arith, many, ring, saw))
          (subst (λ (j : ℕ). TakesAtSnoop P G s (gets_frames j c.next) t y) one takes))

  -- the frames of a read, after its load of the position
  transfers-more : (s t : S × T) (c : CaptureStream) (k n : ℕ) (y : Answered ℕ) → 1 ≤ k → k ≤ n → (P.view s.0).geometry.frames ≤ k
      → (P.view s.0).seen ≡ unwrap_or c.seen 0
      → TakesAtSnoop P G s (transfers c k) t y → TakesAtSnoop P G s (transfers c n) t y
  unfolding transfers
  transfers-more s t c k n y some more ring saw takes =
      let parts = Takes-parts (LoadsAtSnoop P G) NoLay (GetsAtSnoop P G) s t (gets_frames (taken_of c k) c.next)
      (λ (end : ℕ × Got). ends (read_after c k end.0 end.1)) y takes in
      Takes-then (LoadsAtSnoop P G) NoLay (GetsAtSnoop P G) s parts.0 t (gets_frames (taken_of c n) c.next)
      (λ (end : ℕ × Got). ends (read_after c n end.0 end.1)) parts.1 y
      (gets-more s parts.0 c k n parts.1 some more ring saw parts.2)
      (record { there = parts.3.there; result = parts.3.result ∙ read_after-more c k n parts.1.0 parts.1.1 some more })

  -- a start and a sync that went well saw the position
  syncs-saw : (s t : S × T) (c d : CaptureStream) (done : Unit {0}) → TakesAtSnoop P G s (syncs c call.Transfer) t (d, Ok done)
      → (P.view t.0).seen ≡ unwrap_or d.seen 0
  unfolding syncs
  syncs-saw s t c d done (None, m, step, rest) = absurd (let wrong = ap (λ (x : Answered (Unit {0})). x.1) rest.result in cc)
  syncs-saw s t c d done (Some position, m, step, rest) =
      ap (λ (u : S × T). (P.view u.0).seen) rest.there ∙ ap (λ (v : SnoopView). v.seen) step.view_is
      ∙ sym (ap (λ (x : Answered (Unit {0})). unwrap_or x.0.seen 0) rest.result)

  starts-saw : (s t : S × T) (c d : CaptureStream) (done : Unit {0}) → TakesAtSnoop P G s (starts c call.Transfer) t (d, Ok done)
      → (P.view t.0).seen ≡ unwrap_or d.seen 0
  unfolding starts
  starts-saw s t c d done (None, m, step, rest) = absurd (let wrong = ap (λ (x : Answered (Unit {0})). x.1) rest.result in cc)
  starts-saw s t c d done (Some position, m, step, rest) =
      ap (λ (u : S × T). (P.view u.0).seen) rest.there ∙ ap (λ (v : SnoopView). v.seen) step.view_is
      ∙ sym (ap (λ (x : Answered (Unit {0})). unwrap_or x.0.seen 0) rest.result ∙ by_gone position.gone)
    where
      by_gone : (gone : Bool)
          → unwrap_or (if gone then seen_at c position else record c { seen = Some position.frame; next = position.frame }).seen 0 ≡ position.frame
      by_gone true = refl
      by_gone false = refl

  -- after either, the frames
  transfer_on-more : (s t : S × T) (x : Answered (Unit {0})) (k n : ℕ) (y : Answered ℕ) → 1 ≤ k → k ≤ n → (P.view s.0).geometry.frames ≤ k
      → ((d : CaptureStream) (done : Unit {0}) → x ≡ (d, Ok done) → (P.view s.0).seen ≡ unwrap_or d.seen 0)
      → TakesAtSnoop P G s (transfer_on k x) t y → TakesAtSnoop P G s (transfer_on n x) t y
  transfer_on-more s t (d, Ok done) k n y some more ring saw takes = transfers-more s t d k n y some more ring (saw d done refl) takes
  transfer_on-more s t (d, Err e) k n y some more ring saw takes = takes

  reads_on-more : (s t : S × T) (c : CaptureStream) (k n : ℕ) (y : Answered ℕ) → 1 ≤ k → k ≤ n → (P.view s.0).geometry.frames ≤ k
      → TakesAtSnoop P G s (reads_on c k) t y → TakesAtSnoop P G s (reads_on c n) t y
  unfolding reads_on
  reads_on-more s t c k n y some more ring takes =
      let parts = Takes-parts (LoadsAtSnoop P G) NoLay (GetsAtSnoop P G) s t (syncs c call.Transfer) (transfer_on k) y takes in
      let same = TakesAtSnoop-same P G s parts.0 (syncs c call.Transfer) parts.1 parts.2 in
      Takes-then (LoadsAtSnoop P G) NoLay (GetsAtSnoop P G) s parts.0 t (syncs c call.Transfer) (transfer_on n) parts.1 y parts.2
      (transfer_on-more parts.0 t parts.1 k n y some more (subst (λ (g : Geometry). g.frames ≤ k) (sym same) ring)
      (λ d done is. syncs-saw s parts.0 c d done (subst (λ (x : Answered (Unit {0})). TakesAtSnoop P G s (syncs c call.Transfer) parts.0
      x) is parts.2)) parts.3)

  reads_first-more : (s t : S × T) (c : CaptureStream) (k n : ℕ) (y : Answered ℕ) → 1 ≤ k → k ≤ n → (P.view s.0).geometry.frames ≤ k
      → TakesAtSnoop P G s (reads_first c k) t y → TakesAtSnoop P G s (reads_first c n) t y
  unfolding reads_first
  reads_first-more s t c k n y some more ring takes =
      let parts = Takes-parts (LoadsAtSnoop P G) NoLay (GetsAtSnoop P G) s t (starts c call.Transfer) (transfer_on k) y takes in
      let same = TakesAtSnoop-same P G s parts.0 (starts c call.Transfer) parts.1 parts.2 in
      Takes-then (LoadsAtSnoop P G) NoLay (GetsAtSnoop P G) s parts.0 t (starts c call.Transfer) (transfer_on n) parts.1 y parts.2
      (transfer_on-more parts.0 t parts.1 k n y some more (subst (λ (g : Geometry). g.frames ≤ k) (sym same) ring)
      (λ d done is. starts-saw s parts.0 c d done (subst (λ (x : Answered (Unit {0})). TakesAtSnoop P G s (starts c call.Transfer) parts.0
      x) is parts.2)) parts.3)

  read-more : (s t : S × T) (c : CaptureStream) (k n : ℕ) (y : Answered ℕ) → 1 ≤ k → k ≤ n → (P.view s.0).geometry.frames ≤ k
      → c.setup.params.start_threshold ≤ k
      → TakesAtSnoop P G s (read_course c k) t y → TakesAtSnoop P G s (read_course c n) t y
  read-more s t c k n y some more ring start takes = by_running (is_running c.status.state) takes
    where
      enough : nat_le c.setup.params.start_threshold k ≡ true
      enough = grind (arith, nat_tests)

      still : nat_le c.setup.params.start_threshold n ≡ true
      still = grind (arith, nat_tests)

      by_running : (running : Bool)
          → TakesAtSnoop P G s (if running then reads_on c k else (if nat_le c.setup.params.start_threshold k then reads_first c k else ends (c, waits k))) t y
          → TakesAtSnoop P G s (if running then reads_on c n else (if nat_le c.setup.params.start_threshold n then reads_first c n else ends (c, waits n))) t y
      by_running true takes = reads_on-more s t c k n y some more ring takes
      by_running false takes =
          subst (λ (b : Bool). TakesAtSnoop P G s (if b then reads_first c n else ends (c, waits n)) t y) (sym still)
          (reads_first-more s t c k n y some more ring
          (subst (λ (b : Bool). TakesAtSnoop P G s (if b then reads_first c k else ends (c, waits k)) t y) enough takes))

  -- a read of n frames does what one of no more than `most_read` does
  pub read_course-fewer : (s t : S × T) (c : CaptureStream) (n k : ℕ) (y : Answered ℕ) → most_read c ≤ k
      → TakesAtSnoop P G s (if_admitted c call.Transfer (read_course c (min n k))) t y → TakesAtSnoop P G s (if_admitted c call.Transfer (read_course c n)) t y
  read_course-fewer s t c n k y most takes = by_refusal (refusal_of Capture c.status call.Transfer) takes
    where
      few_frames : (P.view s.0).geometry.frames ≤ k
      few_frames = let fits = (P.view s.0).geometry.frames_most in omega (arith, fits, most)

      starts_it : c.setup.params.start_threshold ≤ k
      starts_it = omega (arith, most)

      by_order : (few : Bool) → nat_le n k ≡ few → TakesAtSnoop P G s (read_course c (min n k)) t y → TakesAtSnoop P G s (read_course c n) t y
      by_order true is takes = subst (λ (j : ℕ). TakesAtSnoop P G s (read_course c j) t y) (min-eq_left (grind (arith, nat_tests))) takes
      by_order false is takes =
          let many : k ≤ n = grind (arith, nat_tests) in
          read-more s t c k n y (omega (arith, most)) many few_frames starts_it
          (subst (λ (j : ℕ). TakesAtSnoop P G s (read_course c j) t y) (min-eq_right many) takes)

      by_refusal : (refusal : Option PcmError) → TakesAtSnoop P G s (admitted_by refusal c (read_course c (min n k))) t y
          → TakesAtSnoop P G s (admitted_by refusal c (read_course c n)) t y
      by_refusal None takes = by_order (nat_le n k) refl takes
      by_refusal (Some e) takes = takes
