-- The progress that each call of a reader makes, by what it did at its port.
use Rattle.lab_readers.specs.Prelude.{ap, arith, Err, inl, inr, None, refl, Result, subst, suc, sym, zero, ℕ, ◌+◌, ◌∙◌, ◌≡◌, ◌≢◌, ◌≤◌, cases_eq, false≢true}
use Rattle.lab_readers.specs.Prelude.{nat_tests, Bool, false, IfSome, if◌then◌else◌, nat_le, Ok, Option, Some, true, unwrap_or, ⊤, ◌⊎◌, PcmError, Geometry}
use Rattle.lab_readers.specs.Prelude.{Call, Capture, refusal_of, SnoopView, GetsAtSnoop, TakesAtSnoop, Course, ends, gets, lays, loads, ◌>>=◌, CaptureStream}
use Rattle.lab_readers.specs.Prelude.{Answered, in_state, read_after, taken_of, waits, with_avail, admitted_by, counts, get_on, gets_frames, one_more}
use Rattle.lab_readers.specs.Prelude.{read_course, reads_first, reads_on, starts, syncs, transfer_on, transfers, count_of_answer, avail_of, is_running, Op}
use Rattle.lab_readers.specs.Prelude.{Answer, count_answer, done_answer, call_answer, call_of, got_by, Progress, asked_by}
use Rattle.mix_core.specs.declared.port.Position.{Position}
use Rattle.mix_core.specs.Port.{seen_after}
use Rattle.snoop_core.specs.declared.port.Got.{Got}
use Rattle.snoop_core.specs.declared.port.Got.TheVariants.{Whole, Overtaken, Stopped}
use Rattle.mix_core.specs.declared.gate.Gate as gates
use Rattle.snoop_core.specs.declared.port.SnoopPort as snoopport
use Rattle.pcm_states.specs.declared.calls.Call.TheVariants as call
use Rattle.pcm_states.specs.declared.states.State.TheVariants as state
use Rattle.lab_lines.specs.declared.line.Op.TheVariants as op

-- ---- courses

-- where a frame was got
abbrev IfWhole : Got → Type 0 → Type 0
IfWhole Whole A = A
IfWhole other A = ⊤

-- A course leads to a fact of its result and of what its port has seen then: a load raises the position seen, and no frame is got whole that is more than the
-- ring's length before it.
abbrev Leads : {X : Type 0} → (X → SnoopView → Type 0) → Course X → SnoopView → Type 0
Leads Q (ends x) v = Q x v
Leads Q (loads next) v = (load : Option Position) → IfSome load (λ (p : Position). v.seen ≤ p.frame) → Leads Q (next load) (record v { seen = seen_after load v.seen })
Leads Q (lays e next) v = ⊤
Leads Q (gets frame next) v = (got : Got) → IfWhole got (v.seen ≤ frame + v.geometry.frames) → Leads Q (next got) v

-- one course and then another
Leads-then : {X Y : Type 0} (R : X → SnoopView → Type 0) (Q : Y → SnoopView → Type 0) (m : Course X) (f : X → Course Y) (v : SnoopView) → Leads R m v
    → ((x : X) (w : SnoopView) → R x w → Leads Q (f x) w) → Leads Q (m >>= f) v
unfolding ◌>>=◌
Leads-then R Q (ends x) f v leads each = each x v leads
Leads-then R Q (loads next) f v leads each = λ load newer. Leads-then R Q (next load) f _ (leads load newer) each
Leads-then R Q (lays e next) f v leads each = tt
Leads-then R Q (gets frame next) f v leads each = λ got had. Leads-then R Q (next got) f v (leads got had) each

module _ {S T : Type 0} (P : snoopport.Ghosts S) (G : gates.Ghosts T) where
  had-whole : (s m : S × T) (frame : ℕ) (got : Got) → GetsAtSnoop P G s frame got m → IfWhole got ((P.view s.0).seen ≤ frame + (P.view s.0).geometry.frames)
  had-whole s m frame other step = grind (arith, nat_tests)

  -- a course that was taken ended with the fact
  Leads-taken : {X : Type 0} (Q : X → SnoopView → Type 0) (s t : S × T) (m : Course X) (x : X) → Leads Q m (P.view s.0) → TakesAtSnoop P G s m t x → Q x (P.view t.0)
  Leads-taken Q s t (ends z) x leads takes = rw (takes.there, takes.result) leads
  Leads-taken Q s t (loads next) x leads (load, m, step, rest) = Leads-taken Q m t (next load) x (subst (Leads Q (next load)) (sym step.view_is) (leads load step.newer)) rest
  Leads-taken Q s t (lays e next) x leads (ended, m, step, rest) = absurd step
  Leads-taken Q s t (gets frame next) x leads (got, m, step, rest) =
      Leads-taken Q m t (next got) x (subst (Leads Q (next got)) (sym step.1.view_is) (leads got (had-whole s m frame got step))) rest

-- ---- the state table

-- ---- a reader and its port, from their first state on

module _ (r : CaptureStream) (v : SnoopView) where
  -- no frame was got: where the reader runs, its next frame is the position seen, or it ran before and has the same next one
  record Went (d : CaptureStream) (w : SnoopView) : Type 0 where
    ring : w.geometry ≡ v.geometry
    rising : v.seen ≤ w.seen
    on : is_running d.status.state ≡ true → (d.next ≡ w.seen) ⊎ ((is_running r.status.state ≡ true) × (d.next ≡ r.next))

  Went-none : Went r v
  Went-none = record { ring = refl; rising = omega arith; on = λ is. inr (is, refl) }

  Went-progress : (d : CaptureStream) (w : SnoopView) → Went d w → Progress 0 r d v w
  Went-progress d w went = grind (arith, nat_tests)

  -- a reader that runs got frames from its next one on, of which the ring had the first
  Progress-some : (count : ℕ) (d : CaptureStream) (w : SnoopView) → w.geometry ≡ v.geometry → v.seen ≤ w.seen → is_running r.status.state ≡ true → d.next ≡ r.next + count
      → d.next ≤ w.seen → v.seen ≤ r.next + v.geometry.frames → Progress count r d v w
  Progress-some count d w ring rising running next below had = grind (arith, nat_tests)

  -- a sync of a reader that runs
  record Syncs (x : Answered (Unit {0})) (w : SnoopView) : Type 0 where
    went : Went x.0 w
    next : x.0.next ≡ r.next
    saw : (done : Unit {0}) → x.1 ≡ Ok done → w.seen ≡ unwrap_or x.0.seen 0

  syncs-leads : (Q : Answered (Unit {0}) → SnoopView → Type 0) (k : Call) → is_running r.status.state ≡ true → ((x : Answered (Unit {0})) (w : SnoopView) → Syncs x w → Q x w)
      → Leads Q (syncs r k) v
  unfolding syncs
  syncs-leads Q k running each is newer = grind (arith, nat_tests)

  -- a start; one for a read finds no frame at the position that it loaded
  starts-leads : Leads (λ (x : Answered (Unit {0})). Went x.0) (starts r call.Start) v
  unfolding starts
  starts-leads is newer = grind (arith, nat_tests)

  record Starts (x : Answered (Unit {0})) (w : SnoopView) : Type 0 where
    went : Went x.0 w
    none : (done : Unit {0}) → x.1 ≡ Ok done → (x.0.next ≡ w.seen) × (avail_of x.0 ≡ 0)

  reads-started : Leads Starts (starts r call.Transfer) v
  unfolding starts
  reads-started is newer = grind (arith, nat_tests)

-- ---- frames

-- what a read made of a reader after its load, by how many frames it got
record Reads (c d : CaptureStream) (got done : ℕ) : Type 0 where
  few : got ≤ done
  next : d.next ≡ c.next + got

reads-after : (c : CaptureStream) (n done : ℕ) (ended : Got) → Reads c (read_after c n done ended).0 (count_of_answer (read_after c n done ended).1) done
reads-after c n done ended = grind (arith, nat_tests)

-- some frames were got, from a first one on, which the ring had
record Gets (v : SnoopView) (count first : ℕ) (end : ℕ × Got) (w : SnoopView) : Type 0 where
  view_is : w ≡ v
  few : end.0 ≤ count
  had : end.0 ≢ 0 → v.seen ≤ first + v.geometry.frames

gets-next : (v : SnoopView) (count first : ℕ) → Leads (Gets v count (first + 1)) (gets_frames count (first + 1)) v → (got : Got) → IfWhole got (v.seen ≤ first + v.geometry.frames)
    → Leads (Gets v (suc count) first) (get_on got (gets_frames count (first + 1))) v
gets-next v count first more Whole had = Leads-then (Gets v count (first + 1)) (Gets v (suc count) first) (gets_frames count (first + 1)) (λ (end : ℕ × Got). ends (one_more end)) v more
    (λ end w got. let few = got.few in record { view_is = got.view_is; few = omega (arith, few); had = λ some. had })
gets-next v count first more (Overtaken channel word) had = record { view_is = refl; few = omega arith; had = λ some. absurd (some refl) }
gets-next v count first more Stopped had = record { view_is = refl; few = omega arith; had = λ some. absurd (some refl) }

gets-frames : (v : SnoopView) (count first : ℕ) → Leads (Gets v count first) (gets_frames count first) v
unfolding gets_frames
gets-frames v zero first = record { view_is = refl; few = omega arith; had = λ some. absurd (some refl) }
gets-frames v (suc count) first = gets-next v count first (gets-frames v count (first + 1))

-- ---- calls

module _ (r : CaptureStream) (v : SnoopView) where
  -- a read made progress by the frames that it counts, of n frames at most
  record Makes (n : ℕ) (y : Answered ℕ) (w : SnoopView) : Type 0 where
    progress : Progress (count_of_answer y.1) r y.0 v w
    few : count_of_answer y.1 ≤ n

  Makes-none : (n : ℕ) (y : Answered ℕ) (w : SnoopView) → count_of_answer y.1 ≡ 0 → Went r v y.0 w → Makes n y w
  Makes-none n y w none went = record { progress = subst (λ (k : ℕ). Progress k r y.0 v w) (sym none) (Went-progress r v y.0 w went); few = omega (arith, none) }

  -- the frames of a read of a reader that runs
  transfers-on : (u : SnoopView) (c : CaptureStream) (done : Unit {0}) (n : ℕ) → is_running r.status.state ≡ true → Syncs r v (c, Ok done) u → Leads (Makes n) (transfers c n) u
  unfolding transfers
  transfers-on u c done n running did = Leads-then (Gets u (taken_of c n) c.next) (Makes n) (gets_frames (taken_of c n) c.next) (λ (end : ℕ × Got). ends (read_after c n end.0 end.1)) u
      (gets-frames u (taken_of c n) c.next) by_frames
    where
      by_frames : (end : ℕ × Got) (w : SnoopView) → Gets u (taken_of c n) c.next end w → Makes n (read_after c n end.0 end.1) w
      by_frames end w are =
          let y = read_after c n end.0 end.1 in
          let reads = reads-after c n end.0 end.1 in
          let all = are.few in
          let few = reads.few in
          let rising = did.went.rising in
          let seen : w.seen ≡ u.seen = ap (λ (x : SnoopView). x.seen) are.view_is in
          let saw = did.saw done refl in
          let next = did.next in
          let after = reads.next in
          let frames : u.geometry.frames ≡ v.geometry.frames = ap (λ (g : Geometry). g.frames) did.went.ring in
          let ring : w.geometry ≡ v.geometry = ap (λ (x : SnoopView). x.geometry) are.view_is ∙ did.went.ring in
          elim (cases_eq (count_of_answer y.1) 0) [
            | inl none ↦ Makes-none n y w none (record { ring = ring; rising = omega (arith, rising, seen); on = λ is. inr (running, omega (arith, after, next, none)) })
            | inr some ↦
                let had = are.had (λ none. some (omega (arith, none, few))) in
                record {
                  progress = Progress-some r v (count_of_answer y.1) y.0 w ring (omega (arith, rising, seen)) running (omega (arith, after, next)) (omega (arith, after, few, all, some, saw, seen))
                      (omega (arith, rising, had, next, frames));
                  few = omega (arith, few, all);
                }
          ]

  reads-on : (n : ℕ) → is_running r.status.state ≡ true → Leads (Makes n) (reads_on r n) v
  unfolding reads_on
  reads-on n running = Leads-then (Syncs r v) (Makes n) (syncs r call.Transfer) (transfer_on n) v (syncs-leads r v (Syncs r v) call.Transfer running (λ x w did. did)) by_sync
    where
      by_sync : (x : Answered (Unit {0})) (u : SnoopView) → Syncs r v x u → Leads (Makes n) (transfer_on n x) u
      by_sync (c, Ok done) u did = transfers-on u c done n running did
      by_sync (c, Err e) u did = Makes-none n (c, Err e) u refl did.went

  reads-first : (n : ℕ) → Leads (Makes n) (reads_first r n) v
  unfolding reads_first transfers
  reads-first n = Leads-then (Starts r v) (Makes n) (starts r call.Transfer) (transfer_on n) v (reads-started r v) by_start
    where
      by_frames : (u : SnoopView) (c : CaptureStream) (done : Unit {0}) → Starts r v (c, Ok done) u → (end : ℕ × Got) (w : SnoopView) → Gets u (taken_of c n) c.next end w → Makes n (read_after c n end.0 end.1) w
      by_frames u c done did end w are =
          let y = read_after c n end.0 end.1 in
          let reads = reads-after c n end.0 end.1 in
          let all = are.few in
          let few = reads.few in
          let after = reads.next in
          let at = did.none done refl in
          let here = at.0 in
          let empty = at.1 in
          let rising = did.went.rising in
          let seen : w.seen ≡ u.seen = ap (λ (x : SnoopView). x.seen) are.view_is in
          let none : count_of_answer y.1 ≡ 0 = omega (arith, few, all, empty) in
          Makes-none n y w none (record {
            ring = ap (λ (x : SnoopView). x.geometry) are.view_is ∙ did.went.ring;
            rising = omega (arith, rising, seen);
            on = λ is. inl (omega (arith, after, none, here, seen));
          })

      by_start : (x : Answered (Unit {0})) (u : SnoopView) → Starts r v x u → Leads (Makes n) (transfer_on n x) u
      by_start (c, Ok done) u did = Leads-then (Gets u (taken_of c n) c.next) (Makes n) (gets_frames (taken_of c n) c.next) (λ (end : ℕ × Got). ends (read_after c n end.0 end.1)) u
          (gets-frames u (taken_of c n) c.next) (by_frames u c done did)
      by_start (c, Err e) u did = Makes-none n (c, Err e) u refl did.went

  counted-waits : (n : ℕ) → count_of_answer (waits n) ≡ 0
  counted-waits n = grind (arith, nat_tests)

  reads-course : (n : ℕ) → Leads (Makes n) (read_course r n) v
  reads-course n = by_running (is_running r.status.state) (nat_le r.setup.params.start_threshold n) refl
    where
      by_running : (running enough : Bool) → is_running r.status.state ≡ running
          → Leads (Makes n) (if running then reads_on r n else (if enough then reads_first r n else ends (r, waits n))) v
      by_running true enough is = reads-on n is
      by_running false true is = reads-first n
      by_running false false is = Makes-none n (r, waits n) v (counted-waits n) (Went-none r v)

  -- a call that is refused, or does what it is for
  admitted-leads : {X : Type 0} (Q : Answered X → SnoopView → Type 0) (refusal : Option PcmError) (m : Course (Answered X)) → ((e : PcmError) → Q (r, Err e) v) → Leads Q m v
      → Leads Q (admitted_by refusal r m) v
  admitted-leads Q None m refused leads = leads
  admitted-leads Q (Some e) m refused leads = refused e

  -- a sync, or what goes on after one, of a reader that runs
  syncs-course : {X : Type 0} (m : Course (Answered X)) (x : X) → (is_running r.status.state ≡ true → Leads (λ (y : Answered X). Went r v y.0) m v)
      → Leads (λ (y : Answered X). Went r v y.0) (if is_running r.status.state then m else ends (r, Ok x)) v
  syncs-course {X = X} m x leads = by_running (is_running r.status.state) refl
    where
      by_running : (running : Bool) → is_running r.status.state ≡ running → Leads (λ (y : Answered X). Went r v y.0) (if running then m else ends (r, Ok x)) v
      by_running true is = leads is
      by_running false is = Went-none r v

  counts-leads : is_running r.status.state ≡ true → Leads (λ (y : Answered ℕ). Went r v y.0) (counts (syncs r call.Sync)) v
  unfolding counts
  counts-leads running = Leads-then (Syncs r v) (λ (y : Answered ℕ). Went r v y.0) (syncs r call.Sync) (λ (done : Answered (Unit {0})). ends (with_avail done)) v
      (syncs-leads r v (Syncs r v) call.Sync running (λ x w did. did)) by_answer
    where
      by_answer : (x : Answered (Unit {0})) (w : SnoopView) → Syncs r v x w → Went r v (with_avail x).0 w
      by_answer (c, Ok done) w did = did.went
      by_answer (c, Err e) w did = did.went

  -- a line made progress by the frames that its row counts, which are no more than it asks for
  pub record Made (asked : Op) (z : CaptureStream × Answer) (w : SnoopView) : Type 0 where
    pub progress : Progress (got_by asked z.1) r z.0 v w
    pub few : got_by asked z.1 ≤ asked_by asked

  -- of one that got none
  Made-none : {X : Type 0} (asked : Op) (answer : Result X PcmError → Answer) (what : Call) (m : Course (Answered X)) → ((a : Answer) → got_by asked a ≡ 0)
      → Leads (λ (y : Answered X). Went r v y.0) m v → Leads (Made asked) (call_answer answer (admitted_by (refusal_of Capture r.status what) r m)) v
  Made-none {X = X} asked answer what m none leads =
      Leads-then (λ (y : Answered X). Went r v y.0) (Made asked) (admitted_by (refusal_of Capture r.status what) r m) (λ (done : Answered X). ends (done.0, answer done.1)) v
      (admitted-leads (λ (y : Answered X). Went r v y.0) (refusal_of Capture r.status what) m (λ e. Went-none r v) leads)
      (λ y w went. record {
        progress = subst (λ (k : ℕ). Progress k r y.0 v w) (sym (none (answer y.1))) (Went-progress r v y.0 w went);
        few = (let got = none (answer y.1) in omega (arith, got));
      })

  call-leads : (asked : Op) → Leads (Made asked) (call_of r asked) v
  call-leads (op.Read n) =
      Leads-then (Makes n) (Made (op.Read n)) (admitted_by (refusal_of Capture r.status call.Transfer) r (read_course r n)) (λ (done : Answered ℕ). ends (done.0, count_answer done.1)) v
      (admitted-leads (Makes n) (refusal_of Capture r.status call.Transfer) (read_course r n) (λ e. Makes-none n (r, Err e) v refl (Went-none r v)) (reads-course n)) by_answer
    where
      by_answer : (y : Answered ℕ) (w : SnoopView) → Makes n y w → Made (op.Read n) (y.0, count_answer y.1) w
      by_answer (c, Ok count) w makes = record { progress = makes.progress; few = makes.few }
      by_answer (c, Err e) w makes = record { progress = makes.progress; few = makes.few }
  call-leads op.Start = Made-none op.Start done_answer call.Start (starts r call.Start) (λ a. refl) (starts-leads r v)
  call-leads op.Sync = Made-none op.Sync done_answer call.Sync _ (λ a. refl)
      (syncs-course (syncs r call.Sync) tt (λ running. syncs-leads r v (λ (y : Answered (Unit {0})). Went r v y.0) call.Sync running (λ x w did. did.went)))
  call-leads op.Avail = Made-none op.Avail count_answer call.Sync _ (λ a. refl) (syncs-course (counts (syncs r call.Sync)) 0 counts-leads)
  call-leads op.Drop = Made-none op.Drop done_answer call.Drop (ends (in_state r state.Setup, Ok tt)) (λ a. refl) (record { ring = refl; rising = omega arith; on = λ is. absurd (false≢true is) })
  call-leads op.Prepare = Made-none op.Prepare done_answer call.Prepare (ends (in_state r state.Prepared, Ok tt)) (λ a. refl)
      (record { ring = refl; rising = omega arith; on = λ is. absurd (false≢true is) })
  call-leads other = record { progress = Went-progress r v r v (Went-none r v); few = omega arith }

pub Progress-same : (r : CaptureStream) (v : SnoopView) → Progress 0 r r v v
Progress-same r v = Went-progress r v r v (Went-none r v)

-- The call that a line names makes progress by the frames that its row counts, which are no more than it asks for.
pub call-makes : {S T : Type 0} (P : snoopport.Ghosts S) (G : gates.Ghosts T) (s t : S × T) (r d : CaptureStream) (asked : Op) (answer : Answer)
    → TakesAtSnoop P G s (call_of r asked) t (d, answer) → Made r (P.view s.0) asked (d, answer) (P.view t.0)
call-makes P G s t r d asked answer takes = Leads-taken P G (Made r (P.view s.0) asked) s t (call_of r asked) (d, answer) (call-leads r (P.view s.0) asked) takes
