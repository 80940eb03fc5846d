-- Each call of a client goes on after what was placed before.
use Rattle.run_laws.specs.Prelude.{arith, inl, inr, refl, Some, subst, sym, ℕ, [], ◌+◌, ◌-◌, ◌∙◌, ◌≡◌, ◌≤◌, false≢true, nat_tests, Bool, Contains, Err, false}
use Rattle.run_laws.specs.Prelude.{if◌then◌else◌, max, min, nat_eq, not, Ok, true, ⊤, ◌&&◌, Cursor, Call, State, Draining, Paused, Running, next_of, Playback}
use Rattle.run_laws.specs.Prelude.{is_moving, nothing_found, Marks, Course, ends, Commit, PlaybackStream, accepted_if, after_prepare, after_resume, Answered}
use Rattle.run_laws.specs.Prelude.{committed_by, in_draining, in_state, is_paused, is_prepared, is_running, pending_of, start_count, stopped_in, with_new_base}
use Rattle.run_laws.specs.Prelude.{with_number, with_outcome, written_after, drain_on, drains, if_admitted, nothing, pause_course, resumes, syncs, takes_more}
use Rattle.run_laws.specs.Prelude.{write_on, IsFrameStep, after_rewind, back_of, checks, rewind_on, rewindable_of, taken_back, takes_back, ring_sample}
use Rattle.run_laws.specs.Prelude.{count_with, ring_with, Sound, Op, call_answer, call_of, done_answer, Rules, call_of-says, done_answer-says, empty-still}
use Rattle.run_laws.specs.Prelude.{if_admitted-says, is_new_stretch, Parts, running-moves, running-transfers, start-unprepared, step-moves}
use Rattle.pcm_states.specs.declared.states.State.TheVariants.{Setup}
use Rattle.dmix_client.specs.Calls.{taken_of}
use Rattle.run_laws.proofs.Onward.{Begun, Channels, OnwardAfter, Leads, Onward, Reached, Started, StretchLies, Unprepared, Waits, begins-lead, begun, commits-lead, earlier-lies, end_of, loads-lead, marks_of, moving-begun, reached, starts-go, after_sync-goes, syncs-go, waits-anew}
use Rattle.run_laws.proofs.Withdrawn.{below-sum, frames-back}
use Rattle.run_laws.proofs.Yields.{Yields, Yields-ends, Yields-map, Yields-then, yields-so}
use Rattle.pcm_states.specs.declared.calls.Call.TheVariants as call
use Rattle.lab_lines.specs.declared.line.Op.TheVariants as op

-- a client isn't paused any more
abbrev pub is_resumed : PlaybackStream → PlaybackStream → Bool
is_resumed c d = is_paused c.status.state && not (is_paused d.status.state)

never-resumed : (paused : Bool) → (paused && not paused) ≡ true → ⊥
never-resumed true is = false≢true is
never-resumed false is = false≢true is

module _ (rules : Rules) (p : ℕ) (least : (q : ℕ) → Contains rules.published q → p ≤ q) (x y : ℕ) where
  prepared-waits : (m : Marks) (c : PlaybackStream) → is_prepared c.status.state ≡ true → Onward p x y m c → Waits p x y m c
  prepared-waits m c prepared (inl is) = absurd (false≢true (sym is.unprepared ∙ prepared))
  prepared-waits m c prepared (inr is) = is

  -- in another state that is neither prepared nor moving
  in-state : (state : State) (m : Marks) (c : PlaybackStream) → Unprepared state → is_moving state ≡ false → Onward p x y m c → Onward p x y m (in_state c state)
  in-state state m c unprepared still (inl is) = inl (record { unprepared = unprepared; lies = is.lies })
  in-state state m c unprepared still (inr is) = inr (record { bound = is.bound; still = still; none = is.none; no_part = is.no_part; reached = is.reached })

  number-goes : (number : PlaybackStream → ℕ) (m : Marks) (done : Answered (Unit {0})) → OnwardAfter p x y m done → OnwardAfter p x y m (with_number number done)
  number-goes number m (c, Ok done) goes = goes
  number-goes number m (c, Err e) goes = goes

  accepted-goes : (n : ℕ) (m : Marks) (done : Answered (Unit {0})) → OnwardAfter p x y m done → OnwardAfter p x y m (accepted_if n done)
  accepted-goes n m (c, Ok done) goes = goes
  accepted-goes n m (c, Err e) goes = goes

  syncs-goes : (c : PlaybackStream) (asked : Call) (m : Marks) → IsFrameStep c.status.state asked → Begun p x y m c → Leads rules (OnwardAfter p x y) m (syncs c asked [])
  syncs-goes c asked m step is = Yields-map (syncs-go rules p least x y c asked [] m step is) (λ n done begun. inl begun)

  -- a write
  written-begun : (c : PlaybackStream) (n : ℕ) (commit : Commit) (m : Marks) → Unprepared c.status.state
      → StretchLies p x y c (max (end_of c) (end_of (committed_by c commit))) m → OnwardAfter p x y m (written_after c n commit)
  written-begun c n commit m unprepared lies = grind (arith, nat_tests)

  write_on-goes : (n : ℕ) (m : Marks) (done : Answered (Unit {0})) → Begun p x y m done.0 → Leads rules (OnwardAfter p x y) m (write_on [] [] n done)
  unfolding takes_more
  write_on-goes n m (c, Err e) is = Yields-ends (inl is)
  write_on-goes n m (c, Ok done) is =
      Yields-then (commits-lead rules p least x y c (ring_with c [] [] (taken_of c n)) (count_with c (taken_of c n)) m is.lies)
      (λ k commit lies. Yields-ends (written-begun c n commit k is.unprepared lies))

  -- a drain
  drain_on-goes : (m : Marks) (done : Answered (Unit {0})) → Started rules p least x y Draining m done → Leads rules (OnwardAfter p x y) m (drain_on [] done)
  drain_on-goes m (c, Err e) (is, drains) = Yields-ends is
  drain_on-goes m (c, Ok done) (is, drains) = syncs-goes c call.Drain m (subst (λ s. IsFrameStep s call.Drain) (sym drains) tt)
      (moving-begun p x y m c (subst (λ s. is_moving s ≡ true) (sym drains) refl) is)

  -- ---- a resume

  resume-leads : {Q : Marks → Answered (Unit {0}) → Type 0} (c : PlaybackStream) (m : Marks) → Waits p x y m (with_new_base c) → Q m (stopped_in c)
      → ((n : Marks) (done : Answered (Unit {0})) → OnwardAfter p x y n done → Q n done) → Leads rules Q m (pause_course false c [] m.cursor)
  unfolding resumes
  resume-leads {Q = Q} c m waits stop on = by_none (nat_eq (pending_of c) 0)
    where
      by_none : (none : Bool) → Leads rules Q m (if none then ends (with_new_base c, Ok tt) else resumes c m.cursor [])
      by_none true = Yields-ends (on m (with_new_base c, Ok tt) (inr waits))
      by_none false = begins-lead rules p least x y (with_new_base c) Running (λ position. start_count (with_new_base c) m.cursor position (pending_of c)) []
          (after_resume c m.cursor) m refl waits stop (λ position commit n started. on n (after_resume c m.cursor (Some position) commit) started.0)

  -- ---- a rewind

  checks-go : (c : PlaybackStream) (m : Marks) → is_running c.status.state ≡ true → Begun p x y m c → Leads rules (λ n done. Begun p x y n done.0) m (checks c)
  unfolding checks
  checks-go c m runs is = loads-lead p least (Yields-ends is) (λ position far. Yields-ends
      (after_sync-goes rules p least x y c call.Transfer position nothing m is.unprepared (running-transfers c.status.state runs) (earlier-lies is.lies (omega arith))))

  rewound-goes : (c : PlaybackStream) (n : ℕ) (left : Commit) (m : Marks) → Unprepared c.status.state → StretchLies p x y c (end_of (taken_back c n left)) m
      → OnwardAfter p x y m (after_rewind c n left)
  rewound-goes c n left m unprepared lies = grind (arith, nat_tests)

  takes_back-goes : (c : PlaybackStream) (n : ℕ) (m : Marks) → back_of c n ≤ c.stretch.committed → Begun p x y m c → Leads rules (OnwardAfter p x y) m (takes_back c [] n)
  unfolding takes_back
  takes_back-goes c n m within is =
      Yields-then (frames-back rules p x y c.setup.bindings c.stretch.card c.identity.member (ring_sample c []) (c.stretch.committed - back_of c n) (back_of c n) m
      (earlier-lies is.lies (all (begun c.stretch.part) (back_of c n) within)))
      (λ k left lies. Yields-ends (rewound-goes c n left k is.unprepared lies))
    where
      all : (part back : ℕ) → back ≤ c.stretch.committed → c.stretch.card + (c.stretch.committed - back + back) ≤ c.stretch.card + c.stretch.committed + part
      all part back few = omega (arith, few)

  rewind_on-goes : (floor : Cursor) (n : ℕ) (m : Marks) (done : Answered (Unit {0})) → Begun p x y m done.0 → Leads rules (OnwardAfter p x y) m (rewind_on floor [] n done)
  rewind_on-goes floor n m (c, Err e) is = Yields-ends (inl is)
  rewind_on-goes floor n m (c, Ok done) is = takes_back-goes c (min n (rewindable_of floor c)) m (below-sum n (pending_of c) c.stretch.committed _) is

  -- ---- the calls of lines

  parts-go : (m : Marks) (c : PlaybackStream) → Onward p x y m c
      → Parts (Yields rules marks_of) (λ n. ⊤) m c m (λ n done. Begun p x y n done.0) (λ state more. Started rules p least x y state) (OnwardAfter p x y) (OnwardAfter p x y)
  parts-go m c is = record {
    same = is;
    counted = λ n. is;
    refused = λ e. is;
    not_counted = λ e. is;
    looks = λ asked going step. syncs-go rules p least x y c asked [] m step (moving-begun p x y m c (step-moves c.status.state asked step) is);
    looked = λ n done begun. inl begun;
    numbered = λ number n done begun. number-goes number n done (inl begun);
    drained = λ going moves. syncs-goes (in_draining c) call.Drain m tt (record { unprepared = refl; lies = (moving-begun p x y m c moves is).lies });
    starts_to = λ state upto more ring start prepared most few. starts-go rules p least x y c state upto ring m (start-unprepared state start) (prepared-waits m c prepared is);
    started = λ n done started. started.0;
    drains_on = λ n done started. drain_on-goes n done started;
    empty = λ prepared. empty-goes prepared (prepared-waits m c prepared is);
    few_none = tt;
    few_taken = λ n few. tt;
    writes_more = λ n k done few begun. write_on-goes n k done begun;
    accepted = λ n k done few started. accepted-goes (taken_of c n) k done started.0;
    stored = λ n few prepared. is;
    checked = λ going runs. checks-go c m runs (moving-begun p x y m c (running-moves c.status.state runs) is);
    rewinds_on = λ n k done begun. rewind_on-goes m.floor n k done begun;
    fewer = λ n prepared most. is;
    dropped = in-state Setup m c refl refl is;
    paused = in-state Paused m c refl refl is;
  }
    where
      empty-goes : is_prepared c.status.state ≡ true → Waits p x y m c
          → OnwardAfter p x y m (with_outcome c (next_of c.status.state call.Start (record (nothing_found Playback) { queued = 0 })))
      empty-goes prepared waits =
          inr (record { bound = waits.bound; still = empty-still c.status.state prepared; none = waits.none; no_part = waits.no_part; reached = waits.reached })

  -- a call that begins a new stretch
  anew-goes : (Q : Marks → PlaybackStream → Type 0) (c : PlaybackStream) (asked : Call) (course : Course (Answered (Unit {0}))) (m : Marks) → Q m c
      → Leads rules (λ n done. Q n done.0) m course → Leads rules (λ n done. Q n done.0) m (call_answer done_answer (if_admitted c asked course))
  anew-goes Q c asked course m is leads = done_answer-says (Yields rules marks_of) (yields-so rules marks_of) c m (λ n done. Q n done.0) (λ n done. Q n done.0)
      (if_admitted c asked course) (λ n done so. so)
      (if_admitted-says (Yields rules marks_of) (yields-so rules marks_of) c m (λ n done. Q n done.0) asked course (λ e. is) (λ admits. leads))

  same-goes : (wav : Sound) (c : PlaybackStream) (asked : Op) (m : Marks) → is_new_stretch asked ≡ false → Onward p x y m c
      → Leads rules (OnwardAfter p x y) m (call_of wav m c asked)
  same-goes wav c asked m not is = call_of-says (Yields rules marks_of) (yields-so rules marks_of) c m (parts-go m c is) (OnwardAfter p x y) (λ n done goes. goes) (λ n done goes. goes) is
      wav (λ n. tt) asked not

  pub call-goes : (wav : Sound) (c : PlaybackStream) (asked : Op) (m : Marks) → Onward p x y m c → Leads rules (OnwardAfter p x y) m (call_of wav m c asked)
  call-goes wav c op.Prepare m is = anew-goes (Onward p x y) c call.Prepare (ends (after_prepare c, Ok tt)) m is (Yields-ends (inr (waits-anew (reached p x y m c is))))
  call-goes wav c op.Resume m is = anew-goes (Onward p x y) c call.Resume _ m is (resume-leads c m (waits-anew (reached p x y m c is)) is (λ n done goes. goes))
  call-goes wav c asked m is = same-goes wav c asked m refl is

  -- a resume that leaves a client unpaused goes on past each frame that the marks reach
  pub resume-past : (wav : Sound) (c : PlaybackStream) (m : Marks) → Channels c.setup.bindings × Reached p x y m
      → Leads rules (λ n done. is_resumed c done.0 ≡ true → Onward p x y n done.0) m (call_of wav m c op.Resume)
  resume-past wav c m at = anew-goes (λ n d. is_resumed c d ≡ true → Onward p x y n d) c call.Resume _ m (λ over. absurd (never-resumed (is_paused c.status.state) over))
      (resume-leads c m (waits-anew at) (λ over. absurd (never-resumed (is_paused c.status.state) over)) (λ n done goes over. goes))
