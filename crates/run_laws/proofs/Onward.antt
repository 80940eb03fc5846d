-- Where a client's frames go on: what its calls place is past what was placed before.
use Rattle.run_laws.specs.Prelude.{ap, arith, inl, inr, length, List, None, Option, refl, Some, sym, ℕ, [], ◌+◌, ◌<◌, ◌∙◌, ◌∷◌, ◌≡◌, ◌≤◌, ◌⊎◌, le_trans}
use Rattle.run_laws.specs.Prelude.{false≢true, nat_tests, Bool, Contains, false, IfOk, if◌then◌else◌, max, nat_eq, slice_index, suc, true, zero, ℤ, Geometry}
use Rattle.run_laws.specs.Prelude.{Cursor, cursor_after, first_free, rising, Call, Facts, State, Prepared, Running, next_of, is_moving, Marks, Ended, Entry}
use Rattle.run_laws.specs.Prelude.{Position, an_add, marks_after, later_of, Course, ends, lays, loads, ◌>>=◌, Commit, PlaybackStream, after_start, after_sync}
use Rattle.run_laws.specs.Prelude.{Answered, committed_by, is_prepared, start_count, start_frame, started_in, sync_count, commits, go_on, lay_each, lay_frames}
use Rattle.run_laws.specs.Prelude.{looks, nothing, one_more, syncs, IsFrameStep, ring_sample, AtPort, May, Rules, with_stop}
use Rattle.mix_core.specs.Port.{OnWhole}
use Rattle.dmix_client.specs.Course.{starts}
use Rattle.run_laws.proofs.Yields.{Yields, Yields-ends, Yields-then}
use Rattle.mix_core.specs.declared.port.Ended.TheVariants as ended

-- ---- marks

-- the first whole frame that a member with these marks has not begun, from its cursor on, and from its high on
abbrev pub free_frame : Marks → ℕ
free_frame m = first_free m.cursor 0

abbrev pub high_end : Marks → ℕ
high_end m = first_free m.high 0

behind-free : (g : Geometry) (f c : ℕ) → first_free (cursor_after g f c) 0 ≡ f + 1
behind-free g f c = grind (arith, nat_tests)

later-free : (a b : Cursor) → (first_free a 0 ≤ first_free (later_of a b) 0) × (first_free b 0 ≤ first_free (later_of a b) 0)
later-free a b = (grind (arith, nat_tests), grind (arith, nat_tests))

-- ---- what may be said of marks while a stretch is placed from a frame of the card on

-- bindings of at least one channel, each of which has its place in the order of the card
pub record Channels (bindings : List ℕ) : Type 0 where
  pub some : 0 < length bindings
  pub whole : length (rising bindings) ≡ length bindings

pub channels-rise : (bindings : List ℕ) → Channels bindings → 0 < length (rising bindings)
channels-rise bindings are = rw are.whole are.some

-- x is reached by the position p or by the cursor, and y by the high
pub record Reached (p x y : ℕ) (m : Marks) : Type 0 where
  pub low : x ≤ max p (free_frame m)
  pub top : free_frame m ≤ high_end m
  pub high : y ≤ high_end m

-- and what is placed of the stretch, which begins past x, ends at e
pub record Lies (p x y : ℕ) (bindings : List ℕ) (card e : ℕ) (m : Marks) : Type 0 where
  pub bound : Channels bindings
  pub past : x ≤ card
  pub reached : Reached p x y m
  pub end : e ≤ max (free_frame m) card

pub max-least : (a b c : ℕ) → a ≤ b → a ≤ max c b
max-least a b c least = omega (arith, least)

max-first : (a b c : ℕ) → a ≤ b → a ≤ max b c
max-first a b c least = omega (arith, least)

-- with an earlier end
pub earlier-lies : {p x y card e d : ℕ} {bindings : List ℕ} {m : Marks} → Lies p x y bindings card e m → d ≤ e → Lies p x y bindings card d m
earlier-lies lies less = record { bound = lies.bound; past = lies.past; reached = lies.reached; end = le_trans less lies.end }

-- after an add at a frame that isn't before the stretch
added-lies : {p x y card e : ℕ} {bindings : List ℕ} {m : Marks} (g : Geometry) (frame member channel : ℕ) (sample : ℤ) → card ≤ frame → Lies p x y bindings card e m
    → Lies p x y bindings card (frame + 1) (marks_after g m (an_add member frame channel sample))
added-lies {p = p} {x = x} {y = y} {card = card} {m = m} g frame member channel sample after lies = record {
  bound = lies.bound;
  past = lies.past;
  reached = record {
    low = max-least x (free_frame n) p (rw is (omega (arith, lies.past, after)));
    top = (later-free m.high (cursor_after g frame channel)).1;
    high = le_trans lies.reached.high (later-free m.high (cursor_after g frame channel)).0;
  };
  end = max-first (frame + 1) (free_frame n) card (rw is (omega arith));
}
  where
    n : Marks
    n = marks_after g m (an_add member frame channel sample)

    is : free_frame n ≡ frame + 1
    is = behind-free g frame channel

-- ---- courses with the marks of the port

abbrev pub marks_of : AtPort → Marks
marks_of a = a.marks

-- whatever the steps of a course give, its result and the marks after it have a fact
abbrev pub Leads : {X : Type 0} → Rules → (Marks → X → Type 0) → Marks → Course X → Type 0
Leads {X = X} rules Q m course = Yields rules marks_of X Q m course

stop-marks : (a : AtPort) → (with_stop a).marks ≡ a.marks
stop-marks a = grind (arith, nat_tests)

-- a load moves no marks, and gives no position before p where the card publishes none
pub loads-lead : {rules : Rules} {X : Type 0} {Q : Marks → X → Type 0} {m : Marks} {next : Option Position → Course X} (p : ℕ) → ((q : ℕ) → Contains rules.published q → p ≤ q)
    → Leads rules Q m (next None) → ((position : Position) → p ≤ position.frame → Leads rules Q m (next (Some position))) → Leads rules Q m (loads next)
loads-lead {rules = rules} {X = X} {Q = Q} {m = m} {next = next} p least none some = record { by = steps }
  where
    steps : (a b : AtPort) (x : X) → a.marks ≡ m → May rules a (loads next) b x → Q b.marks x
    steps a b x at (None, k, step, rest) = none.by k b x (ap (λ (z : AtPort). z.marks) step ∙ stop-marks a ∙ at) rest
    steps a b x at (Some position, k, step, rest) = (some position (least position.frame step.1)).by k b x (ap (λ (z : AtPort). z.marks) step.4 ∙ at) rest

-- no step but an entry that is placed moves the marks
pub lays-lead : {rules : Rules} {X : Type 0} {Q : Marks → X → Type 0} {m : Marks} {e : Entry} {next : Ended → Course X}
    → Leads rules Q (marks_after rules.at.ring m e) (next ended.Whole) → ((word : ℕ) → Leads rules Q m (next (ended.Late word))) → Leads rules Q m (next ended.Stopped)
    → Leads rules Q m (lays e next)
lays-lead {rules = rules} {X = X} {Q = Q} {m = m} {e = e} {next = next} whole late stopped = record { by = steps }
  where
    steps : (a b : AtPort) (x : X) → a.marks ≡ m → May rules a (lays e next) b x → Q b.marks x
    steps a b x at is = grind (arith, nat_tests)

-- ---- a commit

-- a frame that is begun counts as one
abbrev pub begun : ℕ → ℕ
begun part = if nat_eq part 0 then 0 else 1

pub begun-most : (part : ℕ) → begun part ≤ 1
begun-most part = grind (arith, nat_tests)

pub begun-some : (part : ℕ) → 0 < part → begun part ≡ 1
begun-some part some = grind (arith, nat_tests, some)

on-whole : {P : Type 0} (end : Ended) → P → OnWhole end P
on-whole end is = grind (arith, nat_tests)

module _ (rules : Rules) (p x y : ℕ) (bindings : List ℕ) (card : ℕ) where
  abbrev LiesTo : ℕ → Marks → Type 0
  LiesTo e m = Lies p x y bindings card e m

  -- some samples of a frame, of so many, after what ends at e
  abbrev FrameEnd : ℕ → ℕ → ℕ → Marks → ℕ × Ended → Type 0
  FrameEnd e frame count n end = LiesTo (max e (frame + begun end.0)) n × OnWhole end.1 (LiesTo (max e (frame + begun count)) n)

  frame-leads : (member frame : ℕ) (sample_of : ℕ → ℤ) (qs : List ℕ) (e : ℕ) (m : Marks) → card ≤ frame → frame ≤ e → e ≤ frame + 1 → LiesTo e m
      → Leads rules (FrameEnd e frame (length qs)) m (lay_each member frame bindings sample_of qs)
  unfolding lay_each
  frame-leads member frame sample_of [] e m after least most lies = Yields-ends (earlier-lies lies (omega (arith, least)), earlier-lies lies (omega (arith, least)))
  frame-leads member frame sample_of (q ∷ qs) e m after least most lies = lays-lead
      (Yields-then (frame-leads member frame sample_of qs (frame + 1) _ after (omega arith) (omega arith)
      (added-lies rules.at.ring frame member (slice_index bindings q) (sample_of q) after lies)) (λ n end is. Yields-ends (more n end is.0)))
      (λ word. Yields-ends (none, tt)) (Yields-ends (none, tt))
    where
      none : LiesTo (max e (frame + begun 0)) m
      none = earlier-lies lies (omega (arith, least))

      more : (n : Marks) (end : ℕ × Ended) → LiesTo (max (frame + 1) (frame + begun end.0)) n → FrameEnd e frame (suc (length qs)) n (one_more end)
      more n (done, end) is = (earlier-lies is (omega (arith, most, begun-most (done + 1))), on-whole end (earlier-lies is (omega (arith, most, begun-most (suc (length qs))))))

  -- some frames, from a first one on, after what ends at z
  abbrev CommitEnd : ℕ → ℕ → Marks → Commit → Type 0
  CommitEnd z first n commit = LiesTo (max z (card + (first + commit.frames) + begun commit.part)) n

  frames-lead : (member : ℕ) (samples : ℕ → ℕ → ℤ) (z count first : ℕ) (m : Marks) → z ≤ card + first + 1 → LiesTo (max z (card + first)) m
      → Leads rules (CommitEnd z first) m (lay_frames member card bindings samples count first)
  unfolding lay_frames
  frames-lead member samples z zero first m kept lies = Yields-ends (earlier-lies lies (omega arith))
  frames-lead member samples z (suc count) first m kept lies =
      Yields-then (frame-leads member (card + first) (samples first) (rising bindings) (max z (card + first)) m (omega arith) (omega arith) (omega (arith, kept)) lies)
      (on (λ n next. frames-lead member samples z count (first + 1) n (omega (arith, kept)) next))
    where
      on : ((n : Marks) → LiesTo (max z (card + (first + 1))) n → Leads rules (CommitEnd z (first + 1)) n (lay_frames member card bindings samples count (first + 1)))
          → (n : Marks) (end : ℕ × Ended) → FrameEnd (max z (card + first)) (card + first) (length (rising bindings)) n end
          → Leads rules (CommitEnd z first) n (go_on end (lay_frames member card bindings samples count (first + 1)))
      on rest n (done, ended.Whole) (is, next) =
          let one : begun (length (rising bindings)) ≡ 1 = begun-some (length (rising bindings)) (channels-rise bindings next.bound) in
          Yields-then (rest n (earlier-lies next (omega (arith, one, kept)))) (λ k commit there. Yields-ends (earlier-lies there (omega arith)))
      on rest n (done, ended.Late word) (is, next) = Yields-ends (earlier-lies is (omega arith))
      on rest n (done, ended.Stopped) (is, next) = Yields-ends (earlier-lies is (omega arith))

-- ---- a client

-- the frame of the card after what a client has placed in its stretch
abbrev pub end_of : PlaybackStream → ℕ
end_of c = c.stretch.card + c.stretch.committed + begun c.stretch.part

-- what is placed of a client's stretch ends at a frame
abbrev pub StretchLies : ℕ → ℕ → ℕ → PlaybackStream → ℕ → Marks → Type 0
StretchLies p x y c e m = Lies p x y c.setup.bindings c.stretch.card e m

-- A stretch that began: it has a frame of the card, which is past x, and what is placed of it ends before a frame.
pub record BegunAt (p x y : ℕ) (m : Marks) (bindings : List ℕ) (state : State) (card end : ℕ) : Type 0 where
  pub unprepared : is_prepared state ≡ false
  pub lies : Lies p x y bindings card end m

-- One that waits for its start: nothing of it is placed.
pub record WaitsAt (p x y : ℕ) (m : Marks) (bindings : List ℕ) (state : State) (committed part : ℕ) : Type 0 where
  pub bound : Channels bindings
  pub still : is_moving state ≡ false
  pub none : committed ≡ 0
  pub no_part : part ≡ 0
  pub reached : Reached p x y m

abbrev pub Begun : ℕ → ℕ → ℕ → Marks → PlaybackStream → Type 0
Begun p x y m c = BegunAt p x y m c.setup.bindings c.status.state c.stretch.card (end_of c)

abbrev pub Waits : ℕ → ℕ → ℕ → Marks → PlaybackStream → Type 0
Waits p x y m c = WaitsAt p x y m c.setup.bindings c.status.state c.stretch.committed c.stretch.part

-- a client's stretch goes on past x: what it places from now on is at x or after it; and y is before the end of what its port placed
abbrev pub Onward : ℕ → ℕ → ℕ → Marks → PlaybackStream → Type 0
Onward p x y m c = Begun p x y m c ⊎ Waits p x y m c

-- it does after a call
abbrev pub OnwardAfter : {T : Type 0} → ℕ → ℕ → ℕ → Marks → PlaybackStream × T → Type 0
OnwardAfter p x y m done = Onward p x y m done.0

-- a client that moves frames began
pub moving-begun : (p x y : ℕ) (m : Marks) (c : PlaybackStream) → is_moving c.status.state ≡ true → Onward p x y m c → Begun p x y m c
moving-begun p x y m c moves (inl is) = is
moving-begun p x y m c moves (inr waits) = absurd (false≢true (sym waits.still ∙ moves))

-- what the marks reach, whether it began or waits; and a stretch that begins anew waits
pub reached : (p x y : ℕ) (m : Marks) (c : PlaybackStream) → Onward p x y m c → Channels c.setup.bindings × Reached p x y m
reached p x y m c (inl is) = (is.lies.bound, is.lies.reached)
reached p x y m c (inr is) = (is.bound, is.reached)

pub waits-anew : {p x y : ℕ} {m : Marks} {bindings : List ℕ} → Channels bindings × Reached p x y m → WaitsAt p x y m bindings Prepared 0 0
waits-anew at = record { bound = at.0; still = refl; none = refl; no_part = refl; reached = at.1 }

-- ---- the state table

abbrev pub Unprepared : State → Type 0
Unprepared s = is_prepared s ≡ false

-- a step of a stream that moves frames leads to no prepared one
pub stepped-unprepared : (s : State) (asked : Call) (f : Facts) → IsFrameStep s asked → f.capture ≡ false → Unprepared (next_of s asked f).state
stepped-unprepared other asked f step play = grind (arith, nat_tests)

-- ---- the parts of calls

-- where a start begins is past x
start-past : (p x : ℕ) (c : PlaybackStream) (m : Marks) (frame : ℕ) → p ≤ frame → x ≤ max p (free_frame m) → x ≤ start_frame c frame m.cursor
start-past p x c m frame least low = grind (arith, nat_tests)

module _ (rules : Rules) (p : ℕ) (least : (q : ℕ) → Contains rules.published q → p ≤ q) (x y : ℕ) where
  pub commits-lead : (c : PlaybackStream) (ring : List ℤ) (count : ℕ) (m : Marks) → StretchLies p x y c (end_of c) m
      → Leads rules (λ n commit. StretchLies p x y c (max (end_of c) (end_of (committed_by c commit))) n) m (commits c ring count)
  commits-lead c ring count m lies = frames-lead rules p x y c.setup.bindings c.stretch.card c.identity.member (ring_sample c ring) (end_of c) count c.stretch.committed m
      (omega (arith, begun-most c.stretch.part)) (earlier-lies lies (omega arith))

  -- a load, the commit of the client as it is then, and what that leaves
  looks-lead : {Q : Marks → Answered (Unit {0}) → Type 0} (at : Position → PlaybackStream) (count : Position → ℕ) (ring : List ℤ) (after : Option Position → Commit → Answered (Unit {0}))
      (m : Marks) → Q m (after None nothing) → ((position : Position) → p ≤ position.frame → StretchLies p x y (at position) (end_of (at position)) m)
      → ((position : Position) (commit : Commit) (n : Marks)
      → StretchLies p x y (at position) (max (end_of (at position)) (end_of (committed_by (at position) commit))) n → Q n (after (Some position) commit))
      → Leads rules Q m (looks at count ring >>= λ found. ends (after found.0 found.1))
  unfolding looks
  looks-lead {Q = Q} at count ring after m none lies on = Yields-then {R = λ n found. Q n (after found.0 found.1)}
      (loads-lead p least (Yields-then {R = λ n commit. Q n (after None commit)} (Yields-ends none) (λ n commit is. Yields-ends is))
      (λ position far. Yields-then (commits-lead (at position) ring (count position) m (lies position far)) (λ n commit is. Yields-ends (on position commit n is))))
      (λ n found is. Yields-ends is)

  -- the sync of a client that moves frames
  pub after_sync-goes : (c : PlaybackStream) (asked : Call) (position : Position) (commit : Commit) (n : Marks) → Unprepared c.status.state → IsFrameStep c.status.state asked
      → StretchLies p x y c (max (end_of c) (end_of (committed_by c commit))) n → Begun p x y n (after_sync c asked (Some position) commit).0
  after_sync-goes c asked position commit n unprepared step lies = grind (arith, nat_tests)

  pub syncs-go : (c : PlaybackStream) (asked : Call) (ring : List ℤ) (m : Marks) → IsFrameStep c.status.state asked → Begun p x y m c
      → Leads rules (λ n done. Begun p x y n done.0) m (syncs c asked ring)
  unfolding syncs
  syncs-go c asked ring m step is = looks-lead (λ position. c) (sync_count c) ring (after_sync c asked) m is (λ position far. is.lies)
      (λ position commit n lies. after_sync-goes c asked position commit n is.unprepared step lies)

  -- the start of a client that waits
  abbrev pub Started : State → Marks → Answered (Unit {0}) → Type 0
  Started state n done = Onward p x y n done.0 × IfOk done.1 (λ ok. done.0.status.state ≡ state)

  after_start-goes : (c : PlaybackStream) (state : State) (m : Marks) (frame : ℕ) (gone : Bool) (commit : Commit) (n : Marks) → Unprepared state → Waits p x y m c
      → (let position : Position = record { frame = frame; gone = gone } in let from : PlaybackStream = started_in c Running position m.cursor in
      StretchLies p x y from (max (end_of from) (end_of (committed_by from commit))) n → Started state n (after_start c state m.cursor (Some position) commit))
  after_start-goes c state m frame gone commit n unprepared waits lies = grind (arith, nat_tests)

  -- a start, and a resume, begin a stretch
  pub begins-lead : {Q : Marks → Answered (Unit {0}) → Type 0} (c : PlaybackStream) (state : State) (count : Position → ℕ) (ring : List ℤ)
      (after : Option Position → Commit → Answered (Unit {0})) (m : Marks) → Unprepared state → Waits p x y m c → Q m (after None nothing)
      → ((position : Position) (commit : Commit) (n : Marks) → Started state n (after_start c state m.cursor (Some position) commit) → Q n (after (Some position) commit))
      → Leads rules Q m (looks (λ position. started_in c Running position m.cursor) count ring >>= λ found. ends (after found.0 found.1))
  begins-lead c state count ring after m unprepared waits none on = looks-lead (λ position. started_in c Running position m.cursor) count ring after m none
      (λ position far. record {
        bound = waits.bound;
        past = start-past p x c m position.frame far waits.reached.low;
        reached = waits.reached;
        end = rw (nothing-placed (start_frame c position.frame m.cursor)) (omega arith);
      })
      (λ position commit n lies. on position commit n (after_start-goes c state m position.frame position.gone commit n unprepared waits lies))
    where
      nothing-placed : (card : ℕ) → card + c.stretch.committed + begun c.stretch.part ≡ card
      nothing-placed card = rw waits.none (rw waits.no_part (omega arith))

  pub starts-go : (c : PlaybackStream) (state : State) (upto : ℕ) (ring : List ℤ) (m : Marks) → Unprepared state → Waits p x y m c
      → Leads rules (Started state) m (starts c state m.cursor upto ring)
  unfolding starts
  starts-go c state upto ring m unprepared waits = begins-lead c state (λ position. start_count c m.cursor position upto) ring (after_start c state m.cursor) m unprepared waits
      (inr waits, tt) (λ position commit n started. started)
