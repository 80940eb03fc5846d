-- What the parts of calls keep, by the courses that they took, and why they answered so.
use Rattle.dmix_client.specs.Prelude.{add-zero, ap, arith, length, List, refl, subst, sym, ℕ, [], ◌*◌, ◌+◌, ◌-◌, ◌<◌, ◌∙◌, ◌≡◌, ◌≤◌, mul-le-mul_right}
use Rattle.dmix_client.specs.Prelude.{nat_tests, append-nil, Bool, Err, false, IfOk, IfSome, if◌then◌else◌, is_some, max, min, None, not, Ok, OnOk, Option}
use Rattle.dmix_client.specs.Prelude.{Result, Some, true, unwrap_or, ℤ, ◌&&◌, ◌||◌, ◌↔◌, PcmError, Geometry, Cursor, end_frame, first_free, IsFrom}
use Rattle.dmix_client.specs.Prelude.{IsWithin as IsInRing, Composes, AreBindings, Call, Outcome, State, Disconnected, Draining, Paused, Prepared, Running}
use Rattle.dmix_client.specs.Prelude.{Setup, Xrun, next_of, Playback, Status, is_moving, is_set_up, nothing_found, refusal_in, refusal_of, Go, Ended, Position}
use Rattle.dmix_client.specs.Prelude.{stops_after, IsPast, OnLate, OnWhole, PortView, IsSamePort, LaysAt, LoadsAt, NoGet, TakesAt, TakesAt-same, ends}
use Rattle.dmix_client.specs.Prelude.{Takes-parts, CountsStop, pass_by, Commit, PlaybackStream, accepted_if, after_drop, after_pause, after_resume, after_start}
use Rattle.dmix_client.specs.Prelude.{after_sync, Answered, base_of, commit_count, committed_by, end_channel, end_of_commit, facts_of, is_paused, is_stop}
use Rattle.dmix_client.specs.Prelude.{late_of, over_of, pending_of, seen_at, start_count, started_in, stopped_in, sync_count, taken_of, with_accepted}
use Rattle.dmix_client.specs.Prelude.{with_new_base, with_number, written_after, written_on, Explains, ExplainsWrite, IsCaused, commits, looks, resumes, starts}
use Rattle.dmix_client.specs.Prelude.{starts_taking, syncs, takes_more, write_on, LaysFrames, TakesAt-frames, TakesAt-looks, TakesAt-step, AnySamples, Follows}
use Rattle.dmix_client.specs.Prelude.{Keeps, KeepsAccepted, segment_entries, StandsFor, StandsUpTo, CanUse, CountsEnd, entries_at, IsCommit, IsFrameStep}
use Rattle.dmix_client.specs.Prelude.{least_channel, LoadsAndCommits, TakesStep, stored-HasRoom, avail_of, ClientView, hw_of, IsConfigured, IsGoing, IsLaidPast}
use Rattle.dmix_client.specs.Prelude.{IsMoving, IsSoundClient, queued_of, ring_sample, count_with, ring_with, taken_after}
use Rattle.std.proofs.lemmas.Result.{on_ok_weaker}
use Rattle.dmix_client.specs.GrowthLaws.{Grows-joined}
use Rattle.dmix_client.proofs.Caused.{IsCaused-after_start, IsCaused-after_sync, caused-accepted, caused-moved, caused-on, after_sync-not_again, written_on-again}
use Rattle.dmix_client.proofs.Ends.{by-test, after_start-ends, written-ends}
use Rattle.dmix_client.proofs.Going.{IsStill, OnOk-of, accepted_if-told, after_start-still, after_sync-runs, after_sync-still, told-going, told-stop}
use Rattle.dmix_client.proofs.Growing.{StandsFor-after, StandsUpTo-filled, accepted-none, laid_at, laid_at-none, segment_entries-after}
use Rattle.dmix_client.proofs.Looking.{starts-by}
use Rattle.dmix_client.proofs.Sound.{CanUse-still, CommitsAs, min-none, CommitsAs-seen, CommitsAs-started, CommitsAs-written, IsLoaded, IsMoving-after, IsMoving-seen, IsMoving-written, IsSoundClient-after, IsSoundClient-status, IsSoundClient-stopped, after, configured-moving, configured-prepared, count-whole, hw-started, if-le, next-GoesOn, none-of, not_paused-moving, not_prepared-moving, taken-none, taken_fits, whole-of, whole_least, window_end-above}
use Rattle.dmix_client.proofs.Storing.{StandsUpTo-written}
use Rattle.mix_core.specs.declared.gate.Gate as gates
use Rattle.mix_core.specs.declared.port.MixPort as mixport
use Rattle.pcm_states.specs.declared.calls.Call.TheVariants as call
use Rattle.snd_base.specs.declared.errors.PcmError.TheVariants as error

-- a client and its ring
abbrev pub client : PlaybackStream → List ℤ → ClientView
client c ring = record { stream = c; ring = ring }

start-free : (cursor : Cursor) (position lead k c : ℕ) → k ≡ 0 → first_free cursor c ≤ max (position + lead) (first_free cursor 0) + k
start-free cursor position lead k c none = grind (arith, nat_tests)

-- a position that was loaded, of a port that a client uses
pub loaded-of : (c : PlaybackStream) (v : PortView) (position : Position) → is_moving c.status.state ≡ true → c.status.stopped ≡ false → CanUse c v
    → v.seen ≤ position.frame → IsInRing v.geometry position.frame → IsLoaded c position
loaded-of c v position moves going port newer within = grind (arith, nat_tests)

pub IsSamePort-refl : (v : PortView) → IsSamePort v v
IsSamePort-refl v = record { same_geometry = refl; same_member = refl; same_can_add = refl }

-- the counts of a client whose ring took frames
pub IsSoundClient-stored : (c : PlaybackStream) (ring samples : List ℤ) (m : ℕ) → IsSoundClient c ring → IsConfigured c ring
    → m * length c.setup.bindings ≤ length samples → IsSoundClient c (ring_with c ring samples m)
IsSoundClient-stored c ring samples m sound k held_all =
    let has = stored-HasRoom c.setup.config.buffer_size (length c.setup.bindings) ring (c.stretch.source + c.stretch.written) samples m
    (record { some = k.buffer_least; room = k.room }) held_all in
    let whole : c.setup.configured ≡ true → IsConfigured c (ring_with c ring samples m) = λ set. assumption (has.room) in
    assumption

taken-room : (n b w : ℕ) → w ≤ b → w + min n (min (b + 0 - w) b) ≤ b
taken-room n b w fits = grind (arith, nat_tests)

taken-waiting : (c : PlaybackStream) (n : ℕ) → c.stretch.started ≡ false
    → taken_of c n ≡ min n (min (c.setup.config.buffer_size + 0 - c.stretch.written) c.setup.config.buffer_size)
taken-waiting c n waits = grind (arith, nat_tests)

IsSoundClient-filled : (c : PlaybackStream) (ring : List ℤ) (m : ℕ) → IsSoundClient c ring → c.status.state ≡ Prepared
    → c.stretch.written + m ≤ c.setup.config.buffer_size → IsSoundClient (with_accepted c m) ring
IsSoundClient-filled c ring m sound waits fits = grind (arith, nat_tests)

filled-stands : (c : PlaybackStream) (ring stored samples all : List ℤ) (n m : ℕ) → m ≡ taken_of c n → stored ≡ ring_with c ring samples m
    → IsSoundClient c ring → c.status.state ≡ Prepared
    → n * length c.setup.bindings ≤ length samples → StandsFor c ring all → Follows c all samples n → StandsUpTo c stored all (c.stretch.written + m)
filled-stands c ring stored samples all n m is is_stored sound waits held_all stands follows =
    subst (λ (new : List ℤ). StandsUpTo c new all (c.stretch.written + m)) (sym is_stored)
    (subst (λ (k : ℕ). StandsUpTo c (ring_with c ring samples k) all (c.stretch.written + k)) (sym is)
    (StandsUpTo-filled c ring all samples n sound waits held_all stands follows))

-- which then has its counts in order after a drain with nothing to play
pub IsSoundClient-dropped : (c : PlaybackStream) (ring : List ℤ) → IsSoundClient c ring → refusal_of Playback c.status call.Drain ≡ None
    → IsSoundClient (after_drop c) ring
IsSoundClient-dropped c ring sound admitted = grind (arith, nat_tests)

accepted-count : (m : ℕ) (a : Answered (Unit {0})) → IfOk (accepted_if m a).1 (λ k. k ≡ m)
accepted-count m (c, Ok done) = refl
accepted-count m (c, Err e) = tt

module _ {S T : Type 0} (P : mixport.Ghosts S) (G : gates.Ghosts T) (laid_composes : Composes P.laid) (loaded_composes : Composes P.loaded) where
  pub syncs-step : (s t : S × T) (c : PlaybackStream) (ring : List ℤ) (call : Call) (a : Answered (Unit {0})) → AreBindings c.setup.bindings
      → TakesAt P G s (syncs c call ring) t a
      → TakesStep P G s t ring (λ position. c) (sync_count c) (length c.setup.bindings) (after_sync c call) a
  unfolding syncs
  syncs-step s t c ring call a bound takes =
      TakesAt-step P G laid_composes loaded_composes (λ position. c) (sync_count c) ring c.setup.bindings (after_sync c call) s t a bound
      (λ position. refl) takes

  pub starts-step : (s t : S × T) (c : PlaybackStream) (ring : List ℤ) (state : State) (cursor : Cursor) (upto : ℕ) (a : Answered (Unit {0}))
      → AreBindings c.setup.bindings → TakesAt P G s (starts c state cursor upto ring) t a
      → TakesStep P G s t ring (λ position. started_in c Running position cursor) (λ position. start_count c cursor position upto) (length c.setup.bindings)
      (after_start c state cursor) a
  unfolding starts
  starts-step s t c ring state cursor upto a bound takes =
      TakesAt-step P G laid_composes loaded_composes (λ position. started_in c Running position cursor) (λ position. start_count c cursor position upto) ring
      c.setup.bindings (after_start c state cursor) s t a bound (λ position. refl) takes

  -- what a call keeps that placed nothing and left the segment as it was
  pub Keeps-still : {X : Type 0} {s t : S × T} {c d : PlaybackStream} {ring new : List ℤ} {answer : Result X PcmError} {For : List ℤ → Type 0}
      → IsSoundClient d new → CanUse d (P.view t.0) → P.laid s.0 t.0 []
      → (c.status.stopped ≡ false → CountsStop answer (G.stops s.1) (G.stops t.1))
      → ((samples : List ℤ) → StandsFor c ring samples → segment_entries d samples ≡ segment_entries c samples) → d.identity.member ≡ c.identity.member
      → d.setup.bindings ≡ c.setup.bindings
      → ((samples : List ℤ) → StandsFor c ring samples → For samples → StandsFor d new samples) → Keeps P G s t (client c ring) (client d new) answer For
  Keeps-still {c = c} sound port laid_nothing told same same_member same_bindings stands = record {
    sound = sound;
    port = port;
    told = told;
    grows = λ samples is for. record {
      entries = [];
      laid_them = laid_nothing;
      grown = same samples is ∙ sym (append-nil (segment_entries c samples));
      same_member = same_member;
      same_bindings = same_bindings;
    };
    stands = stands;
  }

  -- what one keeps that left the client in another status, in which it doesn't move frames
  pub Keeps-status : {X : Type 0} {s t : S × T} {c : PlaybackStream} {ring : List ℤ} {answer : Result X PcmError} {For : List ℤ → Type 0} (st : Status)
      → IsSoundClient (record c { status = st }) ring → CanUse c (P.view s.0) → IsSamePort (P.view s.0) (P.view t.0) → P.laid s.0 t.0 []
      → (c.status.stopped ≡ false → CountsStop answer (G.stops s.1) (G.stops t.1)) → (is_moving st.state ≡ true → st.stopped ≡ false → ⊥)
      → Keeps P G s t (client c ring) (client (record c { status = st }) ring) answer For
  Keeps-status {c = c} st sound port same laid_nothing told rests =
      Keeps-still sound (CanUse-still c (record c { status = st }) _ _ port same refl rests) laid_nothing told (λ samples stands. refl) refl refl
      (λ samples stands for. stands)

  -- what a call keeps that placed a commit
  pub Keeps-after : {X : Type 0} (s t : S × T) (c b : PlaybackStream) (ring new : List ℤ) (x : Commit) (count upto : ℕ) (For : List ℤ → Type 0)
      → CommitsAs c b new x count upto → CanUse c (P.view s.0) → IsSamePort (P.view s.0) (P.view t.0) → unwrap_or b.seen 0 ≤ (P.view t.0).seen
      → P.laid s.0 t.0 (laid_at c b new x) → ((samples : List ℤ) → StandsFor c ring samples → For samples → StandsUpTo c new samples upto)
      → (st : Status) (written fed : ℕ) (answer : Result X PcmError) → written ≤ upto → written + c.stretch.source ≡ fed → (st.state ≡ Prepared → ⊥)
      → (st.state ≡ Paused → ⊥) → CountsStop answer (G.stops s.1) (G.stops t.1)
      → (is_moving st.state ≡ true → st.stopped ≡ false → IsMoving (after c b x st written fed) × IsFrom (P.view t.0).marks.cursor
      (b.stretch.card + (c.stretch.committed + x.frames)) (least_channel c.setup.bindings))
      → Keeps P G s t (client c ring) (client (after c b x st written fed) new) answer For
  Keeps-after s t c b ring new x count upto For y port same saw laid_it stands st written fed answer few sums not_prepared not_paused told moves = record {
    sound = IsSoundClient-after c b new x count upto st written fed y sums not_prepared not_paused (λ m going. (moves m going).0);
    port = record {
      same_geometry = same.same_geometry ∙ port.same_geometry;
      same_member = same.same_member ∙ port.same_member;
      can = same.same_can_add ∙ port.can;
      behind = λ m going. (moves m going).1;
      newer = λ m going. saw;
    };
    told = λ unstopped. told;
    grows = λ samples is for. record {
      entries = laid_at c b new x;
      laid_them = laid_it;
      grown = segment_entries-after c b new samples x count upto st written fed y (y.sound.configured y.set).bound (stands samples is for);
      same_member = refl;
      same_bindings = refl;
    };
    stands = λ samples is for. StandsFor-after c b new samples x count upto st written fed y few (stands samples is for);
  }

  -- what a sync leaves, of which something more is known where it moves frames
  pub record Synced (s t : S × T) (c : PlaybackStream) (ring : List ℤ) (Past : PlaybackStream → Type 0) (a : Answered (Unit {0})) : Type 0 where
    pub keeps : Keeps P G s t (client c ring) (client a.0 ring) a.1 AnySamples
    pub goes : OnOk a.1 (IsGoing a.0)
    pub past : is_moving a.0.status.state ≡ true → a.0.status.stopped ≡ false → Past a.0
    pub same : KeepsAccepted c a.0
    pub follows : (samples offered : List ℤ) (n : ℕ) → Follows c samples offered n → Follows a.0 samples offered n

  -- where it was stopped before it loaded a position
  pub unloaded-kept : (s t : S × T) (c : PlaybackStream) (ring : List ℤ) (Past : PlaybackStream → Type 0) → IsSoundClient c ring → CanUse c (P.view s.0)
      → IsSamePort (P.view s.0) (P.view t.0) → P.laid s.0 t.0 [] → G.stops t.1 ≡ G.stops s.1 + 1 → Synced s t c ring Past (stopped_in c)
  unloaded-kept s t c ring Past sound port same laid_nothing told = record {
    keeps = Keeps-status (record c.status { stopped = true }) (IsSoundClient-stopped c ring sound) port same laid_nothing (λ unstopped. told) (λ moves going. cc);
    goes = tt;
    past = λ moves going. absurd (cc);
    same = record { written = refl; fed = refl; bindings = refl };
    follows = λ samples offered n is. is;
  }

  -- where it loaded one, of a client that moves on in each state in which it goes on
  pub loaded-kept : (s t : S × T) (c : PlaybackStream) (ring : List ℤ) (call : Call) (position : Position) (x : Commit) (count : ℕ)
      (Past : PlaybackStream → Type 0) → is_moving c.status.state ≡ true → c.status.stopped ≡ false → IsFrameStep c.status.state call
      → CommitsAs c (seen_at c position) ring x count c.stretch.written → CanUse c (P.view s.0) → IsSamePort (P.view s.0) (P.view t.0)
      → (P.view t.0).seen ≡ position.frame → P.laid s.0 t.0 (laid_at c (seen_at c position) ring x) → CountsEnd x.ended (G.stops s.1) (G.stops t.1)
      → ((st : State) → is_stop x.ended ≡ false → position.gone ≡ false → late_of (seen_at c position) x ≡ None
      → (c.status.state ≡ Running → over_of (seen_at c position) position ≡ None)
      → IsMoving (after c (seen_at c position) x (record c.status { state = st }) c.stretch.written c.fed) × IsFrom (P.view t.0).marks.cursor
      (end_of_commit c x) (least_channel c.setup.bindings) × Past (after c (seen_at c position) x (record c.status { state = st }) c.stretch.written c.fed))
      → Synced s t c ring Past (after_sync c call (Some position) x)
  loaded-kept s t c ring call position x count Past moves going step y port same saw laid_it told still =
      let b : PlaybackStream = seen_at c position in
      let done : PlaybackStream = committed_by b x in
      let o : Outcome = next_of c.status.state call (facts_of done position (over_of b position) (late_of b x)) in
      let goes = next-GoesOn c.status.state call (queued_of done) position.gone (over_of b position) (late_of b x) step in
      let keeps = Keeps-after {X = Unit {0}} s t c b ring ring x count c.stretch.written AnySamples y port same (omega (arith, saw)) laid_it
      (λ samples stands any. stands) in
      by-test (Synced s t c ring Past) (is_stop x.ended) _ _
      (λ stop. record {
        keeps = keeps (record c.status { stopped = true }) c.stretch.written c.fed (Err error.Stopped) (omega arith) y.sound.fed
            (not_prepared-moving c.status.state moves) (not_paused-moving c.status.state moves) (told-stop x.ended (G.stops s.1) (G.stops t.1) stop told)
            (λ m unstopped. absurd (cc));
        goes = tt;
        past = λ m unstopped. absurd (cc);
        same = record { written = refl; fed = refl; bindings = refl };
        follows = λ samples offered n is. is;
      })
      (λ on. record {
        keeps = keeps (record c.status { state = o.state }) c.stretch.written c.fed o.answer (omega arith) y.sound.fed goes.not_prepared goes.not_paused
            (goes.told (G.stops s.1) (G.stops t.1) (told-going x.ended (G.stops s.1) (G.stops t.1) on told))
            (λ m unstopped. let f = goes.found m in let all = still o.state on f.0 f.1 f.2 in (all.0, all.1));
        goes = on_ok_weaker o.answer (λ moving. record { unstopped = going; moves = moving }) goes.goes;
        past = λ m unstopped. let f = goes.found m in (still o.state on f.0 f.1 f.2).2;
        same = record { written = refl; fed = refl; bindings = refl };
        follows = λ samples offered n is. is;
      })

  -- a sync of a client that moves frames
  looked-kept : (s t : S × T) (c : PlaybackStream) (ring : List ℤ) (call : Call) (load : Option Position) (x : Commit) → IsSoundClient c ring
      → is_moving c.status.state ≡ true → c.status.stopped ≡ false → IsFrameStep c.status.state call → CanUse c (P.view s.0)
      → IsSamePort (P.view s.0) (P.view t.0) → LoadsAndCommits P G s t ring (λ position. c) (sync_count c) (length c.setup.bindings) load x
      → Synced s t c ring IsLaidPast (after_sync c call load x)
  looked-kept s t c ring call None x sound moves going step port same l = unloaded-kept s t c ring IsLaidPast sound port same l.laid_them l.stopped
  looked-kept s t c ring call (Some position) x sound moves going step port same l =
      let b : PlaybackStream = seen_at c position in
      let m = sound.moving moves going in
      let loaded = loaded-of c (P.view s.0) position moves going port l.near.0 l.near.1 in
      let y = CommitsAs-seen c ring position x (sync_count c position) sound moves going loaded
      (if-le (position.gone || is_some (over_of b position)) (commit_count c position.frame c.stretch.written)) l.found.commit_is in
      loaded-kept s t c ring call position x (sync_count c position) IsLaidPast moves going step y port same l.near.2 l.laid_them l.stopped
      (λ st on here in_time none.
      let all = whole-of x.ended x.frames x.part (sync_count c position) (length c.setup.bindings) (end_of_commit b x) (end_channel b x) _ l.found.commit_is on
      in_time (l.stayed (port.behind moves going)) in
      let whole : x.frames ≡ commit_count c position.frame c.stretch.written = all.0 ∙ count-whole c position moves here none in (
        IsMoving-after c b ring x (sync_count c position) c.stretch.written (record c.status { state = st }) c.fed y
            (IsMoving-seen c position m loaded).fits whole all.1,
        all.2,
        subst (λ (n : ℕ). min c.stretch.written n ≤ c.stretch.committed + x.frames) (sym (hw-started b m.started))
            (whole_least c.stretch.written c.stretch.committed c.stretch.card x.frames position.frame _
            (window_end-above position.frame c.identity.geometry.frames (end_frame c.identity.geometry) loaded.most) whole),
      ))

  pub syncs-kept : (s t : S × T) (c : PlaybackStream) (ring : List ℤ) (call : Call) (a : Answered (Unit {0})) → IsSoundClient c ring
      → is_moving c.status.state ≡ true → c.status.stopped ≡ false → IsFrameStep c.status.state call
      → CanUse c (P.view s.0) → TakesAt P G s (syncs c call ring) t a → Synced s t c ring IsLaidPast a
  syncs-kept s t c ring call a sound moves going step port takes =
      let st = syncs-step s t c ring call a (configured-moving c ring sound moves).bound takes in
      subst (Synced s t c ring IsLaidPast) st.outcome (looked-kept s t c ring call st.load st.commit sound moves going step port
      (TakesAt-same P G s t (syncs c call ring) a takes) st.looked)

  -- what a start of the frames before `written + m` leaves, of which m are accepted where it goes well
  pub record Begun (s t : S × T) (c : PlaybackStream) (ring : List ℤ) (state : State) (m : ℕ) (a : Answered (Unit {0})) : Type 0 where
    pub keeps : Keeps P G s t (client c ring) (client (accepted_if m a).0 ring) (accepted_if m a).1
        (λ samples. StandsUpTo c ring samples (c.stretch.written + m))
    pub goes : OnOk a.1 (a.0.status.state ≡ state × a.0.status.stopped ≡ c.status.stopped)

  begun-kept : (s t : S × T) (c : PlaybackStream) (ring : List ℤ) (state : State) (m : ℕ) (load : Option Position) (x : Commit) → IsSoundClient c ring
      → c.status.state ≡ Prepared → is_moving state ≡ true → c.stretch.written + m ≤ c.setup.config.buffer_size
      → (P.view s.0).marks.cursor.frame ≤ end_frame c.identity.geometry → CanUse c (P.view s.0) → IsSamePort (P.view s.0) (P.view t.0)
      → LoadsAndCommits P G s t ring (λ position. started_in c Running position (P.view s.0).marks.cursor)
      (λ position. start_count c (P.view s.0).marks.cursor position (c.stretch.written + m)) (length c.setup.bindings) load x
      → Begun s t c ring state m (after_start c state (P.view s.0).marks.cursor load x)
  begun-kept s t c ring state m None x sound waits leads fits near port same l = record {
    keeps = Keeps-status (record c.status { stopped = true }) (IsSoundClient-stopped c ring sound) port same l.laid_them (λ unstopped. l.stopped)
        (λ moves going. cc);
    goes = tt;
  }
  begun-kept s t c ring state m (Some position) x sound waits leads fits near port same l =
      let cursor = (P.view s.0).marks.cursor in
      let upto : ℕ = c.stretch.written + m in
      let count : ℕ = start_count c cursor position upto in
      let b : PlaybackStream = started_in c state position cursor in
      let p = sound.prepared waits in
      let most : position.frame ≤ end_frame c.identity.geometry = subst (λ (g : Geometry). position.frame ≤ end_frame g) port.same_geometry l.near.1.most in
      let y = CommitsAs-started c ring state position cursor x upto sound waits near most l.found.commit_is in
      let keeps = Keeps-after {X = ℕ} s t c b ring ring x count upto (λ samples. StandsUpTo c ring samples upto) y port same (omega (arith, l.near.2))
      l.laid_them (λ samples stands up. up) in
      after_start-ends (Begun s t c ring state m) c state cursor position x
      (λ gone.
      let none = none-of x.ended x.frames x.part (length c.setup.bindings) (subst (λ (n : ℕ). IsCommit x.ended x.frames x.part n (length c.setup.bindings))
      (ap (λ (g : Bool). if g then 0 else commit_count b position.frame upto) gone) l.found.commit_is) in
      let d : PlaybackStream = record c { status = record c.status { state = Disconnected }; seen = Some position.frame } in
      record {
        keeps = Keeps-still (IsSoundClient-status c d.status d.seen ring sound most (λ is. absurd (cc))
            (λ is. absurd (cc)) (λ moves going. absurd (cc)) (λ is. absurd (cc)))
            (CanUse-still c d _ _ port same refl (λ moves going. cc)) (subst (P.laid s.0 t.0) (laid_at-none c b ring x none.0 none.1) l.laid_them)
            (λ unstopped. subst (λ (e : Ended). CountsEnd e (G.stops s.1) (G.stops t.1)) none.2 l.stopped)
            (λ samples stands. refl) refl refl (λ samples stands up j q low high in_range. stands j q
            (min-none c.stretch.committed (hw_of c) j p.no_frame) high in_range);
        goes = tt;
      })
      (λ here stop. record {
        keeps = keeps (record { state = state; stopped = true }) c.stretch.written c.fed (Err error.Stopped) (omega arith) sound.fed
            (not_prepared-moving state leads) (not_paused-moving state leads) (told-stop x.ended (G.stops s.1) (G.stops t.1) stop l.stopped)
            (λ moves going. absurd (cc));
        goes = tt;
      })
      (λ w here on late. record {
        keeps = keeps (record { state = Xrun; stopped = c.status.stopped }) c.stretch.written c.fed (Err (error.Xrun w)) (omega arith)
            sound.fed (λ is. cc) (λ is. cc) (told-going x.ended (G.stops s.1) (G.stops t.1) on l.stopped) (λ moves going. absurd (cc));
        goes = tt;
      })
      (λ here on in_time.
      let st : Status = record { state = state; stopped = c.status.stopped } in
      let all = whole-of x.ended x.frames x.part count (length c.setup.bindings) (end_of_commit b x) (end_channel b x) _ l.found.commit_is on in_time
      (l.stayed (start-free cursor position.frame c.identity.lead c.stretch.committed (least_channel c.setup.bindings) p.no_frame)) in
      let whole : x.frames ≡ commit_count b position.frame upto = all.0 ∙ ap (λ (g : Bool). if g then 0 else commit_count b position.frame upto) here in
      record {
        keeps = keeps st upto (c.fed + m) (Ok m) (omega arith) (omega (arith, sound.fed)) (not_prepared-moving state leads) (not_paused-moving state leads)
            (told-going x.ended (G.stops s.1) (G.stops t.1) on l.stopped)
            (λ moves going. (IsMoving-after c b ring x count upto st (c.fed + m) y (omega (arith, fits)) whole all.1, all.2));
        goes = (refl, refl);
      })

  -- a start of a client that is prepared
  pub starts-kept : (s t : S × T) (c : PlaybackStream) (ring : List ℤ) (state : State) (m : ℕ) (a : Answered (Unit {0})) → IsSoundClient c ring
      → c.status.state ≡ Prepared → is_moving state ≡ true
      → c.stretch.written + m ≤ c.setup.config.buffer_size → (P.view s.0).marks.cursor.frame ≤ end_frame c.identity.geometry → CanUse c (P.view s.0)
      → TakesAt P G s (starts c state (P.view s.0).marks.cursor (c.stretch.written + m) ring) t a → Begun s t c ring state m a
  starts-kept s t c ring state m a sound waits leads fits near port takes =
      let st = starts-step s t c ring state (P.view s.0).marks.cursor (c.stretch.written + m) a (configured-prepared c ring sound waits).bound takes in
      subst (Begun s t c ring state m) st.outcome (begun-kept s t c ring state m st.load st.commit sound waits leads fits near port
      (TakesAt-same P G s t (starts c state (P.view s.0).marks.cursor (c.stretch.written + m) ring) a takes) st.looked)

  -- of all that is written
  pub start-kept : (s t : S × T) (c : PlaybackStream) (ring : List ℤ) (state : State) (a : Answered (Unit {0})) → IsSoundClient c ring
      → c.status.state ≡ Prepared → is_moving state ≡ true
      → (P.view s.0).marks.cursor.frame ≤ end_frame c.identity.geometry → CanUse c (P.view s.0)
      → TakesAt P G s (starts c state (P.view s.0).marks.cursor c.stretch.written ring) t a
      → Keeps P G s t (client c ring) (client a.0 ring) a.1 AnySamples × OnOk a.1 (a.0.status.state ≡ state × a.0.status.stopped ≡ c.status.stopped)
  start-kept s t c ring state a sound waits leads near port takes =
      let all : c.stretch.written + 0 ≡ c.stretch.written = add-zero c.stretch.written in
      let begun = starts-kept s t c ring state 0 a sound waits leads (omega (arith, (sound.prepared waits).fits)) near port
      (subst (λ (n : ℕ). TakesAt P G s (starts c state (P.view s.0).marks.cursor n ring) t a) (sym all) takes) in
      let k = begun.keeps in (
        subst (λ (d : PlaybackStream). Keeps P G s t (client c ring) (client d ring) a.1 AnySamples) (accepted-none a) (record {
          sound = k.sound;
          port = k.port;
          told = λ unstopped. accepted_if-told 0 a (G.stops s.1) (G.stops t.1) (k.told unstopped);
          grows = λ samples stands any. k.grows samples stands (subst (StandsUpTo c ring samples) (sym all) stands);
          stands = λ samples stands any. k.stands samples stands (subst (StandsUpTo c ring samples) (sym all) stands);
        }),
        begun.goes,
      )

  -- nothing was done
  pub Keeps-none : {X : Type 0} (s : S × T) (c : ClientView) (answer : Result X PcmError) (For : List ℤ → Type 0) → IsSoundClient c.stream c.ring
      → CanUse c.stream (P.view s.0)
      → (c.stream.status.stopped ≡ false → pass_by answer ≡ Go) → Keeps P G s s c c answer For
  Keeps-none s c answer For sound port told =
      Keeps-still {c = c.stream} {d = c.stream} {ring = c.ring} {new = c.ring} sound port (laid_composes.none s.0)
      (λ unstopped. ap (λ pass. stops_after pass (G.stops s.1)) (sym (told unstopped))) (λ samples stands. refl) refl refl (λ samples stands any. stands)

  -- the answer is a number
  pub Keeps-numbered : (s t : S × T) (c : ClientView) (number : PlaybackStream → ℕ) (a : Answered (Unit {0})) (ring : List ℤ)
      → Keeps P G s t c (client a.0 ring) a.1 AnySamples → Keeps P G s t c (client (with_number number a).0 ring) (with_number number a).1 AnySamples
  Keeps-numbered s t c number (d, Ok done) ring k = record { sound = k.sound; port = k.port; told = k.told; grows = k.grows; stands = k.stands }
  Keeps-numbered s t c number (d, Err e) ring k = record { sound = k.sound; port = k.port; told = k.told; grows = k.grows; stands = k.stands }

  -- one part after another
  pub Keeps-then : {X Y : Type 0} (s m t : S × T) (c d e : ClientView) (first : Result X PcmError) (answer : Result Y PcmError) (For More : List ℤ → Type 0)
      → pass_by first ≡ Go → d.stream.status.stopped ≡ false → ((samples : List ℤ) → For samples → More samples)
      → Keeps P G s m c d first For → Keeps P G m t d e answer More → Keeps P G s t c e answer For
  Keeps-then s m t c d e first answer For More went going more one two = record {
    sound = two.sound;
    port = two.port;
    told = λ unstopped. two.told going ∙ ap (stops_after (pass_by answer)) (one.told unstopped ∙ ap (λ pass. stops_after pass (G.stops s.1)) went);
    grows = λ samples stands for. Grows-joined P.laid laid_composes s.0 m.0 t.0 c.stream d.stream e.stream samples (one.grows samples stands for)
        (two.grows samples (one.stands samples stands for) (more samples for));
    stands = λ samples stands for. two.stands samples (one.stands samples stands for) (more samples for);
  }

  -- a write after its sync
  pub record Written (s t : S × T) (c : PlaybackStream) (ring offered : List ℤ) (n : ℕ) (a : Answered ℕ) : Type 0 where
    pub keeps : Keeps P G s t (client c ring) (client a.0 (ring_with c ring offered (taken_of c n))) a.1 (λ all. Follows c all offered n)
    pub count : IfOk a.1 (λ taken. taken ≤ 16384)

  written-kept : (s t : S × T) (c : PlaybackStream) (ring offered : List ℤ) (n : ℕ) (x : Commit) → IsSoundClient c ring → is_moving c.status.state ≡ true
      → c.status.stopped ≡ false → IsLaidPast c → n * length c.setup.bindings ≤ length offered → CanUse c (P.view s.0) → IsSamePort (P.view s.0) (P.view t.0)
      → LaysFrames P G s t c.identity.member c.stretch.card c.setup.bindings (ring_sample c (ring_with c ring offered (taken_of c n)))
      (count_with c (taken_of c n)) c.stretch.committed x → Written s t c ring offered n (written_after c n x)
  written-kept s t c ring offered n x sound moves going past held_all port same laid =
      let k = configured-moving c ring sound moves in
      let was = sound.moving moves going in
      let m : ℕ = taken_of c n in
      let new = ring_with c ring offered m in
      let upto : ℕ = c.stretch.written + m in
      let few : m * length c.setup.bindings ≤ n * length c.setup.bindings = mul-le-mul_right (length c.setup.bindings)
      (taken_fits c.stretch.written (hw_of c) c.setup.config.buffer_size n m was.fits refl).2 in
      let sound_new = IsSoundClient-stored c ring offered m sound k (omega (arith, few, held_all)) in
      let up : (samples : List ℤ) → StandsFor c ring samples → Follows c samples offered n → StandsUpTo c new samples upto = λ samples stands for.
      StandsUpTo-written c ring samples offered n k held_all was.fits past stands for in
      let y = CommitsAs-written c new x m sound_new moves going laid.commit_is in
      let saw : unwrap_or c.seen 0 ≤ (P.view t.0).seen = subst (λ (v : PortView). unwrap_or c.seen 0 ≤ v.seen) (sym laid.view_is) (port.newer moves going) in
      let at_end = laid.free (least_channel c.setup.bindings) (port.behind moves going) in
      let keeps = Keeps-after {X = ℕ} s t c c ring new x (count_with c m) upto (λ all. Follows c all offered n) y port same saw laid.laid_them up in
      written-ends (Written s t c ring offered n) c n x
      (λ some none.
      let count : count_with c m ≡ 0 = ap (λ (j : ℕ). count_with c j) (taken-none n c.setup.config.buffer_size (hw_of c) c.stretch.written none) in
      let nothing = none-of x.ended x.frames x.part (length c.setup.bindings) (subst (λ (j : ℕ). IsCommit x.ended x.frames x.part j (length c.setup.bindings))
      count laid.commit_is) in
      let here : IsFrom (P.view t.0).marks.cursor (end_of_commit c x) (least_channel c.setup.bindings) = subst (λ (e : Ended). OnWhole e
      (IsFrom (P.view t.0).marks.cursor (end_of_commit c x) (least_channel c.setup.bindings))) nothing.2 at_end in
      let still : CanUse c (P.view t.0) = record {
        same_geometry = same.same_geometry ∙ port.same_geometry;
        same_member = same.same_member ∙ port.same_member;
        can = same.same_can_add ∙ port.can;
        behind = λ m going. omega (arith, here, nothing.0);
        newer = λ m going. saw;
      } in
      record {
        keeps = Keeps-still sound_new still
            (subst (P.laid s.0 t.0) (laid_at-none c c new x nothing.0 nothing.1) laid.laid_them)
            (λ unstopped. subst (λ (e : Ended). CountsEnd e (G.stops s.1) (G.stops t.1)) nothing.2 laid.stopped)
            (λ samples stands. refl) refl refl (λ samples stands for j q low high in_range. up samples stands for j q low (omega (arith, high)) in_range);
        count = tt;
      })
      (λ full stop. record {
        keeps = keeps (record c.status { stopped = true }) c.stretch.written c.fed (Err error.Stopped) (omega arith) sound.fed
            (not_prepared-moving c.status.state moves) (not_paused-moving c.status.state moves) (told-stop x.ended (G.stops s.1) (G.stops t.1) stop laid.stopped)
            (λ m unstopped. absurd (cc));
        count = tt;
      })
      (λ w full on late. record {
        keeps = keeps (record c.status { state = Xrun }) c.stretch.written c.fed (Err (error.Xrun w)) (omega arith) sound.fed
            (λ is. cc) (λ is. cc) (told-going x.ended (G.stops s.1) (G.stops t.1) on laid.stopped) (λ m unstopped. absurd (cc));
        count = tt;
      })
      (λ full on in_time.
      let all = whole-of x.ended x.frames x.part (count_with c m) (length c.setup.bindings) (end_of_commit c x) (end_channel c x) _
      laid.commit_is on in_time at_end in
      record {
        keeps = keeps (record c.status { state = Running }) upto (c.fed + m) (Ok m) (omega arith) (omega (arith, sound.fed)) (λ is. cc) (λ is. cc)
            (told-going x.ended (G.stops s.1) (G.stops t.1) on laid.stopped)
            (λ moving unstopped. (IsMoving-written c new x n m (record c.status { state = Running }) (c.fed + m) refl was y all.0 all.1, all.2));
        count = omega (arith, (taken_fits c.stretch.written (hw_of c) c.setup.config.buffer_size n m was.fits refl).1, k.buffer_most);
      })

  pub record Taken (s t : S × T) (c : PlaybackStream) (ring offered : List ℤ) (n : ℕ) (a : Answered ℕ) : Type 0 where
    pub kept : Written s t c ring offered n a
    pub last : Commit
    pub outcome : written_after c n last ≡ a
    pub late : OnLate last.ended (λ word. IsPast P.view P.shows t.0 (end_of_commit c last) (end_channel c last) word)

  pub takes_more-kept : (s t : S × T) (c : PlaybackStream) (ring offered : List ℤ) (n : ℕ) (a : Answered ℕ) → IsSoundClient c ring
      → is_moving c.status.state ≡ true → c.status.stopped ≡ false → IsLaidPast c
      → n * length c.setup.bindings ≤ length offered → CanUse c (P.view s.0) → TakesAt P G s (takes_more c ring offered n) t a → Taken s t c ring offered n a
  unfolding takes_more
  takes_more-kept s t c ring offered n a sound moves going past held_all port takes =
      let stored = ring_with c ring offered (taken_of c n) in
      let parts = Takes-parts (LoadsAt P G) (LaysAt P G) NoGet s t (commits c stored (count_with c (taken_of c n)))
      (λ last. ends (written_after c n last)) a takes in
      let laid = TakesAt-frames P G laid_composes loaded_composes c.identity.member c.stretch.card c.setup.bindings (ring_sample c stored)
      (count_with c (taken_of c n)) c.stretch.committed s parts.0 parts.1 (configured-moving c ring sound moves).bound parts.2 in
      subst (λ (u : S × T). Taken s u c ring offered n a) (sym parts.3.there) (subst (λ (b : Answered ℕ). Taken s parts.0 c ring offered n b)
      (sym parts.3.result) (record {
        kept = written-kept s parts.0 c ring offered n parts.1 sound moves going past held_all port
            (TakesAt-same P G s parts.0 (commits c stored (count_with c (taken_of c n))) parts.1 parts.2) laid;
        last = parts.1;
        outcome = refl;
        late = laid.late;
      }))

  -- why a call answered so, by its step
  pub explained-by : {s t : S × T} {c : ClientView} {at : Position → PlaybackStream} {count : Position → ℕ} {call : Option Position → Commit → Answered (Unit {0})}
      {a : Answered (Unit {0})} (st : TakesStep P G s t c.ring at count (length c.stream.setup.bindings) call a)
      → IsCaused {X = Unit {0}} P.view P.shows t.0 c.stream (call st.load st.commit).0 st.load (call st.load st.commit).1 → Explains P G s t c at count call a
  explained-by {t = t} {c = c} st why = record {
    step = st;
    why = subst (λ (d : Answered (Unit {0})). IsCaused P.view P.shows t.0 c.stream d.0 st.load d.1) st.outcome why;
  }

  -- a sync and a start
  pub syncs-explained : (s t : S × T) (c : PlaybackStream) (ring : List ℤ) (call : Call) (a : Answered (Unit {0})) → AreBindings c.setup.bindings
      → IsFrameStep c.status.state call
      → TakesAt P G s (syncs c call ring) t a → Explains P G s t (client c ring) (λ position. c) (sync_count c) (after_sync c call) a
  syncs-explained s t c ring call a bound step takes =
      let st = syncs-step s t c ring call a bound takes in
      explained-by st (IsCaused-after_sync c call st.load st.commit step st.looked.found st.looked.shown)

  pub starts-explained : (s t : S × T) (c : PlaybackStream) (ring : List ℤ) (state : State) (cursor : Cursor) (upto : ℕ) (a : Answered (Unit {0}))
      → AreBindings c.setup.bindings → c.status.state ≡ Prepared
      → TakesAt P G s (starts c state cursor upto ring) t a
      → Explains P G s t (client c ring) (λ position. started_in c Running position cursor) (λ position. start_count c cursor position upto)
      (after_start c state cursor) a
  starts-explained s t c ring state cursor upto a bound waits takes =
      let st = starts-step s t c ring state cursor upto a bound takes in
      explained-by st (IsCaused-after_start c state cursor st.load st.commit waits st.looked.shown)

  -- with a number in its answer
  pub Explains-by : (f : Answered (Unit {0}) → Answered ℕ) {s t : S × T} {c : ClientView} {at : Position → PlaybackStream} {count : Position → ℕ}
      {call : Option Position → Commit → Answered (Unit {0})} {a : Answered (Unit {0})} {b : Answered ℕ}
      → ((load : Option Position) → IsCaused {X = Unit {0}} P.view P.shows t.0 c.stream a.0 load a.1 → IsCaused {X = ℕ} P.view P.shows t.0 c.stream (f a).0 load
      (f a).1) → f a ≡ b → Explains P G s t c at count call a → Explains P G s t c at count (λ load commit. f (call load commit)) b
  Explains-by f {s = s} {t = t} {c = c} {at = at} {count = count} {call = call} caused is one =
      subst (λ (d : Answered ℕ). Explains P G s t c at count (λ load commit. f (call load commit)) d) is (record {
        step = record { load = one.step.load; commit = one.step.commit; looked = one.step.looked; outcome = ap f one.step.outcome };
        why = caused one.step.load one.why;
      })

  -- a drain of a stream that moves frames is to be made again exactly where it still drains
  pub syncs-still : (s t : S × T) (c : PlaybackStream) (ring : List ℤ) (a : Answered (Unit {0})) → AreBindings c.setup.bindings → c.status.state ≡ Draining
      → c.status.stopped ≡ false
      → TakesAt P G s (syncs c call.Drain ring) t a → IsStill a
  syncs-still s t c ring a bound drains going takes =
      let st = syncs-step s t c ring call.Drain a bound takes in
      subst IsStill st.outcome (after_sync-still c st.load st.commit drains going)

  -- a write into a stream that runs, by its two parts
  pub writes-explained : (s m t : S × T) (c : PlaybackStream) (ring new_ring offered : List ℤ) (n : ℕ) (middle : Answered (Unit {0})) (a : Answered ℕ)
      → AreBindings c.setup.bindings → c.status.state ≡ Running
      → TakesAt P G s (syncs c call.Transfer ring) m middle → TakesAt P G m (write_on ring offered n middle) t a
      → new_ring ≡ ring_with middle.0 ring offered (taken_after middle n)
      → (last : Commit) → written_on middle n last ≡ a
      → OnLate last.ended (λ word. IsPast P.view P.shows t.0 (end_of_commit middle.0 last) (end_channel middle.0 last) word)
      → ((e : PcmError) → middle.1 ≡ Err e → t ≡ m)
      → ExplainsWrite P G s t c ring new_ring offered n a
  writes-explained s m t c ring new_ring offered n middle a bound runs first rest is_ring last outcome late stays =
      let step : IsFrameStep c.status.state call.Transfer = subst (λ (state : State). IsFrameStep state call.Transfer) (sym runs) tt in
      let one = syncs-explained s m c ring call.Transfer middle bound step first in
      let st = one.step in
      record {
        between = m;
        middle = middle;
        first = st;
        rest = rest;
        ring_is = is_ring;
        why = subst (λ (d : Answered ℕ). IsCaused P.view P.shows t.0 c d.0 st.load d.1) outcome
            (caused-on middle n last (caused-moved t.0 middle one.why (λ e is. ap (λ (u : S × T). u.0) (stays e is))) late);
        again = subst (λ (d : Answered ℕ). (d.1 ≡ Err error.Again) ↔ ((middle.1 ≡ Ok tt) × (0 < n) × (avail_of middle.0 ≡ 0))) outcome
            (written_on-again middle n last (λ is. after_sync-not_again c st.load st.commit runs (ap (λ (b : Answered (Unit {0})). b.1) st.outcome ∙ is)));
      }

  -- a stream that runs still runs after a sync for a write that went well
  pub syncs-runs : (s t : S × T) (c : PlaybackStream) (ring : List ℤ) (a : Answered (Unit {0})) → AreBindings c.setup.bindings
      → c.status.state ≡ Running → a.1 ≡ Ok tt
      → TakesAt P G s (syncs c call.Transfer ring) t a → a.0.status.state ≡ Running
  syncs-runs s t c ring a bound runs ok takes =
      let st = syncs-step s t c ring call.Transfer a bound takes in
      OnOk-of a.1 (a.0.status.state ≡ Running) ok (subst (λ (b : Answered (Unit {0})). OnOk b.1 (b.0.status.state ≡ Running)) st.outcome
      (after_sync-runs c st.load st.commit runs))

  -- the start of a drain, where it didn't go well
  pub drains-ill : (s m : S × T) (c : PlaybackStream) (ring : List ℤ) (cursor : Cursor) (a : Answered (Unit {0})) (e : PcmError)
      → AreBindings c.setup.bindings → a.1 ≡ Err e
      → TakesAt P G s (starts c Draining cursor c.stretch.written ring) m a → IsStill a
  drains-ill s m c ring cursor a e bound is takes =
      let st = starts-step s m c ring Draining cursor c.stretch.written a bound takes in
      subst (λ (b : Answered (Unit {0})). b.1 ≡ Err e → IsStill b) st.outcome (after_start-still c cursor st.load st.commit e) is

  -- a write into a prepared stream that doesn't start it
  pub stored-kept : (s : S × T) (c : PlaybackStream) (ring stored samples : List ℤ) (n m : ℕ) → m ≡ taken_of c n → stored ≡ ring_with c ring samples m
      → IsSoundClient c ring → IsSoundClient c stored → c.status.state ≡ Prepared
      → n * length c.setup.bindings ≤ length samples → CanUse c (P.view s.0)
      → Keeps P G s s (client c ring) (client (with_accepted c m) stored) (let r : Result ℕ PcmError = Ok m in r) (λ all. Follows c all samples n)
  stored-kept s c ring stored samples n m is is_stored sound sound_stored waits held_all port =
      Keeps-still (IsSoundClient-filled c stored m sound_stored waits (omega (
        arith,
        is,
        taken-room n c.setup.config.buffer_size c.stretch.written
            (sound.prepared waits).fits,
        taken-waiting c n (sound.prepared waits).waiting,
      )))
      (CanUse-still c (with_accepted c m) (P.view s.0) (P.view s.0) port (IsSamePort-refl (P.view s.0)) refl
      (λ moves going. not_prepared-moving c.status.state moves waits)) (laid_composes.none s.0) (λ unstopped. refl) (λ all stands. refl) refl refl
      (λ all stands for. filled-stands c ring stored samples all n m is is_stored sound waits held_all stands for)

  -- a write into a prepared stream that starts it
  pub record Filled (s t : S × T) (c : PlaybackStream) (ring stored samples : List ℤ) (n m : ℕ) (a : Answered ℕ) : Type 0 where
    pub keeps : Keeps P G s t (client c ring) (client a.0 stored) a.1 (λ all. Follows c all samples n)
    pub count : IfOk a.1 (λ k. k ≡ m)
    pub explains : Explains P G s t (client c stored) (λ position. started_in c Running position (P.view s.0).marks.cursor)
        (λ position. start_count c (P.view s.0).marks.cursor position (c.stretch.written + m))
        (λ load commit. accepted_if m (after_start c Running (P.view s.0).marks.cursor load commit)) a

  pub filled-kept : (s t : S × T) (c : PlaybackStream) (ring stored samples : List ℤ) (n m : ℕ) (a : Answered ℕ) → m ≡ taken_of c n
      → stored ≡ ring_with c ring samples m → IsSoundClient c ring → IsSoundClient c stored → c.status.state ≡ Prepared
      → n * length c.setup.bindings ≤ length samples → (P.view s.0).marks.cursor.frame ≤ end_frame c.identity.geometry → CanUse c (P.view s.0)
      → TakesAt P G s (starts_taking c stored (P.view s.0).marks.cursor m) t a → Filled s t c ring stored samples n m a
  unfolding starts_taking
  filled-kept s t c ring stored samples n m a is is_stored sound sound_stored waits held_all near port takes =
      let parts = Takes-parts (LoadsAt P G) (LaysAt P G) NoGet s t (starts c Running (P.view s.0).marks.cursor (c.stretch.written + m) stored)
      (λ done. ends (accepted_if m done)) a takes in
      let begun = starts-kept s parts.0 c stored Running m parts.1 sound_stored waits refl
      (omega (
        arith,
        is,
        taken-room n c.setup.config.buffer_size c.stretch.written (sound.prepared waits).fits,
        taken-waiting c n
            (sound.prepared waits).waiting,
      )) near port parts.2 in
      subst (λ (u : S × T). Filled s u c ring stored samples n m a) (sym parts.3.there) (subst (λ (b : Answered ℕ). Filled s parts.0 c ring stored samples n m
      b) (sym parts.3.result) (record {
        keeps = record {
          sound = begun.keeps.sound;
          port = begun.keeps.port;
          told = begun.keeps.told;
          grows = λ all stands for. let up = filled-stands c ring stored samples all n m is is_stored sound waits held_all stands for in begun.keeps.grows all
              (λ j q low high in_range. up j q low (omega (arith, high)) in_range) up;
          stands = λ all stands for. let up = filled-stands c ring stored samples all n m is is_stored sound waits held_all stands for in begun.keeps.stands all
              (λ j q low high in_range. up j q low (omega (arith, high)) in_range) up;
        };
        count = accepted-count m parts.1;
        explains = Explains-by (accepted_if m) (λ load why. caused-accepted m parts.1 why) refl
            (starts-explained s parts.0 c stored Running (P.view s.0).marks.cursor (c.stretch.written + m) parts.1
            (configured-prepared c stored sound_stored waits).bound waits parts.2);
      }))

  -- a write into a stream that runs, whose sync went well
  pub record Wrote (s t : S × T) (c : PlaybackStream) (ring new offered : List ℤ) (n : ℕ) (a : Answered ℕ) : Type 0 where
    pub keeps : Keeps P G s t (client c ring) (client a.0 new) a.1 (λ all. Follows c all offered n)
    pub count : IfOk a.1 (λ taken. taken ≤ 16384)
    pub explains : ExplainsWrite P G s t c ring new offered n a

  pub writes-kept : (s m t : S × T) (c d : PlaybackStream) (ring new offered : List ℤ) (n : ℕ) (a : Answered ℕ) → new ≡ ring_with d ring offered (taken_of d n)
      → IsSoundClient c ring → c.status.state ≡ Running → c.status.stopped ≡ false
      → n * length c.setup.bindings ≤ length offered → CanUse c (P.view s.0) → TakesAt P G s (syncs c call.Transfer ring) m (d, Ok tt)
      → TakesAt P G m (takes_more d ring offered n) t a
      → Wrote s t c ring new offered n a
  writes-kept s m t c d ring new offered n a is_new sound runs unstopped held_all port one two =
      let moves : is_moving c.status.state ≡ true = ap is_moving runs in
      let bound = (configured-moving c ring sound moves).bound in
      let first = syncs-kept s m c ring call.Transfer (d, Ok tt) sound moves unstopped (subst (λ (state : State). IsFrameStep state call.Transfer)
      (sym runs) tt) port one in
      let still : d.status.state ≡ Running = syncs-runs s m c ring (d, Ok tt) bound runs refl one in
      let later = takes_more-kept m t d ring offered n a first.keeps.sound (ap is_moving still) first.goes.unstopped
      (first.past (ap is_moving still) first.goes.unstopped) (subst (λ (bs : List ℕ). n * length bs ≤ length offered) (sym first.same.bindings)
      held_all) first.keeps.port two in
      subst (λ (r : List ℤ). Wrote s t c ring r offered n a) (sym is_new) (record {
        keeps = Keeps-then s m t (client c ring) (client d ring) (client a.0 (ring_with d ring offered (taken_of d n)))
            (let r : Result (Unit {0}) PcmError = Ok tt in r) a.1 (λ all. Follows c all offered n) (λ all. Follows d all offered n)
            refl first.goes.unstopped (λ all for. first.follows all offered n for)
            (record {
              sound = first.keeps.sound;
              port = first.keeps.port;
              told = first.keeps.told;
              grows = λ all stands for. first.keeps.grows all stands tt;
              stands = λ all stands for. first.keeps.stands all stands tt;
            }) later.kept.keeps;
        count = later.kept.count;
        explains = writes-explained s m t c ring (ring_with d ring offered (taken_of d n)) offered n (d, Ok tt) a bound runs one two refl later.last
            later.outcome later.late (λ e is. absurd (cc));
      })

  -- a client whose state is left, with nothing done
  left-kept : (s : S × T) (c : PlaybackStream) (ring : List ℤ) (state : State) → IsSoundClient (record c { status = record c.status { state = state } }) ring
      → CanUse c (P.view s.0) → is_moving state ≡ false
      → Keeps P G s s (client c ring) (client (record c { status = record c.status { state = state } }) ring)
      (let r : Result (Unit {0}) PcmError = Ok tt in r) AnySamples
  left-kept s c ring state sound port rests =
      Keeps-status (record c.status { state = state }) sound port (IsSamePort-refl (P.view s.0)) (laid_composes.none s.0) (λ unstopped. refl) (λ moves going. cc)

  -- a drain with nothing to play
  pub dropped-kept : (s : S × T) (c : PlaybackStream) (ring : List ℤ) → IsSoundClient c ring
      → refusal_of Playback c.status call.Drain ≡ None → CanUse c (P.view s.0)
      → Keeps P G s s (client c ring) (client (after_drop c) ring) (let r : Result (Unit {0}) PcmError = Ok tt in r) AnySamples
  dropped-kept s c ring sound admitted port =
      left-kept s c ring Setup (IsSoundClient-dropped c ring sound admitted) port refl

-- ---- what a pause and a resume keep, and why a resume answered so

pub resume-paused : (stopped : Bool) (s : State)
    → (let o : Option PcmError = (if stopped then Some error.Stopped else refusal_in (next_of s call.Resume
    (nothing_found Playback)).answer) in o) ≡ None → s ≡ Paused
resume-paused false Paused is = refl
resume-paused stopped s is = absurd (cc)

-- with which counts a call begins
stays-based : (a b : Bool) (c d : PlaybackStream) → (a ≡ true → b ≡ true) → (if a && not b then d else c) ≡ c
stays-based true false c d is = absurd (let no = is refl in cc)
stays-based a b c d is = refl

pub base-kept : (c d : PlaybackStream) → (is_paused c.status.state ≡ true → is_paused d.status.state ≡ true) → base_of c d ≡ c
base-kept c d is = stays-based (is_paused c.status.state) (is_paused d.status.state) c (with_new_base c) is

anew-based : (a b : Bool) (c d : PlaybackStream) → a ≡ true → b ≡ false → (if a && not b then d else c) ≡ d
anew-based true false c d is_paused is = refl
anew-based a b c d is_paused is = absurd (cc)

pub base-anew : (c d : PlaybackStream) → c.status.state ≡ Paused → is_paused d.status.state ≡ false → base_of c d ≡ with_new_base c
base-anew c d is goes = anew-based (is_paused c.status.state) (is_paused d.status.state) c (with_new_base c) (ap is_paused is) goes

-- the counts of a paused client, based anew, are those of a prepared one
pub IsSoundClient-rebased : (c : PlaybackStream) (ring : List ℤ) → IsSoundClient c ring → c.status.state ≡ Paused → IsSoundClient (with_new_base c) ring
IsSoundClient-rebased c ring sound is = grind (arith, nat_tests)

-- a client that was running and is paused
pub IsSoundClient-paused : (c : PlaybackStream) (ring : List ℤ) → IsSoundClient c ring → refusal_of Playback c.status call.Pause ≡ None
    → IsSoundClient (after_pause c) ring
IsSoundClient-paused c ring sound admitted = grind (arith, nat_tests)

-- a start that loaded the position isn't paused
not_paused-after_start : (c : PlaybackStream) (cursor : Cursor) (position : Position) (commit : Commit)
    → is_paused (after_start c Running cursor (Some position) commit).0.status.state ≡ false
not_paused-after_start c cursor position commit = grind (arith, nat_tests)

module _ {S T : Type 0} (P : mixport.Ghosts S) (G : gates.Ghosts T) (laid_composes : Composes P.laid) (loaded_composes : Composes P.loaded) where
  -- a pause
  pub paused-kept : (s : S × T) (c : PlaybackStream) (ring : List ℤ) → IsSoundClient c ring
      → refusal_of Playback c.status call.Pause ≡ None → CanUse c (P.view s.0)
      → Keeps P G s s (client (base_of c (after_pause c)) ring) (client (after_pause c) ring) (let r : Result (Unit {0}) PcmError = Ok tt in r) AnySamples
  paused-kept s c ring sound admitted port =
      rw (base-kept c (after_pause c) (λ is. refl)) (left-kept P G laid_composes loaded_composes s c ring Paused (IsSoundClient-paused c ring sound admitted) port refl)

  CanUse-rebased : (c : PlaybackStream) (v : PortView) → CanUse c v → CanUse (with_new_base c) v
  CanUse-rebased c v port = CanUse-still c (with_new_base c) v v port (IsSamePort-refl v) refl (λ moves going. cc)

  -- a resume without pending frames
  pub rebased-kept : (s : S × T) (c : PlaybackStream) (ring : List ℤ) → IsSoundClient c ring
      → refusal_of Playback c.status call.Resume ≡ None → CanUse c (P.view s.0)
      → Keeps P G s s (client (base_of c (with_new_base c)) ring) (client (with_new_base c) ring) (let r : Result (Unit {0}) PcmError = Ok tt in r) AnySamples
  rebased-kept s c ring sound admitted port = grind (arith, nat_tests)

  -- a resume with pending frames
  resumed-by : (s t : S × T) (c : PlaybackStream) (ring : List ℤ) (cursor : Cursor) (load : Option Position) (commit : Commit) → IsSoundClient c ring
      → c.status.state ≡ Paused → CanUse c (P.view s.0) → IsSamePort (P.view s.0) (P.view t.0)
      → P.laid s.0 t.0 (entries_at load (λ position. started_in (with_new_base c) Running position cursor) ring commit)
      → Keeps P G s t (client (with_new_base c) ring) (client (after_start (with_new_base c) Running cursor load commit).0 ring)
      (after_start (with_new_base c) Running cursor load commit).1 AnySamples
      → Keeps P G s t (client (base_of c (after_resume c cursor load commit).0) ring) (client (after_resume c cursor load commit).0 ring)
      (after_resume c cursor load commit).1 AnySamples
  resumed-by s t c ring cursor None commit sound is port same laid_nothing keeps =
      let st : Status = record c.status { stopped = true } in
      rw (base-kept c (record c { status = st }) (λ is. is)) (Keeps-status P G laid_composes loaded_composes st (IsSoundClient-stopped c ring sound) port same
      laid_nothing keeps.told (λ moves going. cc))
  resumed-by s t c ring cursor (Some position) commit sound is port same laid_nothing keeps =
      rw (base-anew c (after_start (with_new_base c) Running cursor (Some position) commit).0 is
      (not_paused-after_start (with_new_base c) cursor position commit)) keeps

  pub resumes-kept : (s t : S × T) (c : PlaybackStream) (ring : List ℤ) (a : Answered (Unit {0})) → IsSoundClient c ring → c.status.state ≡ Paused
      → (P.view s.0).marks.cursor.frame ≤ end_frame c.identity.geometry → CanUse c (P.view s.0)
      → TakesAt P G s (resumes c (P.view s.0).marks.cursor ring) t a → Keeps P G s t (client (base_of c a.0) ring) (client a.0 ring) a.1 AnySamples
  unfolding resumes
  resumes-kept s t c ring a sound is near port takes =
      let cursor = (P.view s.0).marks.cursor in
      let at : Position → PlaybackStream = λ position. started_in (with_new_base c) Running position cursor in
      let count : Position → ℕ = λ position. start_count (with_new_base c) cursor position (pending_of c) in
      let bound = (sound.configured (sound.set_up (ap is_set_up is))).bound in
      let parts = Takes-parts (LoadsAt P G) (LaysAt P G) NoGet s t (looks at count ring) (λ found. ends (after_resume c cursor found.0 found.1)) a takes in
      let begun : Answered (Unit {0}) = after_start (with_new_base c) Running cursor parts.1.0 parts.1.1 in
      let keeps = (start-kept P G laid_composes loaded_composes s parts.0 (with_new_base c) ring Running begun (IsSoundClient-rebased c ring sound is) refl refl
      near (CanUse-rebased c (P.view s.0) port)
      (starts-by P G s parts.0 (with_new_base c) Running cursor (pending_of c) ring parts.1.0 parts.1.1 begun parts.2 refl)).0 in
      let looked = TakesAt-looks P G laid_composes loaded_composes at count ring c.setup.bindings s parts.0 parts.1.0 parts.1.1 bound
      (λ position. refl) parts.2 in
      subst (λ (u : S × T). Keeps P G s u (client (base_of c a.0) ring) (client a.0 ring) a.1 AnySamples) (sym parts.3.there)
      (subst (λ (b : Answered (Unit {0})). Keeps P G s parts.0 (client (base_of c b.0) ring) (client b.0 ring) b.1 AnySamples) (sym parts.3.result)
      (resumed-by s parts.0 c ring cursor parts.1.0 parts.1.1 sound is port (TakesAt-same P G s parts.0 (looks at count ring) parts.1 parts.2)
      looked.laid_them keeps))

  why-resumed : (t : S × T) (c : PlaybackStream) (cursor : Cursor) (load : Option Position) (commit : Commit)
      → IfSome load (λ position. OnLate commit.ended (λ word. IsPast P.view P.shows t.0 (end_of_commit (started_in (with_new_base c) Running position cursor)
      commit) (end_channel (started_in (with_new_base c) Running position cursor) commit) word))
      → IsCaused {X = Unit {0}} P.view P.shows t.0 (with_new_base c) (after_resume c cursor load commit).0 load (after_resume c cursor load commit).1
  why-resumed t c cursor load commit shown = grind (arith, nat_tests)

  pub resumes-explained : (s t : S × T) (c : PlaybackStream) (ring : List ℤ) (cursor : Cursor) (a : Answered (Unit {0})) → IsSoundClient c ring
      → c.status.state ≡ Paused → TakesAt P G s (resumes c cursor ring) t a
      → Explains P G s t (client (with_new_base c) ring) (λ position. started_in (with_new_base c) Running position cursor)
      (λ position. start_count (with_new_base c) cursor position (pending_of c)) (after_resume c cursor) a
  unfolding resumes
  resumes-explained s t c ring cursor a sound is takes =
      let bound = (sound.configured (sound.set_up (ap is_set_up is))).bound in
      let st = TakesAt-step P G laid_composes loaded_composes (λ position. started_in (with_new_base c) Running position cursor)
      (λ position. start_count (with_new_base c) cursor position (pending_of c)) ring c.setup.bindings (after_resume c cursor) s t a bound
      (λ position. refl) takes in
      explained-by P G laid_composes loaded_composes st (why-resumed t c cursor st.load st.commit st.looked.shown)
