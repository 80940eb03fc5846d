-- What a rewind keeps, and why it answered so: by its load, by its withdrawals, and by both.
use Rattle.dmix_client.specs.Prelude.{ap, arith, length, List, refl, subst, sym, ℕ, [], ◌++◌, ◌+◌, ◌-◌, ◌<◌, ◌∙◌, ◌≡◌, ◌≤◌, nat_tests, Bool, Err, false, IfSome}
use Rattle.dmix_client.specs.Prelude.{if◌then◌else◌, max, min, nat_eq, None, Ok, OnOk, Option, Result, slice_index, Some, true, unwrap_or, ℤ, PcmError, Cursor}
use Rattle.dmix_client.specs.Prelude.{first_free, IsFrom, Composes, AreBindings, rising, State, Paused, Prepared, Running, Xrun, is_moving, Marks, Ended, Late}
use Rattle.dmix_client.specs.Prelude.{Stopped, Whole, Entry, Position, stops_after, IsPast, OnLate, PortView, IsSamePort, LaysAt, LoadsAt, NoGet, TakesAt}
use Rattle.dmix_client.specs.Prelude.{TakesAt-same, Course, ends, Takes-map, Takes-parts, Takes-then, CountsStop, pass_by, Commit, PlaybackStream, after_sync}
use Rattle.dmix_client.specs.Prelude.{Answered, with_number, IsCaused, course_with_number, nothing, run_entries, sample_at, frames_used, run_entries-append}
use Rattle.dmix_client.specs.Prelude.{run_entries-same, AnySamples, Keeps, KeepsBack, Loses, segment_entries, StandsFor, TakesAway, CanUse, IsFrameStep}
use Rattle.dmix_client.specs.Prelude.{least_channel, after_rewind, back_of, checks, held_entries, rewind_on, rewindable_of, rewinds, take_frames, taken_back}
use Rattle.dmix_client.specs.Prelude.{takes_back, without_frames, ClientView, hw_of, IsGoing, IsMoving, IsSoundClient, ring_sample}
use Rattle.dmix_client.specs.RewindCauses.{ExplainsCheck, ExplainsRewind, IsKeptCause}
use Rattle.dmix_client.proofs.Caused.{IsCaused-plain, caused-error, caused-number, caused-other, free-by, other-ok}
use Rattle.dmix_client.proofs.Ends.{after_sync-leaves}
use Rattle.dmix_client.proofs.Frames.{IsFrom-later}
use Rattle.dmix_client.proofs.Going.{after_sync-runs}
use Rattle.dmix_client.proofs.Keeping.{Keeps-numbered, Synced, client, loaded-kept, loaded-of, unloaded-kept}
use Rattle.dmix_client.proofs.Sound.{CommitsAs-seen, IsMoving-seen, configured-moving, hw-started, min-newer}
use Rattle.dmix_client.proofs.Withdrawing.{AreLeft, HoldsBy, TakesAt-back, TakesAway-behind, TakesAway-joined, TakesAway-none, TookFrames, last_frame, last_place}
use Rattle.mix_core.specs.declared.gate.Gate as gates
use Rattle.mix_core.specs.declared.port.MixPort as mixport
use Rattle.pcm_states.specs.declared.calls.Call.TheVariants as call
use Rattle.snd_base.specs.declared.errors.PcmError.TheVariants as error
use Rattle.snd_base.specs.declared.errors.XrunWhy.TheVariants as why

-- what it leaves: the client but for its status and the position that it saw
pub record Checked {S T : Type 0} (P : mixport.Ghosts S) (G : gates.Ghosts T) (s t : S × T) (c : PlaybackStream) (ring : List ℤ)
    (a : Answered (Unit {0})) : Type 0 where
  pub keeps : Keeps P G s t (client c ring) (client a.0 ring) a.1 AnySamples
  pub goes : OnOk a.1 (IsGoing a.0)
  pub runs : OnOk a.1 (a.0.status.state ≡ Running)
  pub marks : (P.view t.0).marks ≡ (P.view s.0).marks
  pub same : a.0 ≡ record c { status = a.0.status; seen = a.0.seen }
  pub later : min c.stretch.committed (hw_of c) ≤ hw_of a.0
  pub explains : ExplainsCheck P G s t c (λ load. after_sync c call.Transfer load nothing) a
  pub timely : (frame channel word : ℕ) → a.1 ≡ Err (error.Xrun (why.Late frame channel word)) → ⊥

any-of : (load : Option Position) (X : Position → Type 0) → ((position : Position) → X position) → IfSome load X
any-of None X is = tt
any-of (Some position) X is = is position

same-of : (c : PlaybackStream) (load : Option Position) → c.stretch.part ≡ 0
    → (let a = after_sync c call.Transfer load nothing in a.0 ≡ record c { status = a.0.status; seen = a.0.seen })
same-of c load whole = grind (arith, nat_tests)

-- nothing that it answers is late
after_sync-timely : (c : PlaybackStream) (load : Option Position) (frame channel word : ℕ) → c.status.state ≡ Running
    → (after_sync c call.Transfer load nothing).1 ≡ Err (error.Xrun (why.Late frame channel word)) → ⊥
after_sync-timely c load frame channel word runs = grind (arith, nat_tests)

module _ {S T : Type 0} (P : mixport.Ghosts S) (G : gates.Ghosts T) (laid_composes : Composes P.laid) (loaded_composes : Composes P.loaded) where
  -- by what was loaded: what is kept, and that the frames played don't fall
  checked-by : (s t : S × T) (c : PlaybackStream) (ring : List ℤ) (load : Option Position) → IsSoundClient c ring → c.status.state ≡ Running
      → c.status.stopped ≡ false → CanUse c (P.view s.0) → IsSamePort (P.view s.0) (P.view t.0) → LoadsAt P G s load t
      → Synced P G laid_composes loaded_composes s t c ring (λ d. Unit {0}) (after_sync c call.Transfer load nothing)
      × (min c.stretch.committed (hw_of c) ≤ hw_of (after_sync c call.Transfer load nothing).0)
  checked-by s t c ring None sound runs going port same step = (
    unloaded-kept P G laid_composes loaded_composes s t c ring (λ d. Unit {0}) sound port same step.laid_nothing step.stopped,
    min-newer c.stretch.committed
        (hw_of c) (hw_of c) (omega arith),
  )
  checked-by s t c ring (Some position) sound runs going port same step =
      let moves : is_moving c.status.state ≡ true = ap is_moving runs in
      let callable : IsFrameStep c.status.state call.Transfer = subst (λ (st : State). IsFrameStep st call.Transfer) (sym runs) tt in
      let loaded = loaded-of c (P.view s.0) position moves going port step.newer step.within in
      let m = IsMoving-seen c position (sound.moving moves going) loaded in
      let y = CommitsAs-seen c ring position nothing 0 sound moves going loaded (omega arith) (refl, refl) in
      let here : IsFrom (P.view t.0).marks.cursor (c.stretch.card + (c.stretch.committed + 0)) (least_channel c.setup.bindings) =
      subst (λ (v : PortView). IsFrom v.marks.cursor (c.stretch.card + (c.stretch.committed + 0)) (least_channel c.setup.bindings)) (sym step.view_is)
      (omega (arith, port.behind moves going)) in (
        loaded-kept P G laid_composes loaded_composes s t c ring call.Transfer position nothing 0 (λ d. Unit {0}) moves going callable y port same
            (ap (λ (v : PortView). v.seen) step.view_is) step.laid_nothing step.stopped
            (λ st on gone in_time none. (
              record {
                started = m.started;
                whole = refl;
                laid_most = omega (arith, m.laid_most);
                fits = m.fits;
                pending = omega (arith, m.pending);
              },
              here,
              tt,
            )),
        after_sync-leaves (λ (d : PlaybackStream). min c.stretch.committed (hw_of c) ≤ hw_of d) c call.Transfer position nothing (λ st. y.later),
      )

  pub checks-kept : (s t : S × T) (c : PlaybackStream) (ring : List ℤ) (a : Answered (Unit {0})) → IsSoundClient c ring → c.status.state ≡ Running
      → c.status.stopped ≡ false → CanUse c (P.view s.0)
      → TakesAt P G s (checks c) t a → Checked P G s t c ring a
  unfolding checks
  checks-kept s t c ring a sound runs going port (load, m, step, rest) =
      let kept = checked-by s m c ring load sound runs going port (TakesAt-same P G s m (checks c) (after_sync c call.Transfer load nothing)
      (load, m, step, record { there = refl; result = refl })) step in
      let callable : IsFrameStep c.status.state call.Transfer = subst (λ (st : State). IsFrameStep st call.Transfer) (sym runs) tt in
      subst (λ (u : S × T). Checked P G s u c ring a) (sym rest.there) (subst (λ (b : Answered (Unit {0})). Checked P G s m c ring b)
      (sym rest.result) (record {
        keeps = kept.0.keeps;
        goes = kept.0.goes;
        runs = after_sync-runs c load nothing runs;
        marks = ap (λ (v : PortView). v.marks) step.view_is;
        same = same-of c load (sound.moving (ap is_moving runs) going).whole;
        later = kept.1;
        explains = record {
          load = load;
          loaded_it = step.loaded_it;
          laid_nothing = step.laid_nothing;
          outcome = refl;
          why = IsCaused-plain c call.Transfer load nothing callable (any-of load _
              (λ position. record { here = λ gone. refl; below = λ x f over. refl })) (any-of load _ (λ position. tt));
        };
        timely = λ frame channel word is. after_sync-timely c load frame channel word runs is;
      }))

  pub checks-by : (s t : S × T) (c : PlaybackStream) (load : Option Position) (done : Answered (Unit {0})) → LoadsAt P G s load t
      → after_sync c call.Transfer load nothing ≡ done → TakesAt P G s (checks c) t done
  unfolding checks
  checks-by s t c load done step is = (load, t, step, record { there = refl; result = sym is })

-- ---- what a rewind leaves of a client that runs, by what its withdrawals left

-- so many frames can be taken back: they are accepted, and the committed ones among them aren't played, nor before the floor
pub record IsBack (d : PlaybackStream) (floor : Cursor) (n : ℕ) : Type 0 where
  pub few : n ≤ d.stretch.written
  pub back : back_of d n ≤ d.stretch.committed
  pub from : 0 < back_of d n → max (unwrap_or d.seen 0) (first_free floor 0) ≤ d.stretch.card + (d.stretch.committed - back_of d n)
  pub whole : 0 < back_of d n → d.stretch.written - n ≡ d.stretch.committed - back_of d n

pub IsBack-of : (d : PlaybackStream) (floor : Cursor) (n : ℕ) → IsMoving d → n ≤ rewindable_of floor d → IsBack d floor n
IsBack-of d floor n m few = grind (arith, nat_tests)

-- what isn't played is at or after the first of them
unplayed : (k b seen top card h : ℕ) → h ≡ seen - card → b ≤ k → (0 < b → max seen top ≤ card + (k - b)) → min k h ≤ k - b
unplayed k b seen top card h is most from = grind (arith, nat_tests, from)

pub first-unplayed : (d : PlaybackStream) (floor : Cursor) (n : ℕ) → IsMoving d → IsBack d floor n
    → min d.stretch.committed (hw_of d) ≤ d.stretch.committed - back_of d n
first-unplayed d floor n m is =
    unplayed d.stretch.committed (back_of d n) (unwrap_or d.seen 0) (first_free floor 0) d.stretch.card (hw_of d) (hw-started d m.started) is.back is.from

-- the frames of a run up to one, and those from it on
run_entries-split : (member : ℕ) (bindings : List ℕ) (s : ℕ → ℕ → ℤ) (card from at k m n part : ℕ) → from + k ≡ at → m ≡ k + n
    → run_entries member bindings s card from m part ≡ run_entries member bindings s card from k 0 ++ run_entries member bindings s card at n part
run_entries-split member bindings s card from at k m n part is sum =
    ap (λ (j : ℕ). run_entries member bindings s card from j part) sum ∙ run_entries-append member bindings s card from k n part
    ∙ ap (λ (j : ℕ). run_entries member bindings s card from k 0 ++ run_entries member bindings s card j n part) is

-- the frames that are withdrawn are the last of those that the local ring has
pub held-last : (d : PlaybackStream) (ring : List ℤ) (floor : Cursor) (n : ℕ) → IsMoving d → IsBack d floor n
    → held_entries d ring ≡ run_entries d.identity.member d.setup.bindings (ring_sample d ring) d.stretch.card (min d.stretch.committed (hw_of d))
    (d.stretch.committed - back_of d n - min d.stretch.committed (hw_of d)) 0
    ++ run_entries d.identity.member d.setup.bindings (ring_sample d ring) d.stretch.card (d.stretch.committed - back_of d n) (back_of d n) 0
held-last d ring floor n m is =
    let low = first-unplayed d floor n m is in
    let from : ℕ = min d.stretch.committed (hw_of d) in
    run_entries-split d.identity.member d.setup.bindings (ring_sample d ring) d.stretch.card from (d.stretch.committed - back_of d n)
    (d.stretch.committed - back_of d n - from) (d.stretch.committed - from) (back_of d n) 0 (omega (arith, low)) (omega (arith, low, is.back))

-- the client after it
abbrev pub back_in : PlaybackStream → ℕ → Commit → State → Bool → PlaybackStream
back_in d n x s stopped = record (taken_back d n x) { status = record { state = s; stopped = stopped } }

pub left-few : (e : Ended) (frames part count channels : ℕ) → AreLeft e frames part count channels → (frames ≤ count) × (frames_used frames part ≤ count)
left-few Whole frames part count channels are = (omega (arith, are.0), let none = are.0 in let whole = are.1 in grind (arith, nat_tests))
left-few other frames part count channels are = (let used = are.1 in grind (arith, nat_tests), are.1)

pub left-part : (e : Ended) (frames part count channels : ℕ) → AreLeft e frames part count channels → OnLate e (λ word. part < channels)
left-part (Late word) frames part count channels are = are.2
left-part other frames part count channels are = tt

frame-same : (first f part : ℕ) → 0 < f + part → first + (if nat_eq part 0 then f - 1 else f) ≡ (if nat_eq part 0 then first + f - 1 else first + f)
frame-same first f part some = grind (arith, nat_tests)

module _ (d : PlaybackStream) (ring : List ℤ) (floor : Cursor) (n : ℕ) (sound : IsSoundClient d ring) (runs : d.status.state ≡ Running)
    (going : d.status.stopped ≡ false) (is : IsBack d floor n) where
  m : IsMoving d
  m = sound.moving (ap is_moving runs) going

  bound : AreBindings d.setup.bindings
  bound = (configured-moving d ring sound (ap is_moving runs)).bound

  IsSoundClient-back : (x : Commit) (s : State) (stopped : Bool) → x.frames ≤ back_of d n → (s ≡ Prepared → ⊥) → (s ≡ Paused → ⊥)
      → (is_moving s ≡ true → stopped ≡ false → IsMoving (back_in d n x s stopped))
      → IsSoundClient (back_in d n x s stopped) ring
  IsSoundClient-back x s stopped few not_prepared not_paused moves = grind (arith, nat_tests)

  IsMoving-back : (x : Commit) (s : State) (stopped : Bool) → x.frames ≡ 0 → x.part ≡ 0 → IsMoving (back_in d n x s stopped)
  IsMoving-back x s stopped none whole = grind (arith, nat_tests)

  StandsFor-back : (x : Commit) (s : State) (stopped : Bool) (samples : List ℤ) → x.frames ≤ back_of d n → StandsFor d ring samples
      → StandsFor (back_in d n x s stopped) ring samples
  StandsFor-back x s stopped samples few stands j q low high in_range = grind (arith, nat_tests)

  -- the first of the committed frames that are taken back
  abbrev first : ℕ
  first = d.stretch.committed - back_of d n

  -- the entries of some of the client's frames, from one on; of those in the ring, from the first that is taken back
  abbrev entries_from : (ℕ → ℕ → ℤ) → ℕ → ℕ → ℕ → List Entry
  entries_from sample_of from frames part = run_entries d.identity.member d.setup.bindings sample_of d.stretch.card from frames part

  abbrev held : ℕ → ℕ → List Entry
  held frames part = entries_from (ring_sample d ring) first frames part

  -- and by a list of samples, of those before it
  abbrev sampled : List ℤ → ℕ → ℕ → ℤ
  sampled samples j = sample_at samples (length d.setup.bindings) (d.stretch.source + j)

  abbrev early : List ℤ → List Entry
  early samples = entries_from (sampled samples) 0 first 0

  -- the last committed frames are withdrawn, as many as this
  abbrev taking : ℕ → Course Commit
  taking b = take_frames d.identity.member d.stretch.card d.setup.bindings (ring_sample d ring) (d.stretch.committed - b) b

  -- the frames of the ring are those of the samples
  ring-samples : (samples : List ℤ) (frames part : ℕ) → frames_used frames part ≤ back_of d n → StandsFor d ring samples
      → held frames part ≡ entries_from (sampled samples) first frames part
  ring-samples samples frames part used stands =
      run_entries-same d.identity.member d.setup.bindings (ring_sample d ring) (sampled samples) d.stretch.card first frames part bound
      (λ j q least most h. stands j q (omega (arith, least, first-unplayed d floor n m is)) (omega (arith, most, used, is.back, m.laid_most)) h)

  -- the segment, before and after
  segment-before : (samples : List ℤ) → StandsFor d ring samples → segment_entries d samples ≡ early samples ++ held (back_of d n) 0
  segment-before samples stands =
      ap (λ (p : ℕ). entries_from (sampled samples) 0 d.stretch.committed p) m.whole
      ∙ run_entries-split d.identity.member d.setup.bindings (sampled samples) d.stretch.card 0 first first d.stretch.committed (back_of d n) 0 (omega arith)
      (omega (arith, is.back))
      ∙ ap (λ (es : List Entry). early samples ++ es) (sym (ring-samples samples (back_of d n) 0 (omega arith) stands))

  segment-after : (x : Commit) (t : State) (stopped : Bool) (samples : List ℤ) → frames_used x.frames x.part ≤ back_of d n → StandsFor d ring samples
      → segment_entries (back_in d n x t stopped) samples ≡ early samples ++ held x.frames x.part
  segment-after x t stopped samples used stands =
      run_entries-split d.identity.member d.setup.bindings (sampled samples) d.stretch.card 0 first first (first + x.frames) x.frames x.part (omega arith) refl
      ∙ ap (λ (es : List Entry). early samples ++ es) (sym (ring-samples samples x.frames x.part used stands))

  -- what a rewind leaves at a port, by how its withdrawals ended
  module _ {S T : Type 0} (P : mixport.Ghosts S) (G : gates.Ghosts T) (holds : HoldsBy P) where
    pub record TakenBack (s t : S × T) (a : Answered ℕ) : Type 0 where
      pub keeps : KeepsBack P G s t (client d ring) (client a.0 ring) a.1
      pub loaded_nothing : P.loaded s.0 t.0 []

    -- what is known of the withdrawals
    abbrev Took : S × T → S × T → Commit → Type 0
    Took s t x = TookFrames P G holds s t d.identity.member d.stretch.card d.setup.bindings (ring_sample d ring) first (back_of d n) x

    loses-back : (s t : S × T) (x : Commit) (st : State) (stopped : Bool) (samples : List ℤ) → frames_used x.frames x.part ≤ back_of d n
        → TakesAway P.laid P.ends_in s.0 t.0 (held (back_of d n) 0) (held x.frames x.part)
        → StandsFor d ring samples → Loses P.laid P.ends_in s.0 t.0 d (back_in d n x st stopped) samples
    loses-back s t x st stopped samples used away stands = record {
      away = subst (λ (es : List Entry). TakesAway P.laid P.ends_in s.0 t.0 es (segment_entries (back_in d n x st stopped) samples))
          (sym (segment-before samples stands))
          (subst (λ (es : List Entry). TakesAway P.laid P.ends_in s.0 t.0 (early samples ++ held (back_of d n) 0) es)
          (sym (segment-after x st stopped samples used stands)) (TakesAway-behind P G holds s.0 t.0 (early samples) _ _ away));
      same_member = refl;
      same_bindings = refl;
    }

    -- where all were withdrawn, the port's cursor is where the client goes on
    cursor-back : (s t : S × T) (x : Commit) → CanUse d (P.view s.0) → x.frames ≡ 0 → (back_of d n ≡ 0 → P.view t.0 ≡ P.view s.0)
        → (0 < back_of d n → (P.view t.0).marks.cursor ≡ record { frame = d.stretch.card + first; channel = least_channel d.setup.bindings })
        → IsFrom (P.view t.0).marks.cursor (d.stretch.card + (first + x.frames)) (least_channel d.setup.bindings)
    cursor-back s t x port none still moved = grind (arith, nat_tests)

    -- what it leaves in a state, where the client is neither prepared nor paused then
    left-back : (s t : S × T) (x : Commit) (st : State) (stopped : Bool) (answer : Result ℕ PcmError) → CanUse d (P.view s.0) → Took s t x → (st ≡ Prepared → ⊥)
        → (st ≡ Paused → ⊥) → CountsStop answer (G.stops s.1) (G.stops t.1)
        → (is_moving st ≡ true → stopped ≡ false → (x.frames ≡ 0) × (x.part ≡ 0) × IsFrom (P.view t.0).marks.cursor
        (d.stretch.card + (first + x.frames)) (least_channel d.setup.bindings))
        → TakenBack s t (back_in d n x st stopped, answer)
    left-back s t x st stopped answer port took not_prepared not_paused told moves =
        let few = left-few x.ended x.frames x.part (back_of d n) (length d.setup.bindings) took.are_left in
        record {
          keeps = record {
            sound = IsSoundClient-back x st stopped few.0 not_prepared not_paused (λ moving unstopped. let all = moves moving unstopped in IsMoving-back x
                st stopped all.0 all.1);
            port = record {
              same_geometry = ap (λ (v : PortView). v.geometry) took.view_is ∙ port.same_geometry;
              same_member = ap (λ (v : PortView). v.member) took.view_is ∙ port.same_member;
              can = ap (λ (v : PortView). v.can_add) took.view_is ∙ port.can;
              behind = λ moving unstopped. (moves moving unstopped).2;
              newer = λ moving unstopped. omega (arith, port.newer (ap is_moving runs) going, ap (λ (v : PortView). v.seen) took.view_is);
            };
            told = λ unstopped. told;
            loses = λ samples stands. loses-back s t x st stopped samples few.1 took.away stands;
            stands = λ samples stands. StandsFor-back x st stopped samples few.0 stands;
          };
          loaded_nothing = took.loaded_nothing;
        }

    by_end : (s t : S × T) (frames part : ℕ) (e : Ended) → CanUse d (P.view s.0) → Took s t (record { frames = frames; part = part; ended = e })
        → TakenBack s t (after_rewind d n (record { frames = frames; part = part; ended = e }))
    by_end s t frames part Whole port took =
        let x : Commit = record { frames = frames; part = part; ended = Whole } in
        left-back s t x Running d.status.stopped _ port took (λ waits. cc) (λ still. cc) took.stopped
        (λ moves unstopped. (took.are_left.0, took.are_left.1, cursor-back s t x port took.are_left.0 took.still took.cursor))
    by_end s t frames part (Late word) port took =
        left-back s t _ Xrun d.status.stopped _ port took (λ waits. cc) (λ still. cc) took.stopped (λ moves unstopped. absurd (cc))
    by_end s t frames part Stopped port took =
        left-back s t _ d.status.state true _ port took (λ waits. cc) (λ still. cc) took.stopped (λ moves unstopped. absurd (cc))

    -- the withdrawals of a client's rewind
    took-of : (s t : S × T) (x : Commit) → (P.view s.0).marks.floor ≡ floor → CanUse d (P.view s.0)
        → TakesAt P G s (taking (back_of d n)) t x → Took s t x
    took-of s t x is_floor port takes =
        TakesAt-back P G holds d.identity.member d.stretch.card d.setup.bindings (ring_sample d ring) first (back_of d n) s t x bound port.same_member
        (λ some. subst (λ (c : Cursor). IsFrom c (d.stretch.card + first) (least_channel d.setup.bindings)) (sym is_floor)
        (IsFrom-later floor (d.stretch.card + first) 0 (least_channel d.setup.bindings) (omega arith) (omega (arith, is.from some)))) takes

    pub takes_back-kept : (s t : S × T) (a : Answered ℕ) → (P.view s.0).marks.floor ≡ floor → CanUse d (P.view s.0)
        → TakesAt P G s (takes_back d ring n) t a → TakenBack s t a
    unfolding takes_back
    takes_back-kept s t a is_floor port takes =
        let parts = Takes-parts (LoadsAt P G) (LaysAt P G) NoGet s t (taking (back_of d n)) (λ left. ends (after_rewind d n left)) a takes in
        let x = parts.1 in
        subst (λ (u : S × T). TakenBack s u a) (sym parts.3.there) (subst (λ (b : Answered ℕ). TakenBack s parts.0 b) (sym parts.3.result)
        (by_end s parts.0 x.frames x.part x.ended port (took-of s parts.0 x is_floor port parts.2)))

    -- why it answered so, after a load that went well
    why_end : (t : S × T) (c u : PlaybackStream) (load : Option Position) (frames part : ℕ) (e : Ended)
        → AreLeft e frames part (back_of d n) (length d.setup.bindings)
        → OnLate e (λ word. IsPast P.view P.shows t.0 (d.stretch.card + (first + last_frame frames part))
        (slice_index d.setup.bindings (slice_index (rising d.setup.bindings) (last_place part (length d.setup.bindings)))) word)
        → IsCaused {X = Unit {0}} P.view P.shows t.0 c u load (Ok tt)
        → (let a : Answered ℕ = after_rewind d n (record { frames = frames; part = part; ended = e }) in IsKeptCause {X = ℕ} P.view P.shows t.0 c a.0 load a.1)
    why_end t c u load frames part e are late why_ok = grind (arith, nat_tests)

    pub takes_back-why : (s t : S × T) (c u : PlaybackStream) (load : Option Position) (a : Answered ℕ) → (P.view s.0).marks.floor ≡ floor
        → CanUse d (P.view s.0) → TakesAt P G s (takes_back d ring n) t a
        → IsCaused {X = Unit {0}} P.view P.shows t.0 c u load (Ok tt) → IsKeptCause {X = ℕ} P.view P.shows t.0 c a.0 load a.1
    unfolding takes_back
    takes_back-why s t c u load a is_floor port takes why_ok =
        let parts = Takes-parts (LoadsAt P G) (LaysAt P G) NoGet s t (taking (back_of d n)) (λ left. ends (after_rewind d n left)) a takes in
        let x = parts.1 in
        let took = took-of s parts.0 x is_floor port parts.2 in
        subst (λ (b : Answered ℕ). IsKeptCause {X = ℕ} P.view P.shows t.0 c b.0 load b.1) (sym parts.3.result)
        (why_end t c u load x.frames x.part x.ended took.are_left
        (subst (λ (v : S × T). OnLate x.ended (λ word. IsPast P.view P.shows v.0 (d.stretch.card + (first + last_frame x.frames x.part))
        (slice_index d.setup.bindings (slice_index (rising d.setup.bindings) (last_place x.part (length d.setup.bindings)))) word))
        (sym parts.3.there) took.late) why_ok)

    pub takes_back-by : (s t : S × T) (b : ℕ) (x : Commit) (done : Answered ℕ) → b ≡ back_of d n
        → TakesAt P G s (taking b) t x → after_rewind d n x ≡ done
        → TakesAt P G s (takes_back d ring n) t done
    unfolding takes_back
    takes_back-by s t b x done is_back takes is_done =
        Takes-map (LoadsAt P G) (LaysAt P G) NoGet s t (taking (back_of d n)) (λ left. after_rewind d n left) x done
        (subst (λ (k : ℕ). TakesAt P G s (taking k) t x) is_back takes) is_done

    pub take_frames-took : (s t : S × T) (b : ℕ) (x : Commit) → b ≡ back_of d n → (P.view s.0).marks.floor ≡ floor → CanUse d (P.view s.0)
        → TakesAt P G s (taking b) t x → AreLeft x.ended x.frames x.part (back_of d n) (length d.setup.bindings)
    take_frames-took s t b x is_back is_floor port takes =
        (took-of s t x is_floor port (subst (λ (k : ℕ). TakesAt P G s (taking k) t x) is_back takes)).are_left

-- ---- what a rewind keeps, and why it answered so, by its load and what followed it

min-both : (k h g : ℕ) → min k h ≤ g → (min k h ≤ min k g) × (min k g ≤ k)
min-both k h g low = (grind (arith, nat_tests), grind (arith, nat_tests))

pub few-of : (n r : ℕ) → min n r ≤ r
few-of n r = grind (arith, nat_tests)

module _ {S T : Type 0} (P : mixport.Ghosts S) (G : gates.Ghosts T) (holds : HoldsBy P) where
  -- a rewind of a stream that runs
  pub record Rewound (s t : S × T) (c : PlaybackStream) (ring : List ℤ) (n : ℕ) (a : Answered ℕ) : Type 0 where
    pub keeps : KeepsBack P G s t (client c ring) (client a.0 ring) a.1
    pub explains : ExplainsRewind P G s t c ring (P.view s.0).marks.floor n a

  -- the load alone
  loses-checked : (s t : S × T) (c : PlaybackStream) (ring : List ℤ) (a : Answered (Unit {0})) (samples : List ℤ) → Checked P G s t c ring a
      → TakesAway P.laid P.ends_in s.0 t.0 (segment_entries c samples) (segment_entries a.0 samples)
  loses-checked s t c ring a samples checked =
      subst (λ (d : PlaybackStream). TakesAway P.laid P.ends_in s.0 t.0 (segment_entries c samples) (segment_entries d samples)) (sym checked.same)
      (TakesAway-none P G holds s.0 t.0 (segment_entries c samples) checked.explains.laid_nothing)

  rewound-ill : (s m t : S × T) (c d : PlaybackStream) (ring : List ℤ) (n : ℕ) (e : PcmError) (a : Answered ℕ) → Checked P G s m c ring (d, Err e)
      → TakesAt P G m (rewind_on (P.view s.0).marks.floor ring n (d, Err e)) t a
      → Rewound s t c ring n a
  rewound-ill s m t c d ring n e a checked takes =
      subst (λ (u : S × T). Rewound s u c ring n a) (sym takes.there) (subst (λ (b : Answered ℕ). Rewound s m c ring n b) (sym takes.result) (record {
        keeps = record {
          sound = checked.keeps.sound;
          port = checked.keeps.port;
          told = checked.keeps.told;
          loses = λ samples stands. record {
            away = loses-checked s m c ring (d, Err e) samples checked;
            same_member = ap (λ (x : PlaybackStream). x.identity.member) checked.same;
            same_bindings = ap (λ (x : PlaybackStream). x.setup.bindings) checked.same;
          };
          stands = λ samples stands. checked.keeps.stands samples stands tt;
        };
        explains = record {
          between = m;
          middle = (d, Err e);
          first = checked.explains;
          rest = record { there = refl; result = refl };
          loaded_nothing = holds.loaded_composes.none m.0;
          why = caused-error e (λ frame channel word is missed. absurd (checked.timely frame channel word (ap (λ (x : PcmError). let r : Result (Unit {0}) PcmError =
              Err x in r) is))) checked.explains.why;
        };
      }))

  rewound-well : (s m t : S × T) (c d : PlaybackStream) (ring : List ℤ) (n : ℕ) (a : Answered ℕ) → Checked P G s m c ring (d, Ok tt)
      → TakesAt P G m (rewind_on (P.view s.0).marks.floor ring n (d, Ok tt)) t a
      → Rewound s t c ring n a
  rewound-well s m t c d ring n a checked takes =
      let floor = (P.view s.0).marks.floor in
      let going : d.status.stopped ≡ false = checked.goes.unstopped in
      let moving : IsMoving d = checked.keeps.sound.moving (ap is_moving checked.runs) going in
      let is = IsBack-of d floor (min n (rewindable_of floor d)) moving (few-of n (rewindable_of floor d)) in
      let is_floor : (P.view m.0).marks.floor ≡ floor = ap (λ (x : Marks). x.floor) checked.marks in
      let back = takes_back-kept d ring floor (min n (rewindable_of floor d)) checked.keeps.sound checked.runs going is P G holds m t a is_floor
      checked.keeps.port takes in
      record {
        keeps = record {
          sound = back.keeps.sound;
          port = back.keeps.port;
          told = λ unstopped. back.keeps.told going ∙ ap (λ (k : ℕ). stops_after (pass_by a.1) k) (checked.keeps.told unstopped);
          loses = λ samples stands.
              let later = back.keeps.loses samples (checked.keeps.stands samples stands tt) in
              record {
                away = TakesAway-joined P G holds s.0 m.0 t.0 _ _ _ (loses-checked s m c ring (d, Ok tt) samples checked) later.away;
                same_member = later.same_member ∙ ap (λ (x : PlaybackStream). x.identity.member) checked.same;
                same_bindings = later.same_bindings ∙ ap (λ (x : PlaybackStream). x.setup.bindings) checked.same;
              };
          stands = λ samples stands. back.keeps.stands samples (checked.keeps.stands samples stands tt);
        };
        explains = record {
          between = m;
          middle = (d, Ok tt);
          first = checked.explains;
          rest = takes;
          loaded_nothing = back.loaded_nothing;
          why = takes_back-why d ring floor (min n (rewindable_of floor d)) checked.keeps.sound checked.runs going is P G holds m t c d checked.explains.load a
              is_floor checked.keeps.port takes
              (caused-other (free-by checked.explains.why) (other-ok tt));
        };
      }

  rewound-by : (s m t : S × T) (c : PlaybackStream) (ring : List ℤ) (n : ℕ) (middle : Answered (Unit {0})) (a : Answered ℕ) → Checked P G s m c ring middle
      → TakesAt P G m (rewind_on (P.view s.0).marks.floor ring n middle) t a
      → Rewound s t c ring n a
  rewound-by s m t c ring n (d, Ok done) a checked takes = rewound-well s m t c d ring n a checked takes
  rewound-by s m t c ring n (d, Err e) a checked takes = rewound-ill s m t c d ring n e a checked takes

  pub rewinds-kept : (s t : S × T) (c : PlaybackStream) (ring : List ℤ) (n : ℕ) (a : Answered ℕ) → IsSoundClient c ring → c.status.state ≡ Running
      → c.status.stopped ≡ false → CanUse c (P.view s.0)
      → TakesAt P G s (rewinds c ring (P.view s.0).marks.floor n) t a → Rewound s t c ring n a
  unfolding rewinds
  rewinds-kept s t c ring n a sound runs going port takes =
      let parts = Takes-parts (LoadsAt P G) (LaysAt P G) NoGet s t (checks c) (rewind_on (P.view s.0).marks.floor ring n) a takes in
      rewound-by s parts.0 t c ring n parts.1 a (checks-kept P G holds.laid_composes holds.loaded_composes s parts.0 c ring parts.1 sound runs
      going port parts.2) parts.3

  -- a port whose standing adds ended in the frames that the client's ring has still ends in those that it has after the load
  pub standing-checked : (s t : S × T) (c : PlaybackStream) (ring : List ℤ) (a : Answered (Unit {0})) → Checked P G s t c ring a
      → P.ends_in s.0 (held_entries c ring) → P.ends_in t.0 (held_entries a.0 ring)
  standing-checked s t c ring a checked stand =
      let d : PlaybackStream = record c { status = a.0.status; seen = a.0.seen } in
      let k : ℕ = c.stretch.committed in
      let from : ℕ = min k (hw_of c) in
      let at : ℕ = min k (hw_of d) in
      let both = min-both k (hw_of c) (hw_of d) (subst (λ (e : PlaybackStream). from ≤ hw_of e) checked.same checked.later) in
      let split = run_entries-split c.identity.member c.setup.bindings (ring_sample c ring) c.stretch.card from at (at - from) (k - from) (k - at) 0
      (omega (arith, both.0)) (omega (arith, both.0, both.1)) in
      subst (λ (e : PlaybackStream). P.ends_in t.0 (held_entries e ring)) (sym checked.same)
      (holds.nothing s.0 t.0 (held_entries d ring) checked.explains.laid_nothing (holds.part s.0
      (run_entries c.identity.member c.setup.bindings (ring_sample c ring) c.stretch.card from (at - from) 0) _ (subst (P.ends_in s.0) split stand)))

  pub rewinds-by : (s m t : S × T) (c : PlaybackStream) (ring : List ℤ) (floor : Cursor) (n : ℕ) (middle : Answered (Unit {0})) (a : Answered ℕ)
      → TakesAt P G s (checks c) m middle
      → TakesAt P G m (rewind_on floor ring n middle) t a → TakesAt P G s (rewinds c ring floor n) t a
  unfolding rewinds
  rewinds-by s m t c ring floor n middle a one two = Takes-then (LoadsAt P G) (LaysAt P G) NoGet s m t (checks c) (rewind_on floor ring n) middle a one two

  pub numbered-by : (s t : S × T) (c : PlaybackStream) (number : PlaybackStream → ℕ) (a : Answered (Unit {0})) (b : Answered ℕ) → TakesAt P G s (checks c) t a
      → with_number number a ≡ b → TakesAt P G s (course_with_number number (checks c)) t b
  unfolding course_with_number
  numbered-by s t c number a b takes is = Takes-map (LoadsAt P G) (LaysAt P G) NoGet s t (checks c) (λ done. with_number number done) a b takes is

  -- a call that does no more than the load, and answers a number
  pub record Numbered (s t : S × T) (c : PlaybackStream) (ring : List ℤ) (number : PlaybackStream → ℕ) (b : Answered ℕ) : Type 0 where
    pub keeps : Keeps P G s t (client c ring) (client b.0 ring) b.1 AnySamples
    pub explains : ExplainsCheck P G s t c (λ load. with_number number (after_sync c call.Transfer load nothing)) b

  pub numbered-kept : (s t : S × T) (c : PlaybackStream) (ring : List ℤ) (number : PlaybackStream → ℕ) (b : Answered ℕ) → IsSoundClient c ring
      → c.status.state ≡ Running → c.status.stopped ≡ false → CanUse c (P.view s.0)
      → TakesAt P G s (course_with_number number (checks c)) t b → Numbered s t c ring number b
  unfolding course_with_number
  numbered-kept s t c ring number b sound runs going port takes =
      let parts = Takes-parts (LoadsAt P G) (LaysAt P G) NoGet s t (checks c) (λ done. ends (with_number number done)) b takes in
      let a = parts.1 in
      let checked = checks-kept P G holds.laid_composes holds.loaded_composes s parts.0 c ring a sound runs going port parts.2 in
      subst (λ (u : S × T). Numbered s u c ring number b) (sym parts.3.there) (subst (λ (x : Answered ℕ). Numbered s parts.0 c ring number x)
      (sym parts.3.result) (record {
        keeps = Keeps-numbered P G holds.laid_composes holds.loaded_composes s parts.0 (client c ring) number a ring checked.keeps;
        explains = record {
          load = checked.explains.load;
          loaded_it = checked.explains.loaded_it;
          laid_nothing = checked.explains.laid_nothing;
          outcome = ap (with_number number) checked.explains.outcome;
          why = caused-number number a checked.explains.why;
        };
      }))

  -- a rewind of a stream that is prepared
  -- where nothing is done, all is kept
  pub KeepsBack-none : {X : Type 0} (s : S × T) (c : ClientView) (answer : Result X PcmError) → Keeps P G s s c c answer AnySamples
      → KeepsBack P G s s c c answer
  KeepsBack-none s c answer keeps = grind (arith, nat_tests)

  pub without-kept : (s : S × T) (c : PlaybackStream) (ring : List ℤ) (n : ℕ) → IsSoundClient c ring → c.status.state ≡ Prepared
      → n ≤ c.stretch.written → CanUse c (P.view s.0)
      → KeepsBack P G s s (client c ring) (client (without_frames c n) ring) (let r : Result ℕ PcmError = Ok n in r)
  without-kept s c ring n sound waits few port = grind (arith, nat_tests)
