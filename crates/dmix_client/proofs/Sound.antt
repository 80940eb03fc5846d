-- What a sync, a start and a write leave: a client with its counts in order, and a port that it can use.
use Rattle.dmix_client.specs.Prelude.{ap, arith, length, List, refl, subst, suc, sym, zero, ℕ, ◌+◌, ◌-◌, ◌<◌, ◌∙◌, ◌≡◌, ◌≤◌, nat_tests, Bool, false}
use Rattle.dmix_client.specs.Prelude.{if◌then◌else◌, is_some, max, min, nat_eq, None, OnOk, Option, Some, true, unwrap_or, ℤ, ◌&&◌, ◌||◌, XrunWhy, Cursor}
use Rattle.dmix_client.specs.Prelude.{end_frame, first_free, Call, Outcome, State, Draining, Paused, Prepared, Running, Setup, next_of, Status, is_moving}
use Rattle.dmix_client.specs.Prelude.{is_set_up, Ended, Position, OnWhole, PortView, IsSamePort, CountsStop, Commit, PlaybackStream, commit_count, is_running}
use Rattle.dmix_client.specs.Prelude.{is_stop, late_at, over_of, seen_at, start_count, started_in, sync_count, taken_of, window_end, frames_used, CanUse}
use Rattle.dmix_client.specs.Prelude.{IsCommit, IsFrameStep, hw_of, IsConfigured, IsMoving, IsPrepared, IsSoundClient, count_with}
use Rattle.dmix_client.proofs.Ends.{next-ends}
use Rattle.mix_core.specs.declared.port.Ended.TheVariants as ended

-- a step of a stream that moves frames: where it still does so nothing was against it, and it goes well only there or at its end
pub record GoesOn (state : State) (o : Outcome) (gone : Bool) (over : Option (ℕ × ℕ)) (late : Option XrunWhy) : Type 0 where
  pub not_prepared : o.state ≡ Prepared → ⊥
  pub not_paused : o.state ≡ Paused → ⊥
  pub found : is_moving o.state ≡ true → (gone ≡ false) × (late ≡ None) × (state ≡ Running → over ≡ None)
  pub goes : OnOk o.answer ((o.state ≡ Setup → ⊥) → is_moving o.state ≡ true)
  pub told : (before after : ℕ) → after ≡ before → CountsStop o.answer before after

pub next-GoesOn : (state : State) (call : Call) (queued : ℕ) (gone : Bool) (over : Option (ℕ × ℕ)) (late : Option XrunWhy) → IsFrameStep state call
    → GoesOn state (next_of state call (record { capture = false; queued = queued; starts = true; gone = gone; over = over; late = late })) gone over late
next-GoesOn state call queued gone over late step = grind (arith, nat_tests)

-- a stream that moves frames isn't prepared nor paused, and is set up
pub not_prepared-moving : (s : State) → is_moving s ≡ true → (s ≡ Prepared → ⊥)
not_prepared-moving s is prepared = let no : is_moving Prepared ≡ true = subst (λ (x : State). is_moving x ≡ true) prepared is in cc

pub not_paused-moving : (s : State) → is_moving s ≡ true → (s ≡ Paused → ⊥)
not_paused-moving s is paused = let no : is_moving Paused ≡ true = subst (λ (x : State). is_moving x ≡ true) paused is in cc

pub set_up-moving : (s : State) → is_moving s ≡ true → is_set_up s ≡ true
set_up-moving s is = grind (arith, nat_tests)

pub configured-moving : (c : PlaybackStream) (ring : List ℤ) → IsSoundClient c ring → is_moving c.status.state ≡ true → IsConfigured c ring
configured-moving c ring sound moves = sound.configured (sound.set_up (set_up-moving c.status.state moves))

pub configured-prepared : (c : PlaybackStream) (ring : List ℤ) → IsSoundClient c ring → c.status.state ≡ Prepared → IsConfigured c ring
configured-prepared c ring sound waits = sound.configured (sound.set_up (ap is_set_up waits))

pub hw-started : (c : PlaybackStream) → c.stretch.started ≡ true → hw_of c ≡ unwrap_or c.seen 0 - c.stretch.card
hw-started c is = ap (λ (b : Bool). if b then unwrap_or c.seen 0 - c.stretch.card else 0) is

-- ---- of a client whose counts stay

-- a client in another status that has seen another position, where its counts are as that status asks
pub IsSoundClient-status : (c : PlaybackStream) (s : Status) (seen : Option ℕ) (ring : List ℤ) → IsSoundClient c ring
    → unwrap_or seen 0 ≤ end_frame c.identity.geometry → (is_set_up s.state ≡ true → c.setup.configured ≡ true) → (s.state ≡ Prepared → IsPrepared c)
    → (is_moving s.state ≡ true → s.stopped ≡ false → IsMoving (record c { seen = seen })) → (s.state ≡ Paused → IsMoving (record c { seen = seen }))
    → IsSoundClient (record c { status = s; seen = seen }) ring
IsSoundClient-status c s seen ring sound near is_set waits moves rests = assumption

-- a client that was stopped before it took a step
pub IsSoundClient-stopped : (c : PlaybackStream) (ring : List ℤ) → IsSoundClient c ring
    → IsSoundClient (record c { status = record c.status { stopped = true } }) ring
IsSoundClient-stopped c ring sound = grind (arith, nat_tests)

-- a port can be used by a client that doesn't move frames, or is stopped
pub CanUse-still : (c d : PlaybackStream) (v w : PortView) → CanUse c v → IsSamePort v w → d.identity ≡ c.identity
    → (is_moving d.status.state ≡ true → d.status.stopped ≡ false → ⊥) → CanUse d w
CanUse-still c d v w port same is still = grind (arith, nat_tests)

-- ---- after a commit

pub whole_least : (w k card n h stop : ℕ) → h ≤ stop → n ≡ min w (stop - card) - k → min w (h - card) ≤ k + n
whole_least w k card n h stop low is = grind (arith, nat_tests)

pub window_end-above : (h frames stop : ℕ) → h ≤ stop → h ≤ min (h + frames) stop
window_end-above h frames stop low = grind (arith, nat_tests)

laid_most : (w k card n h frames stop : ℕ) → card + k ≤ stop + frames → n ≤ min w (min (h + frames) stop - card) - k → card + (k + n) ≤ stop + frames
laid_most w k card n h frames stop before is = grind (arith, nat_tests)

pub min-later : (k h n g : ℕ) → min k h ≤ g → min k h ≤ min (k + n) g
min-later k h n g later = grind (arith, nat_tests)

pub min-newer : (k h g : ℕ) → h ≤ g → min k h ≤ g
min-newer k h g newer = grind (arith, nat_tests)

pub count-below : (upto stop card k : ℕ) → min upto (stop - card) - k ≤ upto - k
count-below upto stop card k = grind (arith, nat_tests)

pub if-le : (b : Bool) (n : ℕ) → (if b then 0 else n) ≤ n
if-le true n = omega arith
if-le false n = omega arith

pub frames-le : (e : Ended) (frames part count channels : ℕ) → IsCommit e frames part count channels → frames ≤ count
frames-le ended.Whole frames part count channels is = omega (arith, is.0)
frames-le other frames part count channels is = omega (arith, is.0)

-- the frames of a commit are below the frame that it was to place up to
pub used-below : (e : Ended) (k frames part count channels upto : ℕ) → IsCommit e frames part count channels → count ≤ upto - k → k ≤ upto
    → k + frames_used frames part ≤ upto
used-below ended.Whole k frames part count channels upto is few low = let all = is.0 in let none = is.1 in grind (arith, nat_tests)
used-below other k frames part count channels upto is few low = let less = is.0 in grind (arith, nat_tests)

-- a commit that had nothing to place placed nothing, and one that is not late and not stopped placed all
pub none-of : (e : Ended) (frames part channels : ℕ) → IsCommit e frames part 0 channels → (frames ≡ 0) × (part ≡ 0) × (e ≡ ended.Whole)
none-of ended.Whole frames part channels is = (is.0, is.1, refl)
none-of other frames part channels is = absurd (omega (arith, is.0))

pub whole-of : (e : Ended) (frames part count channels frame channel : ℕ) (X : Type 0) → IsCommit e frames part count channels → is_stop e ≡ false
    → late_at e frame channel ≡ None → OnWhole e X → (frames ≡ count) × (part ≡ 0) × X
whole-of ended.Whole frames part count channels frame channel X is going in_time at = (is.0, is.1, at)
whole-of other frames part count channels frame channel X is going in_time at = absurd (cc)

-- a client after a commit which it made as `b`, in any status, with other counts of what was accepted
abbrev pub after : PlaybackStream → PlaybackStream → Commit → Status → ℕ → ℕ → PlaybackStream
after c b x s written fed =
    record c {
      status = s;
      stretch = record c.stretch {
        written = written;
        committed = c.stretch.committed + x.frames;
        part = x.part;
        card = b.stretch.card;
        started = b.stretch.started;
      };
      seen = b.seen;
      fed = fed;
    }

-- how many frames before one are to be placed, at the position that `b` saw
abbrev pub count_at : PlaybackStream → PlaybackStream → ℕ → ℕ
count_at c b upto = min upto (window_end c.identity.geometry (unwrap_or b.seen 0) - b.stretch.card) - c.stretch.committed

-- a client makes a commit of some frames, of those before one, as `b`: it has started, at a position that is no older
pub record CommitsAs (c b : PlaybackStream) (ring : List ℤ) (x : Commit) (count upto : ℕ) : Type 0 where
  pub sound : IsSoundClient c ring
  pub set : c.setup.configured ≡ true
  pub whole : c.stretch.part ≡ 0
  pub low : c.stretch.committed ≤ upto
  pub started : b.stretch.started ≡ true
  pub near : unwrap_or b.seen 0 ≤ end_frame c.identity.geometry
  pub card : 0 < c.stretch.committed → b.stretch.card ≡ c.stretch.card
  pub laid : b.stretch.card + c.stretch.committed ≤ end_frame c.identity.geometry + c.identity.geometry.frames
  pub later : min c.stretch.committed (hw_of c) ≤ hw_of b
  pub few : count ≤ count_at c b upto
  pub commit_is : IsCommit x.ended x.frames x.part count (length c.setup.bindings)

-- it moves on, where all was placed
pub IsMoving-after : (c b : PlaybackStream) (ring : List ℤ) (x : Commit) (count upto : ℕ) (s : Status) (fed : ℕ) → CommitsAs c b ring x count upto
    → upto ≤ hw_of b + c.setup.config.buffer_size → x.frames ≡ count_at c b upto → x.part ≡ 0
    → IsMoving (after c b x s upto fed)
IsMoving-after c b ring x count upto s fed y fits all none = grind (arith, nat_tests)

-- its counts are in order, in a status in which it isn't prepared nor paused
pub IsSoundClient-after : (c b : PlaybackStream) (ring : List ℤ) (x : Commit) (count upto : ℕ) (s : Status) (written fed : ℕ) → CommitsAs c b ring x count upto
    → written + c.stretch.source ≡ fed → (s.state ≡ Prepared → ⊥) → (s.state ≡ Paused → ⊥)
    → (is_moving s.state ≡ true → s.stopped ≡ false → IsMoving (after c b x s written fed)) → IsSoundClient (after c b x s written fed) ring
IsSoundClient-after c b ring x count upto s written fed y sums not_prepared not_paused moves = grind (arith, nat_tests)

-- ---- what holds about a load

pub record IsLoaded (c : PlaybackStream) (position : Position) : Type 0 where
  pub newer : unwrap_or c.seen 0 ≤ position.frame
  pub most : position.frame ≤ end_frame c.identity.geometry

pub IsMoving-seen : (c : PlaybackStream) (position : Position) → IsMoving c → IsLoaded c position → IsMoving (seen_at c position)
IsMoving-seen c position m loaded = grind (arith, nat_tests)

-- a client that moves frames makes a commit at a position that it loaded
pub CommitsAs-seen : (c : PlaybackStream) (ring : List ℤ) (position : Position) (x : Commit) (count : ℕ) → IsSoundClient c ring
    → is_moving c.status.state ≡ true → c.status.stopped ≡ false → IsLoaded c position
    → count ≤ commit_count c position.frame c.stretch.written → IsCommit x.ended x.frames x.part count (length c.setup.bindings)
    → CommitsAs c (seen_at c position) ring x count c.stretch.written
CommitsAs-seen c ring position x count sound moves going loaded few commit_is = grind (arith, nat_tests)

-- a sync that found nothing against it is to commit all
pub count-whole : (c : PlaybackStream) (position : Position) → is_moving c.status.state ≡ true → position.gone ≡ false
    → (c.status.state ≡ Running → over_of (seen_at c position) position ≡ None)
    → sync_count c position ≡ commit_count c position.frame c.stretch.written
count-whole c position moves here none = grind (arith, nat_tests)

-- ---- a start

pub min-none : (k h n : ℕ) → k ≡ 0 → min k h ≤ n
min-none k h n none = grind (arith, nat_tests)

pub CommitsAs-started : (c : PlaybackStream) (ring : List ℤ) (state : State) (position : Position) (cursor : Cursor) (x : Commit) (upto : ℕ)
    → IsSoundClient c ring → c.status.state ≡ Prepared → cursor.frame ≤ end_frame c.identity.geometry
    → position.frame ≤ end_frame c.identity.geometry → IsCommit x.ended x.frames x.part (start_count c cursor position upto) (length c.setup.bindings)
    → CommitsAs c (started_in c state position cursor) ring x (start_count c cursor position upto) upto
CommitsAs-started c ring state position cursor x upto sound waits low near commit_is = grind (arith, nat_tests)

-- ---- a write

pub CommitsAs-written : (c : PlaybackStream) (ring : List ℤ) (x : Commit) (m : ℕ) → IsSoundClient c ring → is_moving c.status.state ≡ true
    → c.status.stopped ≡ false
    → IsCommit x.ended x.frames x.part (count_with c m) (length c.setup.bindings) → CommitsAs c c ring x (count_with c m) (c.stretch.written + m)
CommitsAs-written c ring x m sound moves going commit_is = grind (arith, nat_tests)

pub taken_fits : (w hw b n m : ℕ) → w ≤ hw + b → m ≡ min n (min (b + hw - w) b) → (w + m ≤ hw + b) × (m ≤ b) × (m ≤ n)
taken_fits w hw b n m fits is = (grind (arith, nat_tests), grind (arith, nat_tests), grind (arith, nat_tests))

-- it moves on, where all was placed
pub IsMoving-written : (c : PlaybackStream) (ring : List ℤ) (x : Commit) (n m : ℕ) (s : Status) (fed : ℕ) → m ≡ taken_of c n → IsMoving c
    → CommitsAs c c ring x (count_with c m) (c.stretch.written + m) → x.frames ≡ count_with c m → x.part ≡ 0
    → IsMoving (after c c x s (c.stretch.written + m) fed)
IsMoving-written c ring x n m s fed is was y all none = grind (arith, nat_tests)

pub taken-none : (n b hw w : ℕ) → b + hw - w ≡ 0 → min n (min (b + hw - w) b) ≡ 0
taken-none n b hw w none = grind (arith, nat_tests)
