-- How many frames a client has accepted after a call: at most those that it was offered are more.
use Rattle.lab_clients.specs.Prelude.{arith, length, List, refl, ℕ, ◌+◌, ◌≡◌, ◌≤◌, nat_tests, Bool, Err, false, if◌then◌else◌, min, None, Ok, Some, suc, true}
use Rattle.lab_clients.specs.Prelude.{zero, ℤ, ⊤, ◌-◌, State, Prepared, Course, ends, Gives, Gives-any, Gives-behind, Gives-map, Gives-then, PlaybackStream}
use Rattle.lab_clients.specs.Prelude.{Answered, committed_by, going_on, is_running, commits, if_admitted, CallLeaves, CountLeaves, if_admitted-gives}
use Rattle.lab_clients.specs.Prelude.{WriteLeaves, IsSoundClient}
use Rattle.snd_base.specs.declared.places.Cursor.{Cursor}
use Rattle.pcm_states.specs.declared.calls.Outcome.{Outcome}
use Rattle.pcm_states.specs.Table.{next_of}
use Rattle.mix_core.specs.declared.port.Ended.{Ended}
use Rattle.mix_core.specs.declared.port.Ended.TheVariants.{Whole, Late, Stopped}
use Rattle.dmix_client.specs.declared.commit.Commit.{Commit}
use Rattle.dmix_client.specs.Rewind.{back_of, back_on, checks, rewind_left, rewind_course, rewind_on, rewindable_of, rewinds, after_rewind, take_frames, takes_back, without_frames}
use Rattle.lab_run.proofs.CallParts.{running-moves}
use Rattle.pcm_states.specs.declared.calls.Call.TheVariants as call

-- a client after a call has accepted at most so many frames
pub record IsFed {X : Type 0} (limit : ℕ) (done : PlaybackStream × X) : Type 0 where
  pub most : done.0.fed ≤ limit

going_on-fed : (n : ℕ) (c : PlaybackStream) (state : State) (o : Outcome) → c.fed ≤ n → IsFed n (going_on c state o)
going_on-fed n c state o is = grind (arith, nat_tests)

-- no part of a call but a write's accepts frames
pub leaves-fed : (n : ℕ) → CallLeaves (λ c. c.fed ≤ n) (λ x. ⊤) (IsFed n)
leaves-fed n = record {
  goes = λ c done is. is.most;
  same = λ c is. record { most = is };
  seen = λ c p is. is;
  started = λ c state p cursor start is. is;
  based = λ c is. is;
  committed = λ c x is any. is;
  drains = λ c is. is;
  paused = λ c is. is;
  dropped = λ c is. is;
  prepared = λ c is. is;
  placed = λ c ring count is. Gives-any (λ x. ⊤) (commits c ring count) (λ x. tt);
  placed_none = tt;
  stopped = λ c is. record { most = is };
  refused = λ c asked e is refusal. record { most = is };
  outcome = λ c x asked f is any late. record { most = is };
  begun = λ c x state f start is any late. going_on-fed n (committed_by c x) state (next_of Prepared call.Start f) is;
  gone = λ c state f start is none. going_on-fed n c state (next_of Prepared call.Start f) is;
  empty = λ c f is none. record { most = is };
}

pub counts-fed : (n : ℕ) → CountLeaves (λ c. c.fed ≤ n) (IsFed n) (IsFed n)
counts-fed n = record { fails = λ c e is. record { most = is.most }; numbered = λ c number is. record { most = is } }

pub writes-fed : (n frames : ℕ) → WriteLeaves (λ c. c.fed ≤ n) (λ x. ⊤) (IsFed n) (IsFed (n + frames)) frames
writes-fed n frames = grind (arith, nat_tests)

-- a rewind: what is left of the frames that it was to withdraw is no more than these, and these the client had accepted

rewind_left-few : (n left channels : ℕ) (ended : Ended) → (rewind_left n left channels ended).frames ≤ suc n
rewind_left-few n left channels ended = grind (arith, nat_tests)

back_on-few : (end : ℕ × Ended) (n channels : ℕ) (rest : Course Commit) → Gives (λ (left : Commit). left.frames ≤ n) rest → Gives (λ (left : Commit). left.frames ≤ suc n) (back_on end n channels rest)
back_on-few (left, Whole) n channels rest gives = Gives-map (λ (x : Commit). x.frames ≤ n) (λ (x : Commit). x.frames ≤ suc n) rest gives (λ x few. omega (arith, few))
back_on-few (left, Late word) n channels rest gives = rewind_left-few n left channels (Late word)
back_on-few (left, Stopped) n channels rest gives = rewind_left-few n left channels Stopped

take_frames-few : (member card : ℕ) (bindings : List ℕ) (samples : ℕ → ℕ → ℤ) (first n : ℕ) → Gives (λ (left : Commit). left.frames ≤ n) (take_frames member card bindings samples first n)
unfolding take_frames
take_frames-few member card bindings samples first zero = omega arith
take_frames-few member card bindings samples first (suc n) = Gives-behind (λ (left : Commit). left.frames ≤ suc n) _ _
    (λ end. back_on-few end n (length bindings) _ (take_frames-few member card bindings samples first n))

rewound-fed : (c : PlaybackStream) (n : ℕ) (left : Commit) → IsFed (c.fed - n + left.frames) (after_rewind c n left)
rewound-fed c n left = grind (arith, nat_tests)

takes_back-fed : (limit : ℕ) (c : PlaybackStream) (ring : List ℤ) (n : ℕ) → n ≤ c.fed → c.fed ≤ limit → Gives (IsFed limit) (takes_back c ring n)
unfolding takes_back
takes_back-fed limit c ring n few most = Gives-then (λ (left : Commit). left.frames ≤ back_of c n) (IsFed limit) _ _ (take_frames-few _ _ _ _ _ (back_of c n))
    (λ left fits. let after = (rewound-fed c n left).most in record { most = omega (arith, after, fits, few, most) })

-- the counts of a client fit each other, and it has accepted at most so many frames; the load of a rewind leaves them as they are
record HasCounts (limit : ℕ) (done : Answered (Unit {0})) : Type 0 where
  most : done.0.fed ≤ limit
  written : done.0.stretch.written ≤ done.0.fed
  laid : done.0.stretch.committed ≤ done.0.stretch.written

checks-same : (limit : ℕ) (c : PlaybackStream) → HasCounts limit (c, Ok tt) → Gives (HasCounts limit) (checks c)
unfolding checks
checks-same limit c has None = record { most = has.most; written = has.written; laid = has.laid }
checks-same limit c has (Some position) = record { most = has.most; written = has.written; laid = (let laid = has.laid in omega (arith, laid)) }

rewind_on-fed : (limit : ℕ) (floor : Cursor) (ring : List ℤ) (n : ℕ) (done : Answered (Unit {0})) → HasCounts limit done → Gives (IsFed limit) (rewind_on floor ring n done)
rewind_on-fed limit floor ring n (c, Ok done) has =
    let written = has.written in
    let laid = has.laid in
    takes_back-fed limit c ring (min n (rewindable_of floor c)) (omega (arith, written, laid)) has.most
rewind_on-fed limit floor ring n (c, Err e) has = record { most = has.most }

pub rewind-fed : (c : PlaybackStream) (ring : List ℤ) (floor : Cursor) (n : ℕ) → IsSoundClient c ring → c.status.stopped ≡ false
    → Gives (IsFed c.fed) (if_admitted c call.Transfer (rewind_course c ring floor n))
unfolding rewinds
rewind-fed c ring floor n sound going = if_admitted-gives (IsFed c.fed) c call.Transfer (rewind_course c ring floor n) (λ e refusal. record { most = omega arith }) (by_running (is_running c.status.state) refl)
  where
    by_running : (test : Bool) → is_running c.status.state ≡ test
        → Gives (IsFed c.fed) (if test then rewinds c ring floor n else ends (without_frames c (min n c.stretch.written), Ok (min n c.stretch.written)))
    by_running true runs = Gives-then (HasCounts c.fed) (IsFed c.fed) _ _ (checks-same c.fed c (record {
      most = omega arith;
      written = (let fed = sound.fed in omega (arith, fed));
      laid = (sound.moving (running-moves c.status.state runs) going).laid_most;
    })) (rewind_on-fed c.fed floor ring n)
    by_running false rests = record { most = omega arith }
