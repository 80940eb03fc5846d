-- What a rewind of a client does loads a position before it withdraws anything.
use Rattle.lab_run.specs.Prelude.{arith, length, refl, ℕ, ◌+◌, ◌-◌, ◌≡◌, nat_tests, Bool, Err, List, min, Ok, suc, true, zero, ℤ, Cursor, Ended, Course, ends}
use Rattle.lab_run.specs.Prelude.{Commit, PlaybackStream, Answered, after_rewind, back_of, back_on, checks, rewind_on, rewindable_of, take_each, take_frames}
use Rattle.lab_run.specs.Prelude.{take_on, takes_back, ring_sample}
use Rattle.lab_run.proofs.Leads.{Anything, IsLed, Led, Led-then, LoadsFirst, OkLed}

pub checks-led : (c : PlaybackStream) (loaded : Bool) → Led OkLed loaded (checks c)
unfolding checks
checks-led c loaded = grind (arith, nat_tests)

take_on-led : (ended : Ended) (n : ℕ) (rest : Course (ℕ × Ended)) → Led IsLed true rest → Led IsLed true (take_on ended n rest)
take_on-led ended n rest led = grind (arith, nat_tests)

take_each-led : (member frame : ℕ) (bindings : List ℕ) (sample_of : ℕ → ℤ) (n : ℕ) → Led IsLed true (take_each member frame bindings sample_of n)
unfolding take_each
take_each-led member frame bindings sample_of zero = refl
take_each-led member frame bindings sample_of (suc n) =
    (refl, λ ended. take_on-led ended (suc n) (take_each member frame bindings sample_of n) (take_each-led member frame bindings sample_of n))

back_on-led : (end : ℕ × Ended) (n channels : ℕ) (l : Bool) (rest : Course Commit) → l ≡ true → Led IsLed true rest → Led IsLed l (back_on end n channels rest)
back_on-led end n channels l rest is led = grind (arith, nat_tests)

take_frames-led : (member card : ℕ) (bindings : List ℕ) (samples : ℕ → ℕ → ℤ) (first n : ℕ) → Led IsLed true (take_frames member card bindings samples first n)
unfolding take_frames
take_frames-led member card bindings samples first zero = refl
take_frames-led member card bindings samples first (suc n) =
    Led-then IsLed IsLed true (take_each member (card + (first + n)) bindings (samples (first + n)) (length bindings))
    (λ end. back_on end n (length bindings) (take_frames member card bindings samples first n))
    (take_each-led member (card + (first + n)) bindings (samples (first + n)) (length bindings))
    (λ l end is. back_on-led end n (length bindings) l (take_frames member card bindings samples first n) is (take_frames-led member card bindings samples first n))

takes_back-first : (c : PlaybackStream) (ring : List ℤ) (n : ℕ) → LoadsFirst true (takes_back c ring n)
unfolding takes_back
takes_back-first c ring n =
    Led-then IsLed Anything true (take_frames c.identity.member c.stretch.card c.setup.bindings (ring_sample c ring) (c.stretch.committed - back_of c n) (back_of c n)) (λ left. ends (after_rewind c n left))
    (take_frames-led c.identity.member c.stretch.card c.setup.bindings (ring_sample c ring) (c.stretch.committed - back_of c n) (back_of c n)) (λ l x is. tt)

pub rewind_on-first : (floor : Cursor) (ring : List ℤ) (n : ℕ) (l : Bool) (done : Answered (Unit {0})) → OkLed l done → LoadsFirst l (rewind_on floor ring n done)
rewind_on-first floor ring n l (c, Ok x) led = rw led (takes_back-first c ring (min n (rewindable_of floor c)))
rewind_on-first floor ring n l (c, Err e) led = tt
