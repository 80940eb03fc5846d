-- What the calls of a reader do loads a position before it gets a frame.
use Rattle.lab_run.specs.Prelude.{arith, refl, ℕ, ◌+◌, nat_tests, Bool, Err, Ok, suc, true, zero, Call, Got, Overtaken, Course, ends, CaptureStream, read_after}
use Rattle.lab_run.specs.Prelude.{get_on, gets_frames, transfer_on, transfers}
use Rattle.snoop_core.specs.declared.port.Got.TheVariants.{Whole, Stopped}
use Rattle.dsnoop_client.specs.Calls.{Answered, taken_of}
use Rattle.dsnoop_client.specs.Course.{one_more, starts, syncs}
use Rattle.lab_run.proofs.Leads.{Led, LoadsFirst, OkLed, first-then}

pub starts-led : (c : CaptureStream) (call : Call) (loaded : Bool) → Led OkLed loaded (starts c call)
unfolding starts
starts-led c call loaded = grind (arith, nat_tests)

pub syncs-led : (c : CaptureStream) (call : Call) (loaded : Bool) → Led OkLed loaded (syncs c call)
unfolding syncs
syncs-led c call loaded = grind (arith, nat_tests)

get_on-first : (got : Got) (rest : Course (ℕ × Got)) → LoadsFirst true rest → LoadsFirst true (get_on got rest)
get_on-first Whole rest led = first-then true rest (λ end. ends (one_more end)) led (λ l x. tt)
get_on-first (Overtaken channel word) rest led = tt
get_on-first Stopped rest led = tt

gets_frames-first : (count first : ℕ) → LoadsFirst true (gets_frames count first)
unfolding gets_frames
gets_frames-first zero first = tt
gets_frames-first (suc count) first = (refl, λ got. get_on-first got (gets_frames count (first + 1)) (gets_frames-first count (first + 1)))

transfers-first : (c : CaptureStream) (n : ℕ) → LoadsFirst true (transfers c n)
unfolding transfers
transfers-first c n = first-then true (gets_frames (taken_of c n) c.next) (λ end. ends (read_after c n end.0 end.1)) (gets_frames-first (taken_of c n) c.next) (λ l x. tt)

pub transfer_on-first : (n : ℕ) (l : Bool) (done : Answered (Unit {0})) → OkLed l done → LoadsFirst l (transfer_on n done)
transfer_on-first n l (c, Ok x) led = rw led (transfers-first c n)
transfer_on-first n l (c, Err e) led = tt
