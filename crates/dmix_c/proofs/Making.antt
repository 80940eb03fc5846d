-- A call of a client at its seat, from what the client's own call says.
use Rattle.dmix_c.specs.Prelude.{ap, List, refl, subst, sym, ℕ, ℤ, ◌∙◌, ◌≡◌, false≢true, Err, false, None, Ok, Option, Result, Some, PcmError, Call, Playback}
use Rattle.dmix_c.specs.Prelude.{is_moving, refusal_of, NeverStops, PortView, MixSeat, seat_view, LaysAt, LoadsAt, NoGet, TakesAt, Course, ends, Takes-map}
use Rattle.dmix_c.specs.Prelude.{Gives, CountsStop, PlaybackStream, Calls, Answered, CanUse, ClientView, IsSoundClient, done_of, IsBackedBy, StaysBacked}
use Rattle.dmix_c.specs.Prelude.{call_course, done_course, HasMade, ring_after, no_gate, seat_port, TakesAt-goes}
use Rattle.dmix_client.specs.declared.stream.Identity.{Identity}
use Rattle.dmix_client.specs.Course.{admitted_by, if_admitted}
use Rattle.dmix_c.specs.declared.client_calls.ClientCall.{ClientCall}
use Rattle.dmix_c.proofs.Backing.{still-configured}
use Rattle.dmix_c.proofs.Unstopped.{IsLeft, Unstopped, unstopped-by}
use Rattle.pcm_states.specs.declared.calls.Call.TheVariants as call

-- a course that gives nothing, with its answer
pub done-taken : (s t : MixSeat × NeverStops) (m : Course (Answered (Unit {0}))) (d : PlaybackStream) (result : Result (Unit {0}) PcmError) (made : Result ℕ PcmError)
    → TakesAt seat_port no_gate s m t (d, result) → made ≡ done_of result → TakesAt seat_port no_gate s (done_course m) t (d, made)
done-taken s t m d result made takes is =
    Takes-map (LoadsAt seat_port no_gate) (LaysAt seat_port no_gate) NoGet s t m (λ (done : Answered (Unit {0})). (done.0, done_of done.1)) (d, result) (d, made) takes
    (ap (λ (a : Result ℕ PcmError). (d, a)) (sym is))

-- a call without steps, unless it is refused
admitted-taken : (s : MixSeat × NeverStops) (c d : PlaybackStream) (what : Call) (end : Answered (Unit {0})) (result : Result (Unit {0}) PcmError)
    → ((e : PcmError) → refusal_of Playback c.status what ≡ Some e → (result ≡ Err e) × (d ≡ c))
    → (refusal_of Playback c.status what ≡ None → (result ≡ end.1) × (d ≡ end.0))
    → TakesAt seat_port no_gate s (if_admitted c what (ends end)) s (d, result)
admitted-taken s c d what end result refused goes = by_refusal (refusal_of Playback c.status what) refl
  where
    by_refusal : (refusal : Option PcmError) → refusal_of Playback c.status what ≡ refusal → TakesAt seat_port no_gate s (admitted_by refusal c (ends end)) s (d, result)
    by_refusal None is = let r = goes is in record { there = refl; result = λ i. (r.1 i, r.0 i) }
    by_refusal (Some e) is = let r = refused e is in record { there = refl; result = λ i. (r.1 i, r.0 i) }

-- a client that moves no frames can use the seat that it had
pub CanUse-resting : (c d : PlaybackStream) (v : PortView) → d.identity ≡ c.identity → is_moving d.status.state ≡ false → CanUse c v → CanUse d v
CanUse-resting c d v same rests usable = record {
  same_geometry = usable.same_geometry ∙ ap (λ (i : Identity). i.geometry) (sym same);
  same_member = usable.same_member ∙ ap (λ (i : Identity). i.member) (sym same);
  can = usable.can;
  behind = λ moves going. absurd (false≢true (sym rests ∙ moves));
  newer = λ moves going. absurd (false≢true (sym rests ∙ moves));
}

-- a call by its course
made-by : {asked : ClientCall} {s t : MixSeat} (g h : NeverStops) {c d : ClientView} {made : Result ℕ PcmError}
    → TakesAt seat_port no_gate (s, g) (call_course asked c (seat_view s).marks) (t, h) (d.stream, made)
    → d.ring ≡ ring_after asked made c.ring → (c.stream.status.stopped ≡ false → d.stream.status.stopped ≡ false) → CanUse d.stream (seat_view t)
    → StaysBacked s c t d → HasMade asked s c t d made
made-by g h takes ring unstopped usable stays = assumption (TakesAt-goes _ _ _ _ takes)

-- a call with steps, which gives no configuration, by the samples of its segment: where it ends in what the client's own call answers
pub made-stepping : {asked : ClientCall} (named : ClientCall) {what : Call} {s t : MixSeat × NeverStops} {c d : ClientView} {X Frame Cause : Type 0}
    {course : Course (Answered X)} {answer : Result X PcmError} (made : Result ℕ PcmError) → Calls seat_port no_gate s t c d answer what course Frame Cause
    → asked ≡ named → (what ≡ call.HwParams → ⊥) → IsSoundClient c.stream c.ring
    → TakesAt seat_port no_gate s (call_course named c (seat_view s.0).marks) t (d.stream, made) → d.ring ≡ ring_after named made c.ring
    → (Unstopped c.stream → Gives IsLeft (if_admitted c.stream what course)) → (Unstopped c.stream → CountsStop answer 0 0)
    → CanUse d.stream (seat_view t.0) → ((samples : List ℤ) → IsBackedBy s.0 c samples → IsBackedBy t.0 d samples) → HasMade asked s.0 c t.0 d made
made-stepping named {what = what} {s = s} {t = t} {c = c} {d = d} {course = course} {answer = answer} made called is other sound takes ring gives told usable backed =
    subst (λ (a : ClientCall). HasMade a s.0 c t.0 d made) (sym is) (made-by s.1 t.1 takes ring
    (λ still. unstopped-by s t (if_admitted c.stream what course) d.stream answer (gives still) called.takes (told still)) usable
    (record { configured = still-configured what c d other sound (λ e found. (called.refused e found).1); backed = λ has. backed }))

StaysBacked-same : (s : MixSeat) (c : ClientView) → StaysBacked s c s c
StaysBacked-same s c = record { configured = λ has. has; backed = λ has samples is. is }

-- a call without steps, which leaves the client as `end`
pub made-plain : {asked : ClientCall} (named : ClientCall) (what : Call) {s : MixSeat} (g : NeverStops) {c d : ClientView} (end : ClientView)
    (result : Result (Unit {0}) PcmError) {made : Result ℕ PcmError}
    → asked ≡ named → call_course named c (seat_view s).marks ≡ done_course (if_admitted c.stream what (ends (end.stream, Ok tt)))
    → end.ring ≡ ring_after named (Ok 0) c.ring → ((e : PcmError) → c.ring ≡ ring_after named (Err e) c.ring)
    → end.stream.identity ≡ c.stream.identity → end.stream.status.stopped ≡ c.stream.status.stopped → is_moving end.stream.status.state ≡ false
    → CanUse c.stream (seat_view s)
    → (refusal_of Playback c.stream.status what ≡ None → StaysBacked s c s end)
    → ((e : PcmError) → refusal_of Playback c.stream.status what ≡ Some e → (result ≡ Err e) × (d ≡ c))
    → (refusal_of Playback c.stream.status what ≡ None → (result ≡ Ok tt) × (d ≡ end))
    → made ≡ done_of result → HasMade asked s c s d made
made-plain {asked = asked} named what {s = s} g {c = c} {d = d} end result {made = made} named_is course_is ring_ok ring_err same kept rests usable stays refused goes is =
    subst (λ (a : ClientCall). HasMade a s c s d made) (sym named_is) (by_refusal (refusal_of Playback c.stream.status what) refl)
  where
    takes : TakesAt seat_port no_gate (s, g) (call_course named c (seat_view s).marks) (s, g) (d.stream, made)
    takes = subst (λ (m : Course (Answered ℕ)). TakesAt seat_port no_gate (s, g) m (s, g) (d.stream, made)) (sym course_is)
        (done-taken (s, g) (s, g) (if_admitted c.stream what (ends (end.stream, Ok tt))) d.stream result made
        (admitted-taken (s, g) c.stream d.stream what (end.stream, Ok tt) result
        (λ e found. let r = refused e found in (r.0, ap (λ (v : ClientView). v.stream) r.1))
        (λ found. let r = goes found in (r.0, ap (λ (v : ClientView). v.stream) r.1)))
        is)

    -- what it leaves, where that is a client `v`
    left_as : (v : ClientView) → d ≡ v → v.ring ≡ ring_after named made c.ring → v.stream.status.stopped ≡ c.stream.status.stopped
        → CanUse v.stream (seat_view s) → StaysBacked s c s v → HasMade named s c s d made
    left_as v is_left ring kept_so usable_so stays_so =
        made-by g g takes (ap (λ (u : ClientView). u.ring) is_left ∙ ring) (λ still. ap (λ (u : ClientView). u.stream.status.stopped) is_left ∙ (kept_so ∙ still))
        (subst (λ (u : ClientView). CanUse u.stream (seat_view s)) (sym is_left) usable_so) (subst (λ (u : ClientView). StaysBacked s c s u) (sym is_left) stays_so)

    by_refusal : (refusal : Option PcmError) → refusal_of Playback c.stream.status what ≡ refusal → HasMade named s c s d made
    by_refusal None found =
        let r = goes found in
        left_as end r.1 (ring_ok ∙ ap (λ (a : Result ℕ PcmError). ring_after named a c.ring) (sym (is ∙ ap done_of r.0))) kept
        (CanUse-resting c.stream end.stream (seat_view s) same rests usable) (stays found)
    by_refusal (Some e) found =
        let r = refused e found in
        left_as c r.1 (ring_err e ∙ ap (λ (a : Result ℕ PcmError). ring_after named a c.ring) (sym (is ∙ ap done_of r.0))) refl usable (StaysBacked-same s c)
