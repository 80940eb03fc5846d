-- A call of a reader at its seat, from what the reader's own call says.
use Rattle.dmix_c.specs.Prelude.{ap, refl, subst, sym, ℕ, ◌∙◌, ◌≡◌, ◌≤◌, Err, false, None, Ok, Option, Result, Some, unwrap_or, PcmError, Call, Capture}
use Rattle.dmix_c.specs.Prelude.{refusal_of, NeverStops, ReaderSeat, Course, ends, Takes-map, CaptureStream, done_of, reader_course, reader_done, ReaderHasMade}
use Rattle.dmix_c.specs.Prelude.{reader_port, TakesAtSnoop-goes, no_gate}
use Rattle.snoop_core.specs.Port.{SnoopView}
use Rattle.snoop_table.specs.Readers.{seat_view}
use Rattle.course.specs.AtSnoopPort.{GetsAtSnoop, LoadsAtSnoop, NoLay, TakesAtSnoop}
use Rattle.dsnoop_client.specs.Calls.{Answered}
use Rattle.dsnoop_client.specs.Course.{admitted_by, if_admitted}
use Rattle.dsnoop_client.specs.View.{CanUse}
use Rattle.dmix_c.specs.declared.reader_calls.ReaderCall.{ReaderCall}

-- a course that gives nothing, with its answer
pub reader_done-taken : (s t : ReaderSeat × NeverStops) (m : Course (Answered (Unit {0}))) (d : CaptureStream) (result : Result (Unit {0}) PcmError) (made : Result ℕ PcmError)
    → TakesAtSnoop reader_port no_gate s m t (d, result) → made ≡ done_of result → TakesAtSnoop reader_port no_gate s (reader_done m) t (d, made)
reader_done-taken s t m d result made takes is =
    Takes-map (LoadsAtSnoop reader_port no_gate) NoLay (GetsAtSnoop reader_port no_gate) s t m (λ (done : Answered (Unit {0})). (done.0, done_of done.1)) (d, result) (d, made) takes
    (ap (λ (a : Result ℕ PcmError). (d, a)) (sym is))

-- a call without steps, unless it is refused
admitted-taken : (s : ReaderSeat × NeverStops) (c d : CaptureStream) (what : Call) (end : Answered (Unit {0})) (result : Result (Unit {0}) PcmError)
    → ((e : PcmError) → refusal_of Capture c.status what ≡ Some e → (result ≡ Err e) × (d ≡ c))
    → (refusal_of Capture c.status what ≡ None → (result ≡ end.1) × (d ≡ end.0))
    → TakesAtSnoop reader_port no_gate s (if_admitted c what (ends end)) s (d, result)
admitted-taken s c d what end result refused goes = by_refusal (refusal_of Capture c.status what) refl
  where
    by_refusal : (refusal : Option PcmError) → refusal_of Capture c.status what ≡ refusal → TakesAtSnoop reader_port no_gate s (admitted_by refusal c (ends end)) s (d, result)
    by_refusal None is = let r = goes is in record { there = refl; result = λ i. (r.1 i, r.0 i) }
    by_refusal (Some e) is = let r = refused e is in record { there = refl; result = λ i. (r.1 i, r.0 i) }

-- a reader that saw what it had seen can use the seat that it had
pub CanUse-seen : (c d : CaptureStream) (v : SnoopView) → d.geometry ≡ c.geometry → d.seen ≡ c.seen → CanUse c v → CanUse d v
CanUse-seen c d v same saw usable = record {
  same_geometry = usable.same_geometry ∙ sym same;
  newer = subst (λ (o : Option ℕ). unwrap_or o 0 ≤ v.seen) (sym saw) usable.newer;
}

-- a call by its course
pub reader-made-by : {asked : ReaderCall} (named : ReaderCall) {s t : ReaderSeat} (g h : NeverStops) {c d : CaptureStream} {made : Result ℕ PcmError}
    → asked ≡ named → TakesAtSnoop reader_port no_gate (s, g) (reader_course named c) (t, h) (d, made) → (c.status.stopped ≡ false → d.status.stopped ≡ false)
    → CanUse d (seat_view t) → ReaderHasMade asked s c t d made
reader-made-by named {s = s} {t = t} g h {c = c} {d = d} {made = made} is takes unstopped usable =
    subst (λ (a : ReaderCall). ReaderHasMade a s c t d made) (sym is) (record {
      before = g;
      after = h;
      takes = takes;
      unstopped = unstopped;
      usable = usable;
      goes = TakesAtSnoop-goes (s, g) (t, h) (reader_course named c) (d, made) takes;
    })

-- a call without steps, which leaves the reader as `end`
pub reader-made-plain : {asked : ReaderCall} (named : ReaderCall) (what : Call) {s : ReaderSeat} (g : NeverStops) {c d : CaptureStream} (end : CaptureStream)
    (result : Result (Unit {0}) PcmError) {made : Result ℕ PcmError}
    → asked ≡ named → reader_course named c ≡ reader_done (if_admitted c what (ends (end, Ok tt)))
    → end.geometry ≡ c.geometry → end.seen ≡ c.seen → end.status.stopped ≡ c.status.stopped → CanUse c (seat_view s)
    → ((e : PcmError) → refusal_of Capture c.status what ≡ Some e → (result ≡ Err e) × (d ≡ c))
    → (refusal_of Capture c.status what ≡ None → (result ≡ Ok tt) × (d ≡ end))
    → made ≡ done_of result → ReaderHasMade asked s c s d made
reader-made-plain {asked = asked} named what {s = s} g {c = c} {d = d} end result {made = made} named_is course_is same saw kept usable refused goes is =
    by_refusal (refusal_of Capture c.status what) refl
  where
    takes : TakesAtSnoop reader_port no_gate (s, g) (reader_course named c) (s, g) (d, made)
    takes = subst (λ (m : Course (Answered ℕ)). TakesAtSnoop reader_port no_gate (s, g) m (s, g) (d, made)) (sym course_is)
        (reader_done-taken (s, g) (s, g) (if_admitted c what (ends (end, Ok tt))) d result made (admitted-taken (s, g) c d what (end, Ok tt) result refused goes) is)

    -- what it leaves, where that is a reader `v`
    left_as : (v : CaptureStream) → d ≡ v → v.status.stopped ≡ c.status.stopped → CanUse v (seat_view s) → ReaderHasMade asked s c s d made
    left_as v is_left kept_so usable_so =
        reader-made-by named g g named_is takes (λ still. ap (λ (u : CaptureStream). u.status.stopped) is_left ∙ (kept_so ∙ still))
        (subst (λ (u : CaptureStream). CanUse u (seat_view s)) (sym is_left) usable_so)

    by_refusal : (refusal : Option PcmError) → refusal_of Capture c.status what ≡ refusal → ReaderHasMade asked s c s d made
    by_refusal None found = left_as end (goes found).1 kept (CanUse-seen c end (seat_view s) same saw usable)
    by_refusal (Some e) found = left_as c (refused e found).1 refl usable
