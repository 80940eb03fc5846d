-- Marks of a port that others used before are to an actor those of a new one.
use Rattle.lab_run.specs.Prelude.{ap, arith, inl, inr, None, refl, Some, sym, ℕ, ◌<◌, ◌∙◌, ◌≡◌, ◌≤◌, ◌⊎◌, nat_tests, Bool, false, if◌then◌else◌, true, Geometry}
use Rattle.lab_run.specs.Prelude.{Cursor, Marks, Entry, marks_after, marks_with, SameFrom, last_of, HasLaidNone, HasOwnLast, IsLow, IsPastFrame, laid}
use Rattle.lab_run.specs.Prelude.{last_from, MarksAlike, moved, untouched}
use Rattle.snd_base.specs.Places.{cursor_after, first_free}
use Rattle.mix_core.specs.declared.port.Kind.{Kind}
use Rattle.mix_core.specs.declared.port.Kind.TheVariants.{Added, Withdrawn}
use Rattle.mix_core.specs.Marks.{floor_after, high_frame, is_before, last_before, later_of, start_of}

-- the cursor and the floor are the same from the frame on
pub cursor-same : (ring : Geometry) (from : ℕ) (before : Cursor) (own port : Marks) → MarksAlike ring from before own port → SameFrom from own.cursor port.cursor
cursor-same ring from before own port alike = grind (arith, nat_tests)

pub floor-same : (ring : Geometry) (from : ℕ) (before : Cursor) (own port : Marks) → MarksAlike ring from before own port → SameFrom from own.floor port.floor
floor-same ring from before own port alike = grind (arith, nat_tests)

-- a cursor that isn't past a frame is before the one after a sample at that frame or past it
before-behind : (ring : Geometry) (from frame channel : ℕ) (at : Cursor) → IsLow from at → from ≤ frame → is_before at (cursor_after ring frame channel) ≡ true
before-behind ring from frame channel at low after = grind (arith, nat_tests, low, after)

low-later : (ring : Geometry) (from frame channel : ℕ) (at : Cursor) → IsLow from at → from ≤ frame → later_of at (cursor_after ring frame channel) ≡ cursor_after ring frame channel
low-later ring from frame channel at low after = rw (before-behind ring from frame channel at low after) refl

-- the floor after an add, of marks that are low
low-floor : (from : ℕ) (cursor floor high : Cursor) → IsLow from floor → IsLow from high → IsLow from (floor_after cursor floor high)
low-floor from cursor floor high low_floor low_high = grind (arith, nat_tests)

first-past : (ring : Geometry) (from frame channel : ℕ) (high : Cursor) → high ≡ start_of ring → IsLow from high → from ≤ frame
    → IsPastFrame ring from (later_of high (cursor_after ring frame channel))
first-past ring from frame channel high is low after = grind (arith, nat_tests)

later-past : (ring : Geometry) (from frame channel : ℕ) (high : Cursor) → IsPastFrame ring from high → from ≤ frame
    → IsPastFrame ring from (later_of high (cursor_after ring frame channel))
later-past ring from frame channel high past after = grind (arith, nat_tests)

-- an add by an actor that placed nothing before
first-laid : (ring : Geometry) (from frame channel : ℕ) (before : Cursor) (own port : Marks) → from ≤ frame → HasLaidNone ring from before own port
    → MarksAlike ring from before (marks_with Added ring own frame channel) (marks_with Added ring port frame channel)
first-laid ring from frame channel before own port after none =
    laid refl (low-later ring from frame channel own.high none.own_low after ∙ sym (low-later ring from frame channel port.high none.port_low after))
    (first-past ring from frame channel own.high none.own_high none.own_low after)
    (inr (low-floor from own.cursor own.floor own.high none.own_floor none.own_low, low-floor from port.cursor port.floor port.high none.port_floor none.port_low))

added : (ring : Geometry) (from frame channel : ℕ) (before : Cursor) (own port : Marks) → from ≤ frame → MarksAlike ring from before own port
    → MarksAlike ring from before (marks_with Added ring own frame channel) (marks_with Added ring port frame channel)
added ring from frame channel before own port after (untouched none low low_port) = first-laid ring from frame channel before own port after none
added ring from frame channel before own port after (moved none same) = first-laid ring from frame channel before own port after none
added ring from frame channel before own port after (laid same high past floor) =
    laid refl (ap (λ (at : Cursor). later_of at (cursor_after ring frame channel)) high) (later-past ring from frame channel own.high past after)
    (rw (sym same, sym high) (by_test (is_before own.cursor own.high) floor))
  where
    by_test : (test : Bool) → (own.floor ≡ port.floor) ⊎ (IsLow from own.floor × IsLow from port.floor)
        → ((if test then own.high else own.floor) ≡ (if test then own.high else port.floor)) ⊎ (IsLow from (if test then own.high else own.floor) × IsLow from (if test then own.high else port.floor))
    by_test true floors = inl refl
    by_test false floors = floors

withdrawn : (ring : Geometry) (from frame channel : ℕ) (before : Cursor) (own port : Marks) → MarksAlike ring from before own port
    → MarksAlike ring from before (marks_with Withdrawn ring own frame channel) (marks_with Withdrawn ring port frame channel)
withdrawn ring from frame channel before own port alike = grind (arith, nat_tests)

-- the marks after an entry at the frame or past it
pub entry-alike : (ring : Geometry) (from : ℕ) (before : Cursor) (e : Entry) (own port : Marks) → from ≤ e.frame → MarksAlike ring from before own port
    → MarksAlike ring from before (marks_after ring own e) (marks_after ring port e)
entry-alike ring from before e own port after alike = by_kind e.kind
  where
    by_kind : (kind : Kind) → MarksAlike ring from before (marks_with kind ring own e.frame e.channel) (marks_with kind ring port e.frame e.channel)
    by_kind Added = added ring from e.frame e.channel before own port after alike
    by_kind Withdrawn = withdrawn ring from e.frame e.channel before own port alike

-- ---- the last frames

past-last : (ring : Geometry) (from : ℕ) (marks : Marks) → IsPastFrame ring from marks.high → high_frame ring marks ≡ Some (last_before marks.high)
past-last ring from marks past = rw (past.after_start) refl

past-from : (from : ℕ) (high : Cursor) → from < first_free high 0 → last_from from (Some (last_before high)) ≡ Some (last_before high)
past-from from high past = grind (arith, nat_tests)

high-last : (ring : Geometry) (one other : Marks) → one.high ≡ other.high → high_frame ring one ≡ high_frame ring other
high-last ring one other same = ap (λ (at : Cursor). if is_before (start_of ring) at then Some (last_before at) else None) same

still-none : (ring : Geometry) (from : ℕ) (before : Cursor) (own port : Marks) → HasLaidNone ring from before own port → HasLaidNone ring from port.high own port
still-none ring from before own port none = assumption

none-lasts : (ring : Geometry) (from : ℕ) (before own port : Marks) → HasLaidNone ring from before.high own port → MarksAlike ring from port.high own port
    → HasOwnLast ring from before own port
none-lasts ring from before own port none again = grind (arith, nat_tests)

pub marks-last : (ring : Geometry) (from : ℕ) (before own port : Marks) → MarksAlike ring from before.high own port → HasOwnLast ring from before own port
marks-last ring from before own port (untouched none low low_port) =
    none-lasts ring from before own port none (untouched (still-none ring from before.high own port none) low low_port)
marks-last ring from before own port (moved none same) = none-lasts ring from before own port none (moved (still-none ring from before.high own port none) same)
marks-last ring from before own port (laid same high past floor) =
    let own_is = past-last ring from own past in
    let port_is : high_frame ring port ≡ Some (last_before own.high) = sym (high-last ring own port high) ∙ own_is in
    let since_is : last_from from (high_frame ring port) ≡ Some (last_before own.high) = ap (last_from from) port_is ∙ past-from from own.high past.after_frame in
    record {
      port_last = rw own_is port_is;
      own_last = own_is ∙ sym since_is;
      again = laid same high past floor;
      since = λ opening before_is. port_is ∙ sym (ap (λ last. last_of last opening) since_is);
    }
