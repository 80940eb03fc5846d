-- Courses that load a position before they place or get anything.
use Rattle.lab_run.specs.Prelude.{None, Option, Some, ◌≡◌, Bool, Err, false, if◌then◌else◌, Ok, OnOk, Result, true, ⊤, PcmError, Ended, Position, Got, Course}
use Rattle.lab_run.specs.Prelude.{ends, gets, lays, loads, ◌>>=◌}

abbrev pub is_loaded : Bool → Option Position → Bool
is_loaded loaded None = loaded
is_loaded loaded (Some position) = true

-- a course places and gets nothing before it loads a position; where it ends, a fact holds of whether it loaded one, and of its result
abbrev pub Led : {X : Type 0} → (Bool → X → Type 0) → Bool → Course X → Type 0
Led P loaded (ends x) = P loaded x
Led P loaded (loads next) = (position : Option Position) → Led P (is_loaded loaded position) (next position)
Led P loaded (lays e next) = (loaded ≡ true) × ((ended : Ended) → Led P loaded (next ended))
Led P loaded (gets frame next) = (loaded ≡ true) × ((got : Got) → Led P loaded (next got))

abbrev pub Anything : {X : Type 0} → Bool → X → Type 0
Anything loaded x = ⊤

abbrev pub LoadsFirst : {X : Type 0} → Bool → Course X → Type 0
LoadsFirst loaded course = Led Anything loaded course

-- it ends where a position was loaded
abbrev pub IsLed : {X : Type 0} → Bool → X → Type 0
IsLed loaded x = loaded ≡ true

-- a call that goes well has loaded a position
abbrev pub OkLed : {S T : Type 0} → Bool → S × Result T PcmError → Type 0
OkLed loaded done = OnOk done.1 (loaded ≡ true)

-- one course after another
pub Led-then : {A B : Type 0} (P : Bool → A → Type 0) (Q : Bool → B → Type 0) (loaded : Bool) (m : Course A) (f : A → Course B)
    → Led P loaded m → ((l : Bool) (x : A) → P l x → Led Q l (f x)) → Led Q loaded (m >>= f)
unfolding ◌>>=◌
Led-then P Q loaded (ends x) f led next = next loaded x led
Led-then P Q loaded (loads go) f led next = λ position. Led-then P Q (is_loaded loaded position) (go position) f (led position) next
Led-then P Q loaded (lays e go) f led next = (led.0, λ ended. Led-then P Q loaded (go ended) f (led.1 ended) next)
Led-then P Q loaded (gets frame go) f led next = (led.0, λ got. Led-then P Q loaded (go got) f (led.1 got) next)

-- a fact that says less
pub Led-less : {A : Type 0} (P Q : Bool → A → Type 0) → ((l : Bool) (x : A) → P l x → Q l x) → (loaded : Bool) (m : Course A)
    → Led P loaded m → Led Q loaded m
Led-less P Q less loaded (ends x) led = less loaded x led
Led-less P Q less loaded (loads go) led = λ position. Led-less P Q less (is_loaded loaded position) (go position) (led position)
Led-less P Q less loaded (lays e go) led = (led.0, λ ended. Led-less P Q less loaded (go ended) (led.1 ended))
Led-less P Q less loaded (gets frame go) led = (led.0, λ got. Led-less P Q less loaded (go got) (led.1 got))

-- a course led so loads first
pub first-of : {X : Type 0} (P : Bool → X → Type 0) (loaded : Bool) (m : Course X) → Led P loaded m → LoadsFirst loaded m
first-of P loaded m led = Led-less P Anything (λ l x p. tt) loaded m led

-- and so does one that goes on by nothing more
pub first-then : {A B : Type 0} (loaded : Bool) (m : Course A) (f : A → Course B) → LoadsFirst loaded m → ((l : Bool) (x : A) → LoadsFirst l (f x))
    → LoadsFirst loaded (m >>= f)
first-then loaded m f led next = Led-then Anything Anything loaded m f led (λ l x any. next l x)

-- by a test
pub Led-if : {X : Type 0} (P : Bool → X → Type 0) (loaded test : Bool) (a b : Course X) → Led P loaded a → Led P loaded b → Led P loaded (if test then a else b)
Led-if P loaded true a b first second = first
Led-if P loaded false a b first second = second

-- where a position was loaded, a call that goes well has loaded one
pub on-ok : {T : Type 0} (loaded : Bool) (r : Result T PcmError) → loaded ≡ true → OnOk r (loaded ≡ true)
on-ok loaded (Ok x) is = is
on-ok loaded (Err e) is = tt
