-- What every result of a course has, whatever came of its steps.
use Rattle.std.specs.Prelude.{ℕ, Bool, true, false, if◌then◌else◌, Option, ⊤}
use Rattle.mix_core.specs.declared.port.Ended.{Ended}
use Rattle.mix_core.specs.declared.port.Entry.{Entry}
use Rattle.mix_core.specs.declared.port.Position.{Position}
use Rattle.snoop_core.specs.declared.port.Got.{Got}
use Rattle.course.specs.Course.{◌>>=◌, Course, Takes, ends, gets, lays, loads}

-- each result of a course has a fact
abbrev pub Gives : {X : Type 0} → (X → Type 0) → Course X → Type 0
Gives Q (ends x) = Q x
Gives Q (loads next) = (load : Option Position) → Gives Q (next load)
Gives Q (lays e next) = (ended : Ended) → Gives Q (next ended)
Gives Q (gets frame next) = (got : Got) → Gives Q (next got)

-- so has the result with which it was taken
pub Gives-taken : {S X : Type 0} (L : S → Option Position → S → Type 0) (P : S → Entry → Ended → S → Type 0) (G : S → ℕ → Got → S → Type 0) (Q : X → Type 0)
    (s t : S) (m : Course X) (x : X) → Gives Q m → Takes L P G s m t x → Q x
Gives-taken L P G Q s t (ends z) x gives takes = rw takes.result gives
Gives-taken L P G Q s t (loads next) x gives (load, m, step, rest) = Gives-taken L P G Q m t (next load) x (gives load) rest
Gives-taken L P G Q s t (lays e next) x gives (ended, m, step, rest) = Gives-taken L P G Q m t (next ended) x (gives ended) rest
Gives-taken L P G Q s t (gets frame next) x gives (got, m, step, rest) = Gives-taken L P G Q m t (next got) x (gives got) rest

-- what all have, the results of any course have
pub Gives-any : {X : Type 0} (Q : X → Type 0) (m : Course X) → ((x : X) → Q x) → Gives Q m
Gives-any Q (ends x) each = each x
Gives-any Q (loads next) each = λ load. Gives-any Q (next load) each
Gives-any Q (lays e next) each = λ ended. Gives-any Q (next ended) each
Gives-any Q (gets frame next) each = λ got. Gives-any Q (next got) each

-- what has one fact has another
pub Gives-map : {X : Type 0} (R Q : X → Type 0) (m : Course X) → Gives R m → ((x : X) → R x → Q x) → Gives Q m
Gives-map R Q (ends x) gives each = each x gives
Gives-map R Q (loads next) gives each = λ load. Gives-map R Q (next load) (gives load) each
Gives-map R Q (lays e next) gives each = λ ended. Gives-map R Q (next ended) (gives ended) each
Gives-map R Q (gets frame next) gives each = λ got. Gives-map R Q (next got) (gives got) each

-- one course and then another
pub Gives-then : {X Y : Type 0} (R : X → Type 0) (Q : Y → Type 0) (m : Course X) (f : X → Course Y) → Gives R m → ((x : X) → R x → Gives Q (f x)) → Gives Q (m >>= f)
unfolding ◌>>=◌
Gives-then R Q (ends x) f gives each = each x gives
Gives-then R Q (loads next) f gives each = λ load. Gives-then R Q (next load) f (gives load) each
Gives-then R Q (lays e next) f gives each = λ ended. Gives-then R Q (next ended) f (gives ended) each
Gives-then R Q (gets frame next) f gives each = λ got. Gives-then R Q (next got) f (gives got) each

-- whatever the first gave, what follows has a fact
pub Gives-behind : {X Y : Type 0} (Q : Y → Type 0) (m : Course X) (f : X → Course Y) → ((x : X) → Gives Q (f x)) → Gives Q (m >>= f)
Gives-behind Q m f each = Gives-then (λ x. ⊤) Q m f (Gives-any (λ x. ⊤) m (λ x. tt)) (λ x any. each x)

-- one of two courses, by a test
pub Gives-if : {X : Type 0} (Q : X → Type 0) (test : Bool) (m n : Course X) → Gives Q m → Gives Q n → Gives Q (if test then m else n)
Gives-if Q true m n one two = one
Gives-if Q false m n one two = two
