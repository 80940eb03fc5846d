-- A call, step by step: what it does at its port, one thing after the other, and how it goes on by each answer.
use Rattle.std.specs.Prelude.{◌≡◌, ℕ, Option}
use Rattle.mix_core.specs.declared.port.Ended.{Ended}
use Rattle.mix_core.specs.declared.port.Entry.{Entry}
use Rattle.mix_core.specs.declared.port.Position.{Position}
use Rattle.snoop_core.specs.declared.port.Got.{Got}

-- it ends with a result, or it loads the position (none, where the gate stops it), places an entry (adds a sample or withdraws
-- one), or loads a captured frame, and goes on by what came of it
pub data Course (X : Type 0) : Type 0 where
  ends : X → Course X
  loads : (Option Position → Course X) → Course X
  lays : Entry → (Ended → Course X) → Course X
  gets : ℕ → (Got → Course X) → Course X

-- one course, and then another by its result
infixl 10 ◌>>=◌
unfoldable pub ◌>>=◌ : {A B : Type 0} → Course A → (A → Course B) → Course B
(ends x) >>= f = f x
(loads next) >>= f = loads (λ load. next load >>= f)
(lays e next) >>= f = lays e (λ ended. next ended >>= f)
(gets frame next) >>= f = gets frame (λ got. next got >>= f)

-- a course was taken from one state to another, with this result, where three relations say what each kind of step does
abbrev pub Takes : {S X : Type 0} (Loads : S → Option Position → S → Type 0) (Lays : S → Entry → Ended → S → Type 0) (Gets : S → ℕ → Got → S → Type 0)
    → S → Course X → S → X → Type 0
Takes Loads Lays Gets s (ends x) t y = record { there : t ≡ s; result : y ≡ x }
Takes {S = S} Loads Lays Gets s (loads next) t y =
    (load : Option Position) × (m : S) × Loads s load m × Takes Loads Lays Gets m (next load) t y
Takes {S = S} Loads Lays Gets s (lays e next) t y =
    (ended : Ended) × (m : S) × Lays s e ended m × Takes Loads Lays Gets m (next ended) t y
Takes {S = S} Loads Lays Gets s (gets frame next) t y =
    (got : Got) × (m : S) × Gets s frame got m × Takes Loads Lays Gets m (next got) t y
