-- How often the gates of readers stopped them, from phase to phase and from item to item.
use Rattle.std.specs.Prelude.{◌≡◌, ℕ, zero, suc, ◌+◌, Bool, true, false, List, [], ◌∷◌, map, slice_index_or, slice_set}
use Rattle.std.proofs.Common.{refl, ap, ◌∙◌}
use Rattle.snd_base.specs.declared.geometry.Geometry.{Geometry}
use Rattle.lab_run.specs.Items.{is_reader_stopped, reaped_reader, reaped_reader_if}
use Rattle.lab_run.specs.Reader.{Reader}
use Rattle.lab_run.specs.Rules.{AtPort}
use Rattle.lab_actors.specs.Gates.{AreCounted}
use Rattle.lab_actors.specs.Walks.{AreEach}

-- an actor's gate stopped it so often, when it had stopped so often before
abbrev pub IsCounted : {S : Type 0} → (ℕ → ℕ) → (ℕ → ℕ) → ℕ → AtPort × S → Type 0
IsCounted base stops number actor = actor.0.by_gate + base number ≡ stops number

-- a relation of each actor, with its count
pub AreEach-counted : {X S : Type 0} (R : ℕ → X → AtPort × S → Type 0) (base stops : ℕ → ℕ) (number : ℕ) (xs : List X) (ys : List (AtPort × S)) → AreEach R number xs ys
    → AreCounted base stops number ys → AreEach (λ n x y. R n x y × IsCounted base stops n y) number xs ys
AreEach-counted R base stops number [] [] are counted = tt
AreEach-counted R base stops number (x ∷ xs) (y ∷ ys) are counted = ((are.0, counted.0), AreEach-counted R base stops (number + 1) xs ys are.1 counted.1)
AreEach-counted R base stops number [] (y ∷ ys) are counted = absurd are
AreEach-counted R base stops number (x ∷ xs) [] are counted = absurd are

pub AreCounted-each : {X S : Type 0} (R : ℕ → X → AtPort × S → Type 0) (base stops : ℕ → ℕ) (number : ℕ) (xs : List X) (ys : List (AtPort × S))
    → ((n : ℕ) (x : X) (y : AtPort × S) → R n x y → IsCounted base stops n y) → AreEach R number xs ys → AreCounted base stops number ys
AreCounted-each R base stops number [] [] then are = tt
AreCounted-each R base stops number (x ∷ xs) (y ∷ ys) then are = (then number x y are.0, AreCounted-each R base stops (number + 1) xs ys then are.1)
AreCounted-each R base stops number [] (y ∷ ys) then are = absurd are
AreCounted-each R base stops number (x ∷ xs) [] then are = absurd are

-- an actor that is at its port anew has the count that it had
pub AreCounted-set : {S : Type 0} (base stops : ℕ → ℕ) (number : ℕ) (xs : List (AtPort × S)) (i : ℕ) (d x : AtPort × S) → x.0.by_gate ≡ (slice_index_or xs i d).0.by_gate
    → AreCounted base stops number xs → AreCounted base stops number (slice_set xs i x)
AreCounted-set base stops number [] i d x same counted = tt
AreCounted-set base stops number (y ∷ xs) zero d x same counted = (ap (λ n. n + base number) same ∙ counted.0, counted.1)
AreCounted-set base stops number (y ∷ xs) (suc i) d x same counted = (counted.0, AreCounted-set base stops (number + 1) xs i d x same counted.1)

-- so has one that is reaped
by_gate-reaped : (ring : Geometry) (x : AtPort × Reader) (b : Bool) → (reaped_reader_if b ring x).0.by_gate ≡ x.0.by_gate
by_gate-reaped ring x true = refl
by_gate-reaped ring x false = refl

pub AreCounted-reaped : (ring : Geometry) (base stops : ℕ → ℕ) (number : ℕ) (xs : List (AtPort × Reader)) → AreCounted base stops number xs
    → AreCounted base stops number (map (reaped_reader ring) xs)
AreCounted-reaped ring base stops number [] counted = tt
AreCounted-reaped ring base stops number (x ∷ xs) counted =
    (ap (λ n. n + base number) (by_gate-reaped ring x (is_reader_stopped x.1.own)) ∙ counted.0, AreCounted-reaped ring base stops (number + 1) xs counted.1)
