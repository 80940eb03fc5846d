-- All actors of a kind in a phase: what each of them may do by itself, and so what all of them may do.
use Rattle.std.specs.Prelude.{◌≡◌, ℕ, ◌+◌, List, [], ◌∷◌, ◌++◌}
use Rattle.std.specs.List.{flat_map}
use Rattle.std.proofs.Common.{refl, ap}
use Rattle.lab_lines.specs.declared.line.Op.{Op}
use Rattle.lab_lines.specs.declared.row.Row.{Row}
use Rattle.lab_run.specs.Lines.{EachMay, Kind, LinesMay}
use Rattle.lab_run.specs.Rules.{AtPort, Rules}
use Rattle.lab_actors.specs.Walks.{AreEach}

-- an actor of a number may do its lines so, with the rows that an item has, which is so afterwards; and it asked its gate so
pub record ActorMay {S X : Type 0} (kind : ℕ → Kind S) (rules : Rules) (ops : ℕ → List Op) (IsNext : ℕ → X → AtPort × S → Type 0)
    (Asked : ℕ → AtPort × S → AtPort × S → Type 0) (rows_of : X → List Row) (number : ℕ) (before : AtPort × S) (item : X) : Type 0 where
  pub next : AtPort × S
  pub may : LinesMay (kind number) rules before (ops number) next (rows_of item)
  pub is : IsNext number item next
  pub asked : Asked number before next

-- all actors may, the first of which has a number
pub record ActorsMay {S X : Type 0} (kind : ℕ → Kind S) (rules : Rules) (ops : ℕ → List Op) (IsNext : ℕ → X → AtPort × S → Type 0)
    (Asked : ℕ → AtPort × S → AtPort × S → Type 0) (rows_of : X → List Row) (number : ℕ) (before : List (AtPort × S)) (items : List X) : Type 0 where
  pub next : List (AtPort × S)
  pub rows : List Row
  pub may : EachMay kind rules ops number before next rows
  pub are : AreEach IsNext number items next
  pub asked : AreEach Asked number before next
  pub rows_are : rows ≡ flat_map rows_of items

pub actors-may : {S X : Type 0} (kind : ℕ → Kind S) (rules : Rules) (ops : ℕ → List Op) (IsNow IsNext : ℕ → X → AtPort × S → Type 0)
    (Asked : ℕ → AtPort × S → AtPort × S → Type 0) (rows_of : X → List Row) (number : ℕ) (old new : List X) (before : List (AtPort × S)) → AreEach IsNow number old before
    → AreEach (λ n x y. (actor : AtPort × S) → IsNow n x actor → ActorMay kind rules ops IsNext Asked rows_of n actor y) number old new
    → ActorsMay kind rules ops IsNext Asked rows_of number before new
actors-may kind rules ops IsNow IsNext Asked rows_of number [] [] [] are each = record { next = []; rows = []; may = (refl, refl); are = tt; asked = tt; rows_are = refl }
actors-may kind rules ops IsNow IsNext Asked rows_of number (x ∷ old) (y ∷ new) (actor ∷ before) are each =
    let own = each.0 actor are.0 in
    let others = actors-may kind rules ops IsNow IsNext Asked rows_of (number + 1) old new before are.1 each.1 in
    record {
      next = own.next ∷ others.next;
      rows = rows_of y ++ others.rows;
      may = (own.next, others.next, rows_of y, others.rows, own.may, others.may, refl, refl);
      are = (own.is, others.are);
      asked = (own.asked, others.asked);
      rows_are = ap (λ rows. rows_of y ++ rows) others.rows_are;
    }
actors-may kind rules ops IsNow IsNext Asked rows_of number [] (y ∷ new) before are each = absurd each
actors-may kind rules ops IsNow IsNext Asked rows_of number (x ∷ old) [] before are each = absurd each
actors-may kind rules ops IsNow IsNext Asked rows_of number [] [] (actor ∷ before) are each = absurd are
actors-may kind rules ops IsNow IsNext Asked rows_of number (x ∷ old) (y ∷ new) [] are each = absurd are
