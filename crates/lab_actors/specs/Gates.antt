-- The gates of actors: one for each, by its number.
use Rattle.std.specs.Prelude.{◌≡◌, ◌≢◌, ℕ, zero, suc, ◌+◌, ◌<◌, List, [], ◌∷◌, length, slice_index_or, slice_set, ⊤}
use Rattle.std.proofs.Common.{refl, sym, ap, subst, arith}
use Rattle.std.proofs.lemmas.List.{get_or-set_other, get_or-set_same, length-set}
use Rattle.mix_core.specs.declared.gate.Gate as gate
use Rattle.mix_core.specs.declared.gate.Pass.{Pass}
use Rattle.mix_core.specs.declared.gate.StepKind.{StepKind}
use Rattle.lab_run.specs.GateAsks.{AsksGate, HasAsked}
use Rattle.lab_run.specs.Rules.{AtPort}
use Rattle.lab_actors.specs.Walks.{AreEach, get_or-any}

-- how often the gate of a number stopped, among some gates
abbrev pub stops_at : {G : Type 0} → (G → ℕ) → List G → ℕ → ℕ
stops_at stops [] i = 0
stops_at stops (g ∷ gs) zero = stops g
stops_at stops (g ∷ gs) (suc i) = stops_at stops gs i

-- a gate that asked may have stopped more often, and the others are as they were
pub stops_at-set_same : {G : Type 0} (stops : G → ℕ) (gates : List G) (i : ℕ) (g : G) → i < length gates → stops_at stops (slice_set gates i g) i ≡ stops g
stops_at-set_same stops [] i g inside = absurd (omega (arith, inside))
stops_at-set_same stops (h ∷ gates) zero g inside = refl
stops_at-set_same stops (h ∷ gates) (suc i) g inside = stops_at-set_same stops gates i g (omega (arith, inside))

pub stops_at-set_other : {G : Type 0} (stops : G → ℕ) (gates : List G) (j i : ℕ) (g : G) → i ≢ j → stops_at stops (slice_set gates j g) i ≡ stops_at stops gates i
stops_at-set_other stops [] j i g other = refl
stops_at-set_other stops (h ∷ gates) zero zero g other = absurd (other refl)
stops_at-set_other stops (h ∷ gates) zero (suc i) g other = refl
stops_at-set_other stops (h ∷ gates) (suc j) zero g other = refl
stops_at-set_other stops (h ∷ gates) (suc j) (suc i) g other = stops_at-set_other stops gates j i g (λ is. other (ap suc is))

pub stops_at-index : {G : Type 0} (stops : G → ℕ) (gates : List G) (i : ℕ) (d : G) → i < length gates → stops_at stops gates i ≡ stops (slice_index_or gates i d)
stops_at-index stops [] i d inside = absurd (omega (arith, inside))
stops_at-index stops (h ∷ gates) zero d inside = refl
stops_at-index stops (h ∷ gates) (suc i) d inside = stops_at-index stops gates i d (omega (arith, inside))

-- each actor of a run counts its gate's stops since the lab began, when there had been some; the first of them has a number
abbrev pub AreCounted : {S : Type 0} → (ℕ → ℕ) → (ℕ → ℕ) → ℕ → List (AtPort × S) → Type 0
AreCounted base stops number [] = ⊤
AreCounted base stops number (actor ∷ actors) = (actor.0.by_gate + base number ≡ stops number) × AreCounted base stops (number + 1) actors

-- the gate of a number, among some gates, was asked so often, and this is so of how often it had stopped before, of how often it has stopped since,
-- and of the asks
pub record AsksGateAt {T : Type 0} (G : gate.Ghosts T) (gates after : List T) (number : ℕ)
    (Then : ℕ → ℕ → ℕ → Type 0) : Type 0 where
  pub asks : ℕ
  pub asked : (d : T)
      → HasAsked G.asked (slice_index_or gates number d) (slice_index_or after number d) asks
  pub then : Then (stops_at G.stops gates number) (stops_at G.stops after number) asks

module _ {T : Type 0} (G : gate.Ghosts T) (gates after : List T) (i : ℕ) where
  -- a gate that was asked is that of its number
  pub AsksGateAt-index : (g : T) (Then : ℕ → ℕ → ℕ → Type 0) → i < length gates → i < length after
      → AsksGate G (slice_index_or gates i g) (slice_index_or after i g) Then → AsksGateAt G gates after i Then
  AsksGateAt-index g Then inside inside_after one = record {
    asks = one.asks;
    asked = λ d. subst (λ (h : T). HasAsked G.asked h (slice_index_or after i d) one.asks) (get_or-any gates i g d inside)
        (subst (λ (h : T). HasAsked G.asked (slice_index_or gates i g) h one.asks) (get_or-any after i g d inside_after) one.asked);
    then = subst (λ (n : ℕ). Then n (stops_at G.stops after i) one.asks) (sym (stops_at-index G.stops gates i g inside))
        (subst (λ (n : ℕ). Then (G.stops (slice_index_or gates i g)) n one.asks) (sym (stops_at-index G.stops after i g inside_after)) one.then);
  }

  -- where another gate is asked then, it is as it was
  pub AsksGateAt-other : (j : ℕ) (h : T) (Then : ℕ → ℕ → ℕ → Type 0) → i ≢ j → AsksGateAt G gates after i Then → AsksGateAt G gates (slice_set after j h) i Then
  AsksGateAt-other j h Then other at = record {
    asks = at.asks;
    asked = λ d. subst (λ (k : T). HasAsked G.asked (slice_index_or gates i d) k at.asks) (sym (get_or-set_other after j i h d other)) (at.asked d);
    then = subst (λ (n : ℕ). Then (stops_at G.stops gates i) n at.asks) (sym (stops_at-set_other G.stops after j i h other)) at.then;
  }

-- a gate that was as before is asked
pub AsksGateAt-set : {T : Type 0} (G : gate.Ghosts T) (gates after : List T) (i : ℕ) (g h : T) (Then : ℕ → ℕ → ℕ → Type 0) → i < length gates → i < length after
    → slice_index_or after i g ≡ slice_index_or gates i g → AsksGate G (slice_index_or after i g) h Then → AsksGateAt G gates (slice_set after i h) i Then
AsksGateAt-set {T = T} G gates after i g h Then inside inside_after same one =
    let len = length-set after i h in
    AsksGateAt-index G gates (slice_set after i h) i g Then inside (omega (arith, inside_after, len))
    (subst (λ (k : T). AsksGate G (slice_index_or gates i g) k Then) (sym (get_or-set_same after i h g inside_after))
    (subst (λ (k : T). AsksGate G k h Then) same one))

-- an actor asked its own gate, whose number this is, so often more, but for the asks of kind Again
pub record HasAskedMore {T S : Type 0} (asked : T → T → List StepKind → Pass → Type 0)
    (gates after : List T) (number : ℕ) (x y : AtPort × S) : Type 0 where
  pub asks : ℕ
  pub asked_it : (d : T)
      → HasAsked asked (slice_index_or gates number d) (slice_index_or after number d) asks
  pub more : y.0.at_gate ≡ x.0.at_gate + asks

-- each of some actors
abbrev pub HaveAskedMore : {T S : Type 0} → (T → T → List StepKind → Pass → Type 0) → List T
    → List T → List (AtPort × S) → List (AtPort × S) → Type 0
HaveAskedMore asked gates after xs ys = AreEach (HasAskedMore asked gates after) 0 xs ys
