-- How often a gate was asked between two states of it.
use Rattle.std.specs.Prelude.{◌≡◌, ℕ, ◌+◌, List, [], ◌∷◌, ◌++◌}
use Rattle.std.proofs.Common.{refl, subst, arith}
use Rattle.mix_core.specs.declared.gate.Gate as gates
use Rattle.mix_core.specs.declared.gate.Pass.{Pass}
use Rattle.mix_core.specs.declared.gate.StepKind.{StepKind}
use Rattle.lab_run.specs.PortSteps.{ask_count}

-- asks one after the other, all of which passed but for the last, with the answer to the last: after a stop a new asking begins
pub record Asking : Type 0 where
  pub kinds : List StepKind
  pub pass : Pass

-- how many asks some of these have, but for those of kind Again
abbrev pub asks_in : List Asking → ℕ
asks_in [] = 0
asks_in (asking ∷ more) = ask_count asking.kinds + asks_in more

-- a gate was asked all of these, in order
abbrev pub AreAsked : {T : Type 0} → (T → T → List StepKind → Pass → Type 0) → T → List Asking
    → T → Type 0
AreAsked asked g [] h = h ≡ g
AreAsked {T = T} asked g (asking ∷ more) h =
    (between : T) × asked g between asking.kinds asking.pass × AreAsked asked between more h

-- a gate was asked so often, but for the asks of kind Again
pub record HasAsked {T : Type 0} (asked : T → T → List StepKind → Pass → Type 0) (g h : T)
    (count : ℕ) : Type 0 where
  pub askings : List Asking
  pub are : AreAsked asked g askings h
  pub count_is : count ≡ asks_in askings

-- a gate was asked so often, and this is so of how often it had stopped before, of how often it has stopped since, and of the asks
pub record AsksGate {T : Type 0} (G : gates.Ghosts T) (gate after : T)
    (Then : ℕ → ℕ → ℕ → Type 0) : Type 0 where
  pub asks : ℕ
  pub asked : HasAsked G.asked gate after asks
  pub then : Then (G.stops gate) (G.stops after) asks

-- never, between a state and itself; once; and from one state to another one and from there to a third
pub HasAsked-none : {T : Type 0} (asked : T → T → List StepKind → Pass → Type 0) (g h : T) → h ≡ g → HasAsked asked g h 0
HasAsked-none asked g h same = record { askings = []; are = same; count_is = refl }

pub HasAsked-once : {T : Type 0} (asked : T → T → List StepKind → Pass → Type 0) (g h : T) (kinds : List StepKind) (pass : Pass) → asked g h kinds pass
    → HasAsked asked g h (ask_count kinds)
HasAsked-once asked g h kinds pass it = record {
  askings = record { kinds = kinds; pass = pass } ∷ [];
  are = (h, it, refl);
  count_is = omega arith;
}

asks_in-append : (xs ys : List Asking) → asks_in (xs ++ ys) ≡ asks_in xs + asks_in ys
asks_in-append [] ys = omega arith
asks_in-append (x ∷ xs) ys = let rest = asks_in-append xs ys in omega (arith, rest)

AreAsked-joined : {T : Type 0} (asked : T → T → List StepKind → Pass → Type 0) (g h k : T) (xs ys : List Asking) → AreAsked asked g xs h → AreAsked asked h ys k
    → AreAsked asked g (xs ++ ys) k
AreAsked-joined {T = T} asked g h k [] ys first then = subst (λ (m : T). AreAsked asked m ys k) first then
AreAsked-joined asked g h k (x ∷ xs) ys (between, it, more) then = (between, it, AreAsked-joined asked between h k xs ys more then)

pub HasAsked-joined : {T : Type 0} (asked : T → T → List StepKind → Pass → Type 0) (g h k : T) (n m : ℕ) → HasAsked asked g h n → HasAsked asked h k m
    → HasAsked asked g k (n + m)
HasAsked-joined asked g h k n m first then = record {
  askings = first.askings ++ then.askings;
  are = AreAsked-joined asked g h k first.askings then.askings first.are then.are;
  count_is = let both = asks_in-append first.askings then.askings in let one = first.count_is in let two = then.count_is in omega (arith, both, one, two);
}
