-- Asks that are counted down follow each other.
use Rattle.std.specs.Prelude.{◌≡◌, ℕ, ◌+◌, ◌-◌, true, List, [], ◌∷◌, ◌++◌, Option, Some, None}
use Rattle.std.proofs.Common.{refl, sym, ◌∙◌, ap, subst, arith, inl, inr}
use Rattle.std.proofs.lemmas.Bool.Decides.{nat_tests}
use Rattle.mix_core.specs.declared.gate.Pass.{Pass}
use Rattle.mix_core.specs.declared.gate.Pass.TheVariants.{Go, Stop}
use Rattle.mix_core.specs.declared.gate.StepKind.{StepKind}
use Rattle.mix_core.specs.Gate.{AsksCompose}
use Rattle.mix_core.specs.Laid.{without_last}
use Rattle.lab_run.specs.GateAsks.{HasAsked-joined, HasAsked-none, HasAsked-once}
use Rattle.lab_run.specs.PortSteps.{CountsDown, IsAnswered, ask_count, last_kind, stop_at, with_gate}
use Rattle.lab_run.specs.Rules.{AtPort, left_after, lets_pass, with_asks}
use Rattle.lab_actors.specs.declared.countdown.Countdown.{Countdown}
use Rattle.lab_actors.specs.Countdown.{Answers, CameOn, CountsAsks, IsSameGate, KeepsGate, PassesOn, at_gate_of, by_gate_of, left_of}

ask_count-append : (xs ys : List StepKind) → ask_count (xs ++ ys) ≡ ask_count xs + ask_count ys
ask_count-append [] ys = omega arith
ask_count-append (x ∷ xs) ys = let rest = ask_count-append xs ys in omega (arith, rest)

lets_pass-joined : (n m : ℕ) (left : Option ℕ) → lets_pass n left ≡ true → lets_pass m (left_after n left) ≡ true → lets_pass (n + m) left ≡ true
lets_pass-joined n m None first later = refl
lets_pass-joined n m (Some left) first later = grind (arith, nat_tests, first, later)

left_after-joined : (n m : ℕ) (left : Option ℕ) → left_after m (left_after n left) ≡ left_after (n + m) left
left_after-joined n m None = refl
left_after-joined n m (Some left) = ap Some (let e : left - n - m ≡ left - (n + m) = omega arith in e)

with_asks-joined : (n m : ℕ) (a : AtPort) → with_asks m (with_asks n a) ≡ with_asks (n + m) a
with_asks-joined n m a =
    let count : a.at_gate + n + m ≡ a.at_gate + (n + m) = omega arith in
    λ i. record { seen = a.seen; marks = a.marks; left = left_after-joined n m a.left i; by_gate = a.by_gate; at_gate = count i }

without_last-append : (xs : List StepKind) (y : StepKind) (ys : List StepKind) → without_last (xs ++ y ∷ ys) ≡ xs ++ without_last (y ∷ ys)
without_last-append [] y ys = refl
without_last-append (x ∷ []) y ys = refl
without_last-append (x ∷ z ∷ xs) y ys = ap (λ (ks : List StepKind). x ∷ ks) (without_last-append (z ∷ xs) y ys)

last_kind-append : (xs : List StepKind) (y : StepKind) (ys : List StepKind) → last_kind (xs ++ y ∷ ys) ≡ last_kind (y ∷ ys)
last_kind-append [] y ys = refl
last_kind-append (x ∷ []) y ys = refl
last_kind-append (x ∷ z ∷ xs) y ys = last_kind-append (z ∷ xs) y ys

-- asks that all passed, and then others
passed-joined : (xs ys : List StepKind) (a b c : AtPort) → IsAnswered xs Go a b → IsAnswered ys Go b c → IsAnswered (xs ++ ys) Go a c
passed-joined xs ys a b c first later =
    let passes : lets_pass (ask_count ys) (left_after (ask_count xs) a.left) ≡ true = subst (λ (d : AtPort). lets_pass (ask_count ys) d.left ≡ true) first.1 later.0 in (
      subst (λ (n : ℕ). lets_pass n a.left ≡ true) (sym (ask_count-append xs ys)) (lets_pass-joined (ask_count xs) (ask_count ys) a.left first.0 passes),
      later.1 ∙ ap (with_asks (ask_count ys)) first.1 ∙ with_asks-joined (ask_count xs) (ask_count ys) a ∙ ap (λ (n : ℕ). with_asks n a) (sym (ask_count-append xs ys)),
    )

stopped-joined : (xs : List StepKind) (y : StepKind) (ys : List StepKind) (a b c : AtPort) → IsAnswered xs Go a b → IsAnswered (y ∷ ys) Stop b c → IsAnswered (xs ++ y ∷ ys) Stop a c
stopped-joined xs y ys a b c first later =
    let n = ask_count xs in
    let m = ask_count (without_last (y ∷ ys)) in
    let passes : lets_pass m (left_after n a.left) ≡ true = subst (λ (d : AtPort). lets_pass m d.left ≡ true) first.1 later.0 in
    let number : ask_count (without_last (xs ++ y ∷ ys)) ≡ n + m = ap ask_count (without_last-append xs y ys) ∙ ask_count-append xs (without_last (y ∷ ys)) in (
      subst (λ (k : ℕ). lets_pass k a.left ≡ true) (sym number) (lets_pass-joined n m a.left first.0 passes),
      later.1
          ∙ ap (λ (d : AtPort). stop_at (last_kind (y ∷ ys)) (with_asks m d)) first.1
          ∙ ap (stop_at (last_kind (y ∷ ys))) (with_asks-joined n m a ∙ ap (λ (k : ℕ). with_asks k a) (sym number))
          ∙ ap (λ (kind : StepKind). stop_at kind (with_asks (ask_count (without_last (xs ++ y ∷ ys))) a)) (sym (last_kind-append xs y ys)),
    )

-- what `Answers` says, of any asks
Answers-each : {T : Type 0} (left : T → Option ℕ) (by_gate at_gate : T → ℕ) (g h : T) (kinds : List StepKind) (pass : Pass) → Answers left by_gate at_gate g h kinds pass
    → (a : AtPort) → IsAnswered kinds pass (with_gate left by_gate at_gate g a) (with_gate left by_gate at_gate h a)
Answers-each left by_gate at_gate g h [] Go answers = answers
Answers-each left by_gate at_gate g h [] Stop answers = absurd answers
Answers-each left by_gate at_gate g h (kind ∷ kinds) pass answers = answers

passed-of : {T : Type 0} (left : T → Option ℕ) (by_gate at_gate : T → ℕ) (g h : T) (kinds : List StepKind)
    → ((a : AtPort) → IsAnswered kinds Go (with_gate left by_gate at_gate g a) (with_gate left by_gate at_gate h a)) → Answers left by_gate at_gate g h kinds Go
passed-of left by_gate at_gate g h [] answers = answers
passed-of left by_gate at_gate g h (kind ∷ kinds) answers = answers

stopped-of : {T : Type 0} (left : T → Option ℕ) (by_gate at_gate : T → ℕ) (g h : T) (xs : List StepKind) (y : StepKind) (ys : List StepKind)
    → ((a : AtPort) → IsAnswered (xs ++ y ∷ ys) Stop (with_gate left by_gate at_gate g a) (with_gate left by_gate at_gate h a)) → Answers left by_gate at_gate g h (xs ++ y ∷ ys) Stop
stopped-of left by_gate at_gate g h [] y ys answers = answers
stopped-of left by_gate at_gate g h (x ∷ xs) y ys answers = answers

Answers-none : {T : Type 0} (left : T → Option ℕ) (by_gate at_gate : T → ℕ) (g : T) → Answers left by_gate at_gate g g [] Go
Answers-none left by_gate at_gate g a = (
  lets_pass-none (left g),
  (let count : at_gate g ≡ at_gate g + 0 = omega arith in
      λ i. record { seen = a.seen; marks = a.marks; left = sym (left_after-none (left g)) i; by_gate = by_gate g; at_gate = count i }),
)
  where
    lets_pass-none : (l : Option ℕ) → lets_pass 0 l ≡ true
    lets_pass-none None = refl
    lets_pass-none (Some l) = grind (arith, nat_tests)

    left_after-none : (l : Option ℕ) → left_after 0 l ≡ l
    left_after-none None = refl
    left_after-none (Some l) = ap Some (let e : l - 0 ≡ l = omega arith in e)

Answers-joined : {T : Type 0} (left : T → Option ℕ) (by_gate at_gate : T → ℕ) (g h k : T) (xs ys : List StepKind) (last : Pass)
    → Answers left by_gate at_gate g h xs Go → Answers left by_gate at_gate h k ys last → Answers left by_gate at_gate g k (xs ++ ys) last
Answers-joined left by_gate at_gate g h k xs ys Go first later = passed-of left by_gate at_gate g k (xs ++ ys)
    (λ a. passed-joined xs ys _ _ _ (Answers-each left by_gate at_gate g h xs Go first a) (Answers-each left by_gate at_gate h k ys Go later a))
Answers-joined left by_gate at_gate g h k xs [] Stop first later = absurd later
Answers-joined left by_gate at_gate g h k xs (y ∷ ys) Stop first later = stopped-of left by_gate at_gate g k xs y ys
    (λ a. stopped-joined xs y ys _ _ _ (Answers-each left by_gate at_gate g h xs Go first a) (later a))

-- what came to the own gate, and then more
module _ {G L : Type 0} (asked : G → G → List StepKind → Pass → Type 0) (composes : AsksCompose asked) (c d e : Countdown G L) where
  CameOn-joined : (xs ys : List StepKind) (last : Pass) → CameOn asked c d xs Go → CameOn asked d e ys last → CameOn asked c e (xs ++ ys) last
  CameOn-joined xs ys last first later = record {
    asked_it = composes.joined c.gate.now d.gate.now e.gate.now xs ys last first.asked_it later.asked_it;
    count_is = let one = first.count_is in let two = later.count_is in let both = ask_count-append xs ys in omega (arith, one, two, both);
  }

  PassesOn-joined : (stops : G → ℕ) (xs ys : List StepKind) (last : Pass) → Answers left_of (by_gate_of stops) at_gate_of d e ys last → PassesOn asked c d xs Go → PassesOn asked d e ys last
      → PassesOn asked c e (xs ++ ys) last
  PassesOn-joined stops xs ys Go answers first later = CameOn-joined xs ys Go first later
  PassesOn-joined stops xs [] Stop answers first later = absurd answers
  PassesOn-joined stops xs (y ∷ ys) Stop answers first (inl all) = inl (CameOn-joined xs (y ∷ ys) Stop first all)
  PassesOn-joined stops xs (y ∷ ys) Stop answers first (inr others) =
      inr (subst (λ (kinds : List StepKind). CameOn asked c e kinds Go) (sym (without_last-append xs y ys)) (CameOn-joined xs (without_last (y ∷ ys)) Go first others))

PassesOn-none : {G L : Type 0} (asked : G → G → List StepKind → Pass → Type 0) → AsksCompose asked → (c : Countdown G L) → PassesOn asked c c [] Go
PassesOn-none asked composes c = record { asked_it = composes.none c.gate.now; count_is = omega arith }

pub CountsAsks-composes : {G L : Type 0} (stops : G → ℕ) (asked : G → G → List StepKind → Pass → Type 0) → AsksCompose asked
    → AsksCompose (CountsAsks {G = G} {L = L} stops asked)
CountsAsks-composes stops asked composes = record {
  none = λ g. record { same_gate = refl; answers = Answers-none left_of (by_gate_of stops) at_gate_of g; own = PassesOn-none asked composes g };
  joined = λ g h k xs ys last first later. record {
    same_gate = later.same_gate ∙ first.same_gate;
    answers = Answers-joined left_of (by_gate_of stops) at_gate_of g h k xs ys last first.answers later.answers;
    own = PassesOn-joined asked composes g h k stops xs ys last later.answers first.own later.own;
  };
}

-- such a gate counts down, as a run has it
pub CountsAsks-down : {G L : Type 0} (stops : G → ℕ) (asked : G → G → List StepKind → Pass → Type 0)
    → CountsDown (CountsAsks {G = G} {L = L} stops asked) left_of (by_gate_of stops) at_gate_of
CountsAsks-down stops asked = record {
  tells = λ g h kinds pass a asks. Answers-each left_of (by_gate_of stops) at_gate_of g h kinds pass asks.answers a;
}

-- and it keeps its own gate, which was asked as often as it counts
module _ {G L : Type 0} (asked : G → G → List StepKind → Pass → Type 0) where
  pub KeepsGate-none : (c : Countdown G L) → KeepsGate asked c c
  KeepsGate-none c = record { same_gate = refl; more = 0; asked_it = HasAsked-none asked c.gate.now c.gate.now refl; count_is = omega arith }

  -- where a `die` lets asks pass from now on, nothing else changed
  pub KeepsGate-passing : (c d : Countdown G L) → IsSameGate c d → d.gate.now ≡ c.gate.now → at_gate_of d ≡ at_gate_of c → KeepsGate asked c d
  KeepsGate-passing c d same gate count = record {
    same_gate = same;
    more = 0;
    asked_it = HasAsked-none asked c.gate.now d.gate.now gate;
    count_is = omega (arith, count);
  }

  pub KeepsGate-joined : (c d e : Countdown G L) → KeepsGate asked c d → KeepsGate asked d e → KeepsGate asked c e
  KeepsGate-joined c d e first later = record {
    same_gate = later.same_gate ∙ first.same_gate;
    more = first.more + later.more;
    asked_it = HasAsked-joined asked c.gate.now d.gate.now e.gate.now first.more later.more first.asked_it later.asked_it;
    count_is = let one = first.count_is in let two = later.count_is in omega (arith, one, two);
  }

  KeepsGate-came : (c d : Countdown G L) (kinds : List StepKind) (pass : Pass) → IsSameGate c d → CameOn asked c d kinds pass → KeepsGate asked c d
  KeepsGate-came c d kinds pass same came = record {
    same_gate = same;
    more = ask_count kinds;
    asked_it = HasAsked-once asked c.gate.now d.gate.now kinds pass came.asked_it;
    count_is = came.count_is;
  }

  pub CountsAsks-keeps : (stops : G → ℕ) (c d : Countdown G L) (kinds : List StepKind) (pass : Pass) → CountsAsks stops asked c d kinds pass → KeepsGate asked c d
  CountsAsks-keeps stops c d kinds pass asks = by_pass pass asks.own
    where
      by_pass : (pass : Pass) → PassesOn asked c d kinds pass → KeepsGate asked c d
      by_pass Go all = KeepsGate-came c d kinds Go asks.same_gate all
      by_pass Stop (inl all) = KeepsGate-came c d kinds Stop asks.same_gate all
      by_pass Stop (inr others) = KeepsGate-came c d (without_last kinds) Go asks.same_gate others
