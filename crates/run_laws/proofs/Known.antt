-- What all results of a course have, by the last position that is known when it ends.
use Rattle.run_laws.specs.Prelude.{ap, arith, None, Option, Some, ℕ, ◌∙◌, ◌≡◌, ◌≤◌, Contains, max, Position, Got, Course, gets, loads, AtPort, May, Rules}
use Rattle.run_laws.proofs.RunGoesOn.{get-seen, stop-seen}
use Rattle.run_laws.proofs.Yields.{Yields}

-- what is known at a port in a phase: the position at which the phase begins, and the one that was seen last
abbrev pub known_at : ℕ → AtPort → ℕ
known_at begin a = max begin a.seen

abbrev pub AllKnown : {X : Type 0} → Rules → ℕ → (ℕ → X → Type 0) → ℕ → Course X → Type 0
AllKnown {X = X} rules begin Q known m = Yields rules (known_at begin) X Q known m

-- a load gives a position that isn't below the one that is known, and that one is known from then on
pub loads-known : {rules : Rules} {begin : ℕ} {X : Type 0} {Q : ℕ → X → Type 0} {known : ℕ} {next : Option Position → Course X} → ((q : ℕ) → Contains rules.published q → begin ≤ q)
    → AllKnown rules begin Q known (next None) → ((p : Position) → known ≤ p.frame → AllKnown rules begin Q p.frame (next (Some p))) → AllKnown rules begin Q known (loads next)
loads-known {rules = rules} {begin = begin} {X = X} {Q = Q} {known = known} {next = next} least none some = record { by = steps }
  where
    steps : (a b : AtPort) (x : X) → max begin a.seen ≡ known → May rules a (loads next) b x → Q (max begin b.seen) x
    steps a b x at (None, k, step, rest) = none.by k b x (ap (λ (c : AtPort). max begin c.seen) step ∙ ap (λ (n : ℕ). max begin n) (stop-seen a) ∙ at) rest
    steps a b x at (Some p, k, (passes, there, newer, gone, is), rest) =
        let first : begin ≤ p.frame = least p.frame there in
        let seen : k.seen ≡ p.frame = ap (λ (c : AtPort). c.seen) is in
        let newest : known ≤ p.frame = omega (arith, at, first, newer) in
        let same : max begin k.seen ≡ p.frame = omega (arith, first, seen) in
        (some p newest).by k b x same rest

pub gets-known : {rules : Rules} (begin : ℕ) {X : Type 0} {Q : ℕ → X → Type 0} {known frame : ℕ} {next : Got → Course X} → ((how : Got) → AllKnown rules begin Q known (next how))
    → AllKnown rules begin Q known (gets frame next)
gets-known {rules = rules} begin {frame = frame} all = record {
  by = λ a b x at takes. (all takes.0).by takes.1 b x (ap (λ (n : ℕ). max begin n) (get-seen rules a takes.1 frame takes.0 takes.2) ∙ at) takes.3;
}
