-- Relations between two states of a value that say by a list what happened from the one to the other.
use Rattle.std.specs.Prelude.{List, [], ◌++◌}
use Rattle.std.proofs.Common.{subst}
use Rattle.std.proofs.lemmas.List.{append-nil}

-- nothing happened from a state to itself, and what happened in two steps is joined
pub record Composes {S X : Type 0} (R : S → S → List X → Type 0) : Type 0 where
  pub none : (p : S) → R p p []
  pub joined : (p q r : S) (xs ys : List X) → R p q xs → R q r ys → R p r (xs ++ ys)

-- a step in which nothing happened, after another
pub Composes-none_after : {S X : Type 0} (R : S → S → List X → Type 0) (p q r : S) (xs : List X)
    → Composes R → R p q xs → R q r [] → R p r xs
Composes-none_after R p q r xs composes first then_none =
    subst (R p r) (append-nil xs) (composes.joined p q r xs [] first then_none)

-- a step in which nothing happened, before another
pub Composes-none_before : {S X : Type 0} (R : S → S → List X → Type 0) (p q r : S) (xs : List X)
    → Composes R → R p q [] → R q r xs → R p r xs
Composes-none_before R p q r xs composes none_first then_some = composes.joined p q r [] xs none_first then_some
