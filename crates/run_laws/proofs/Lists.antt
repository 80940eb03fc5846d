-- Lists, each member of which has a fact.
use Rattle.run_laws.specs.Prelude.{List, [], ◌++◌, ◌∷◌, AllByRecursion}

pub each-append : {X : Type 0} (P : X → Type 0) (xs ys : List X) → AllByRecursion P xs → AllByRecursion P ys → AllByRecursion P (xs ++ ys)
each-append P [] ys one other = other
each-append P (x ∷ xs) ys one other = (one.0, each-append P xs ys one.1 other)
