use Rattle.plug_chain.specs.Prelude.{ap, List, refl, suc, take, zero, ℕ, ℤ, [], ◌∙◌, ◌∷◌, ◌≡◌, set, to_z-of_z, w16}
use Rattle.plug_chain.proofs.frame.Frame.put.Goals as goal

-- the front of a list with one element written
take-set_front : (n i : ℕ) (v : ℤ) (xs : List ℤ) → take n (set xs i v) ≡ set (take n xs) i v
take-set_front zero i v xs = refl
take-set_front (suc n) i v [] = refl
take-set_front (suc n) zero v (x ∷ xs) = refl
take-set_front (suc n) (suc i) v (x ∷ xs) = ap (λ ys. x ∷ ys) (take-set_front n i v xs)

pub returns : goal.returns
returns c =
    ap (λ v. take c.args.self.now.len (set c.args.self.now.samples c.args.channel v)) (to_z-of_z w16 c.args.sample c.ranges.sample)
    ∙ take-set_front c.args.self.now.len c.args.channel c.args.sample c.args.self.now.samples
