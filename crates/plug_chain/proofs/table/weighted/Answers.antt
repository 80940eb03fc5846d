use Rattle.plug_chain.specs.Prelude.{ap, FitsSigned, subst, sym, ℤ, ◌∙◌, ◌≡◌, to_z-of_z, w16, w32, w64, ◌*ℤ◌, of_z, to_z, IsSumOf}
use Rattle.plug_chain.proofs.Sums.{IsSumOf-product, FitsSigned-product, product-is}
use Rattle.plug_chain.proofs.table.weighted.Goals as goal

-- the product, without its casts
product : (c : goal.After-from-2) → to_z w64 (of_z w64 c.from.result) *ℤ to_z w64 (of_z w64 c.from-2.result) ≡ c.args.weight *ℤ c.args.sample
product c =
    product-is c.args.weight c.args.sample c.from.result c.from-2.result c.requires c.ranges.sample (c.from.ensures ∙ to_z-of_z w32 c.args.weight c.ranges.weight) (c.from-2.ensures ∙ to_z-of_z w16 c.args.sample c.ranges.sample)

value : (c : goal.After-from-2) → to_z w64 (of_z w64 (to_z w64 (of_z w64 c.from.result) *ℤ to_z w64 (of_z w64 c.from-2.result))) ≡ c.args.weight *ℤ c.args.sample
value c = ap (λ (z : ℤ). to_z w64 (of_z w64 z)) (product c) ∙ to_z-of_z w64 (c.args.weight *ℤ c.args.sample) (FitsSigned-product c.args.weight c.args.sample c.requires c.ranges.sample)

pub overflow_mul-result : goal.overflow_mul-result
overflow_mul-result c = subst (λ (z : ℤ). FitsSigned w64 z) (sym (product c)) (FitsSigned-product c.args.weight c.args.sample c.requires c.ranges.sample)

pub returns-clause-value : goal.returns-clause-value
returns-clause-value c = value c

pub returns-clause-within : goal.returns-clause-within
returns-clause-within c = subst (λ (z : ℤ). IsSumOf 1 z) (sym (value c)) (IsSumOf-product c.args.weight c.args.sample c.requires c.ranges.sample)
