use Rattle.plug_chain.specs.Prelude.{arith, drop, FitsSigned, get_or, pos, rules, subst, sym, ℤ, ◌+◌, ◌≡◌, ints, to_z-of_z, w16, w32, w64, ◌*ℤ◌, ◌+ℤ◌, of_z}
use Rattle.plug_chain.specs.Prelude.{to_z, IsSumOf, weighted_sum}
use Rattle.plug_chain.proofs.Sums.{IsSumOf-more, weighted_sum-step}
use Rattle.plug_chain.proofs.table.weighted_sum.Goals as goal

sum_is : (c : goal.After-weighted-sum) → to_z w64 (of_z w64 (to_z w64 c.loop-input.sum-bits +ℤ to_z w64 (of_z w64 c.weighted-sum.result))) ≡ to_z w64 c.loop-input.sum-bits +ℤ c.weighted-sum.result
sum_is c = omega (arith, ints)

pub loop-input-preserved : goal.loop-input-preserved
loop-input-preserved c =
    let weight : ℤ = get_or c.args.weights.now c.loop-input.input (pos 0) in
    let sample : ℤ = get_or c.args.samples.now c.loop-input.input (pos 0) in
    let weight_fits : FitsSigned w32 (get_or c.args.weights.now c.loop-input.input (pos 0)) = search rules in
    let sample_fits : FitsSigned w16 (get_or c.args.samples.now c.loop-input.input (pos 0)) = search rules in
    let product : c.weighted-sum.result ≡ get_or c.args.weights.now c.loop-input.input (pos 0) *ℤ get_or c.args.samples.now c.loop-input.input (pos 0) = simp to_z-of_z at c.weighted-sum.ensures.value in
    record {
      within = subst (λ z. IsSumOf (c.loop-input.input + 1) z) (sym (sum_is c))
          (IsSumOf-more c.loop-input.input (to_z w64 c.loop-input.sum-bits) c.weighted-sum.result c.loop-input.invariant.within c.weighted-sum.ensures.within);
      rest = subst (λ z. z +ℤ weighted_sum (drop (c.loop-input.input + 1) c.args.weights.now) (drop (c.loop-input.input + 1) c.args.samples.now) ≡ weighted_sum c.args.weights.now c.args.samples.now) (sym (sum_is c))
          (weighted_sum-step c.loop-input.input c.args.weights.now c.args.samples.now (to_z w64 c.loop-input.sum-bits) c.weighted-sum.result (weighted_sum c.args.weights.now c.args.samples.now)
          (omega arith) c.requires.pairs product c.loop-input.invariant.rest);
    }
