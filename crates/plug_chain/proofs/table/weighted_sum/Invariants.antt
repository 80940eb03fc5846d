use Rattle.plug_chain.specs.Prelude.{drop, ◌≡◌, ◌+ℤ◌, IsSumOf, weighted_sum}
use Rattle.plug_chain.proofs.table.weighted_sum.Given as goal

abbrev pub invariant-loop-input : goal.invariant-loop-input
invariant-loop-input l = record {
  within : IsSumOf l.input l.sum;
  rest : l.sum +ℤ weighted_sum (drop l.input l.weights) (drop l.input l.samples) ≡ weighted_sum l.weights l.samples;
}
