use Rattle.std.proofs.Common.{arith}
use Rattle.lab_script.proofs.Pairs.{product_most}
use Rattle.lab_script.proofs.steps.ends_lap.Goals as goal

pub overflow_add-result : goal.overflow_add-result
overflow_add-result c = omega (arith, product_most c.from.result c.from-ring.result (omega arith) (omega arith))

pub overflow_add-result-2 : goal.overflow_add-result-2
overflow_add-result-2 c = omega (arith, product_most c.from.result c.from-ring.result (omega arith) (omega arith))
