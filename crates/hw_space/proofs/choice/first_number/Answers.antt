-- The trailing zeros end at the lowest bit.
use Rattle.std.proofs.Common.{arith}
use Rattle.hw_space.proofs.PointLaws.{IsFirstNumber-trailing_zeros}
use Rattle.hw_space.proofs.choice.first_number.Goals as goal

pub returns-clause-first : goal.returns-clause-first
returns-clause-first c = IsFirstNumber-trailing_zeros c.args.mask c.requires (omega arith)
