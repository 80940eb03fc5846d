use Rattle.std.proofs.Common.{arith}
use Rattle.dsnoop_client.proofs.Through.{through-is}
use Rattle.dsnoop_client.proofs.frames.put_through.Goals as goal

pub returns : goal.returns
returns c = through-is c.args.bindings.now c.args.frame.now c.loop-client.part (omega arith) (λ k within. c.loop-client.invariant k (omega arith))
