use Rattle.std.proofs.Common.{arith, inr}
use Rattle.wav_io.proofs.Parts.{nothing_behind}
use Rattle.wav_io.proofs.frames.complete.Goals as goal

pub returns-then-len-size-clause-one : goal.returns-then-len-size-clause-one
returns-then-len-size-clause-one c = inr (nothing_behind c.args.size _ _ _ _ c.fill-behind.ensures.all c.fill-behind.ensures.len (omega arith))
