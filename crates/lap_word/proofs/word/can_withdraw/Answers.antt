use Rattle.std.proofs.Common.{arith}
use Rattle.std.proofs.lemmas.Int.{ints}
use Rattle.lap_word.proofs.word.can_withdraw.Goals as goal

pub returns-then-count-lt255 : goal.returns-then-count-lt255
returns-then-count-lt255 c = (
  λ yes. let is = c.is_sum.ensures.0 yes in record {
    room = omega arith;
    fits = record { low = grind (arith, ints); high = grind (arith, ints) };
  },
  λ can. c.is_sum.ensures.1 (record { low = grind (arith, ints, can.fits.low); high = grind (arith, ints, can.fits.high) }),
)
