use Rattle.std.proofs.Common.{◌≡◌, ◌-◌, arith, suc}
use Rattle.lab_play.proofs.Writing.{sounds-reader}
use Rattle.lab_play.proofs.write.samples_of.Goals as goal

pub returns-else-number-eq0 : goal.returns-else-number-eq0
returns-else-number-eq0 c stage at =
    let other = c.if-number-eq0.false in
    let next : c.args.number ≡ suc (c.args.number - 1) = omega (arith, other) in
    sounds-reader c.args.lab.now stage at c.args.number (c.args.number - 1) c.recorded.result.now next c.requires.number (λ e. c.recorded.ensures stage e at)
