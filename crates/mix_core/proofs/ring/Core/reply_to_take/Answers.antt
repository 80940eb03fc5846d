use Rattle.mix_core.specs.Prelude.{rules, to_z-of_z, w16, SFits}
use Rattle.mix_core.proofs.Replies.{IsReplied-took}
use Rattle.mix_core.proofs.ring.Core.reply_to_take.Goals as goal

pub returns-in-Ok : goal.returns-in-Ok
returns-in-Ok c =
    let t = c.in-Ok.taken in
    let fits : SFits w16 t.value = search rules in
    simp to_z-of_z (IsReplied-took c.args.self.now c.take.new.self t c.in-Ok.ensures.ok)
