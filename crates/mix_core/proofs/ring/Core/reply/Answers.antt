use Rattle.mix_core.specs.Prelude.{refl, subst, sym, Event, Publish, Take, Published, IsAnswered}
use Rattle.mix_core.proofs.Replies.{IsReplied-published}
use Rattle.mix_core.proofs.Standing.{answered-other, keeps-replied, keeps-nothing}
use Rattle.mix_core.proofs.ring.Core.reply.Goals as goal

pub returns-in-Take-clause-answer : goal.returns-in-Take-clause-answer
returns-in-Take-clause-answer c =
    subst (λ (e : Event). IsAnswered c.args.self.now c.reply_to_take.new.self c.args.standing.now.items c.args.standing.now.items e c.reply_to_take.result) (sym c.in-Take.is)
    (answered-other _ _ _ _ Take _ tt c.reply_to_take.ensures (keeps-replied c.args.standing.now.items c.reply_to_take.result))

pub returns-in-Publish-clause-answer : goal.returns-in-Publish-clause-answer
returns-in-Publish-clause-answer c =
    subst (λ (e : Event). IsAnswered c.args.self.now c.publish.new.self c.args.standing.now.items c.args.standing.now.items e (Published c.position.result.frame)) (sym c.in-Publish.is)
    (answered-other _ _ _ _ Publish _ tt (IsReplied-published c.args.self.now c.publish.new.self _ c.publish.ensures c.position.ensures.frame) (λ rows keeps. keeps-nothing _ rows _ refl keeps))
