use Rattle.lab_card.specs.Prelude.{List, subst, sym, ◌∙◌, option_copied, Op, CardPart, CardPart-none}
use Rattle.lab_card.proofs.OwnLines.{ops-other}
use Rattle.lab_card.proofs.card.CardActor.do_own.Goals as goal

pub returns-else-is_of_card-clause-part : goal.returns-else-is_of_card-clause-part
returns-else-is_of_card-clause-part c =
    subst (λ (ops : List Op). CardPart (option_copied c.args.capture) c.args.phase c.args.self.now c.args.self.now ops)
    (sym (ops-other c.args.line.now (sym c.is_of_card.ensures ∙ c.if-is_of_card.false)))
    (CardPart-none (option_copied c.args.capture) c.args.phase c.args.self.now)
