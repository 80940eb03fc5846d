use Rattle.lab_card.specs.Prelude.{refl, subst, sym, ℕ, option_copied, KeepsRoom}
use Rattle.lab_card.proofs.Rooms.{KeepsRoom-none}
use Rattle.lab_card.proofs.Running.{CardDid-other}
use Rattle.lab_card.proofs.card.CardActor.do_op.Goals as goal

pub returns-in_default : goal.returns-in_default
returns-in_default c =
    let other = CardDid-other (option_copied c.args.capture) c.args.self.now c.args.asked c.in_default.not-Play c.in_default.not-Unplug in
    record {
      did = other.1;
      room = subst (λ (n : ℕ). KeepsRoom c.args.self.now c.args.self.now 0 n) (sym other.0) (KeepsRoom-none c.args.self.now);
      rows = refl;
    }
