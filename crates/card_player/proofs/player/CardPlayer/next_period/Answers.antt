use Rattle.std.proofs.Common.{ℕ, ◌+◌, ◌-◌, ◌%◌, ap, subst}
use Rattle.snd_base.specs.declared.places.Cursor.{Cursor}
use Rattle.card_player.specs.DueLaws.{IsDue-next}
use Rattle.card_player.specs.Plays.{IsDue}
use Rattle.card_player.proofs.player.CardPlayer.next_period.Goals as goal

pub returns : goal.returns
returns c =
    subst (λ (n : ℕ). IsDue c.args.period (n + 1) (c.next-frame.result.frame + (c.args.period - c.next-frame.result.frame % c.args.period)))
    (ap (λ (x : Cursor). x.frame) c.next-frame.ensures.value)
    (IsDue-next c.args.period c.next-frame.result.frame c.requires)
