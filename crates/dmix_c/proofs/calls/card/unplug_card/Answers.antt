use Rattle.dmix_c.specs.Prelude.{refl, pos, ⊤, Card, Duplex, IsUnplugged, IsDuplexUnplugged, OnEitherCard}
use Rattle.dmix_c.proofs.Handed.{called}
use Rattle.dmix_c.proofs.calls.card.unplug_card.Goals as goal

pub returns-in-Card : goal.returns-in-Card
returns-in-Card c =
    let gone = c.unplug.ensures in
    called (OnEitherCard ⊤ IsUnplugged IsDuplexUnplugged) _ _ (Card c.in-Card.card) (Card c.unplug.new.self) (pos 0) _ c.in-Card.is refl refl
    (c.unplug.new.self, refl, record { unplugged = gone.unplugged; period = gone.period; answered = refl })

pub returns-in-Duplex : goal.returns-in-Duplex
returns-in-Duplex c =
    let gone = c.unplug-in-Duplex.ensures in
    called (OnEitherCard ⊤ IsUnplugged IsDuplexUnplugged) _ _ (Duplex c.in-Duplex.card) (Duplex c.unplug-in-Duplex.new.self) (pos 0) _ c.in-Duplex.is refl refl
    (c.unplug-in-Duplex.new.self, refl, record { played = gone.played; captured = gone.captured; period = gone.period; answered = refl })
