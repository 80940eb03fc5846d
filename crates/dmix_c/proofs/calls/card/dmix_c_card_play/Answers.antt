use Rattle.dmix_c.specs.Prelude.{refl, to_z-of_z, w64, ◌≡◌, Card, HasPlayed, OnCard}
use Rattle.dmix_c.proofs.Handed.{handed}
use Rattle.dmix_c.proofs.calls.card.dmix_c_card_play.Goals as goal

-- what was taken from the handle was called, and put back
pub returns : goal.returns
returns c =
    let old = c.args.out.now in
    let new = c.play.new.out in
    let play = c.play.ensures in
    handed (OnCard (new ≡ old) (HasPlayed old new)) (Card c.in-Card.playing) c.in-Some.ensures.value c.deref_mut.ensures.value c.in-Card.is c.put-2.ensures
    (to_z-of_z {w = w64} {z = c.number_of-answer.result} (record { sfits = c.number_of-answer.type_inv }))
    (c.play.new.self, refl, record { made = c.play.result; answered = c.number_of-answer.ensures; plays = play.plays; count = play.count; lap_end = play.lap_end; only = play.only })
