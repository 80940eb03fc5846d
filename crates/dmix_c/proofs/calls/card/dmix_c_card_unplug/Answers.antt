use Rattle.dmix_c.specs.Prelude.{refl, to_z-of_z, w64, ⊤, IsUnplugged, IsDuplexUnplugged, OnEitherCard}
use Rattle.dmix_c.proofs.Handed.{handed}
use Rattle.dmix_c.proofs.calls.card.dmix_c_card_unplug.Goals as goal

-- what was taken from the handle was called, and put back
pub returns : goal.returns
returns c =
    handed (OnEitherCard ⊤ IsUnplugged IsDuplexUnplugged) c.deref_mut.result.now c.in-Some.ensures.value c.deref_mut.ensures.value refl c.put.ensures
    (to_z-of_z {w = w64} {z = c.unplug_card-answer.result} (record { sfits = c.unplug_card-answer.type_inv })) c.unplug_card-answer.ensures
