use Rattle.dmix_c.specs.Prelude.{refl, to_z-of_z, w64, ◌≡◌, Duplex, HasRunCard, OnDuplex}
use Rattle.dmix_c.proofs.Handed.{handed}
use Rattle.dmix_c.proofs.calls.card.dmix_c_card_run.Goals as goal

-- what was taken from the handle was called, and put back
pub returns : goal.returns
returns c =
    let old = c.args.out.now in
    let new = c.run.new.out in
    handed (OnDuplex (new ≡ old) (HasRunCard c.args.captured.now old new)) (Duplex c.in-Duplex.duplex) c.in-Some.ensures.value c.deref_mut.ensures.value c.in-Duplex.is c.put-2.ensures
    (to_z-of_z {w = w64} {z = c.number_of-answer.result} (record { sfits = c.number_of-answer.type_inv }))
    (c.run.new.self, refl, record { made = c.run.result; answered = c.number_of-answer.ensures; ran = c.run.ensures })
