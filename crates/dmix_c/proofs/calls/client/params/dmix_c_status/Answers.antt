use Rattle.dmix_c.specs.Prelude.{refl, ◌≡◌, Client, HasStatus, OnClient}
use Rattle.dmix_c.proofs.Handed.{handed}
use Rattle.dmix_c.proofs.calls.client.params.dmix_c_status.Goals as goal

-- what was taken from the handle was called, and put back
pub returns : goal.returns
returns c =
    let new = c.status.result.0 in
    let told = c.status.ensures in
    handed (OnClient (new ≡ c.args.status.now) (HasStatus new)) (Client c.in-Client.playback) c.in-Some.ensures.value c.deref_mut.ensures.value c.in-Client.is c.put-2.ensures
    refl
    (c.status.new.self, refl, record { made = c.status.result.1; answered = refl; call = told.made; told = told.told; same = told.same })
