use Rattle.std.proofs.Common.{refl}
use Rattle.dmix_c.proofs.HandleLaws.{OpensBoth-done}
use Rattle.dmix_c.proofs.calls.ring.open_both.Goals as goal

pub returns : goal.returns
returns c =
    OpensBoth-done c.args.captures c.args.params.now _ _ _ c.in-Ok.places c.in-Ok.player c.in-Ok-new-2.places.value c.in-Ok-new.player.value c.in-Ok.ensures.ok
    c.in-Ok-new-2.ensures.ok c.in-Ok-new.ensures.ok c.put.ensures c.put-2.ensures refl
