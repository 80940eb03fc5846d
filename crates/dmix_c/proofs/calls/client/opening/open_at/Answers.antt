use Rattle.std.proofs.Common.{◌∙◌, refl, to_z-of_z, w64}
use Rattle.dmix_c.proofs.HandleLaws.{OpensAt-done, OpensAt-failed, OpensAt-memory}
use Rattle.dmix_c.proofs.calls.client.opening.open_at.Goals as goal

pub returns-in-Err : goal.returns-in-Err
returns-in-Err c =
    OpensAt-failed c.args.ring.now c.open_client.new.self _ c.in-Err.error _ c.requires c.in-Err.ensures.keeps c.in-Err.ensures.none
    (to_z-of_z {w = w64} {z = c.error_number.result} (record { sfits = c.error_number.type_inv }) ∙ c.error_number.ensures)

pub returns-in_default : goal.returns-in_default
returns-in_default c =
    OpensAt-memory _ c.args.ring.now c.open_client.new.self _ _ c.requires c.in-Ok.ensures.keeps
    (to_z-of_z {w = w64} {z = c.error_number-in_default.result} (record { sfits = c.error_number-in_default.type_inv }) ∙ c.error_number-in_default.ensures)

pub returns : goal.returns
returns c =
    OpensAt-done c.args.ring.now c.open_client.new.self _ c.in-Ok.playback _ _ c.in-Ok.ensures.keeps c.in-Ok.ensures.gives c.in-Ok-new.ensures.ok c.put.ensures refl
