use Rattle.std.proofs.Common.{◌∙◌, refl, to_z-of_z, w64}
use Rattle.dmix_c.proofs.HandleLaws.{OpensReaderAt-done, OpensReaderAt-failed, OpensReaderAt-memory}
use Rattle.dmix_c.proofs.calls.reader.opening.open_at.Goals as goal

pub returns-in-Err : goal.returns-in-Err
returns-in-Err c =
    OpensReaderAt-failed c.args.ring.now c.open_reader.new.self _ _ c.open_reader.ensures.keeps c.in-Err.error c.requires c.in-Err.ensures.only
    (to_z-of_z {w = w64} {z = c.error_number.result} (record { sfits = c.error_number.type_inv }) ∙ c.error_number.ensures)

pub returns-in_default : goal.returns-in_default
returns-in_default c =
    OpensReaderAt-memory c.args.ring.now c.open_reader.new.self _ _ c.open_reader.ensures.keeps c.in-Ok.recording c.requires c.in-Ok.ensures.gives
    (to_z-of_z {w = w64} {z = c.error_number-in_default.result} (record { sfits = c.error_number-in_default.type_inv }) ∙ c.error_number-in_default.ensures)

pub returns : goal.returns
returns c =
    OpensReaderAt-done c.args.ring.now c.open_reader.new.self _ _ c.open_reader.ensures.keeps c.in-Ok.recording c.in-Ok-new.opened.value c.in-Ok.ensures.gives c.in-Ok-new.ensures.ok c.put.ensures refl
