use Rattle.dmix_c.specs.Prelude.{refl, to_z-of_z, w64, ⊤, Reader, OnReader, ReaderHasServed}
use Rattle.dmix_c.proofs.Handed.{handed}
use Rattle.dmix_c.proofs.calls.reader.ask_reader.Goals as goal

-- what was taken from the handle was called, and put back
pub returns : goal.returns
returns c =
    handed (OnReader ⊤ (ReaderHasServed c.args.request)) (Reader c.in-Reader.recording) c.in-Some.ensures.value c.deref_mut.ensures.value c.in-Reader.is c.put-2.ensures
    (to_z-of_z {w = w64} {z = c.answer-answer.result} (record { sfits = c.answer-answer.type_inv }))
    (c.answer-answer.new.self, refl, c.answer-answer.ensures)
