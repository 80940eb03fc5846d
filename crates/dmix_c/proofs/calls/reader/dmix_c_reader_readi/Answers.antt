use Rattle.dmix_c.specs.Prelude.{refl, to_z-of_z, w64, ◌≡◌, Reader, OnReader, ReaderHasRead}
use Rattle.dmix_c.proofs.Handed.{handed}
use Rattle.dmix_c.proofs.calls.reader.dmix_c_reader_readi.Goals as goal

-- what was taken from the handle was called, and put back
pub returns : goal.returns
returns c =
    let old = c.args.out.now in
    let new = c.readi.new.out in
    handed (OnReader (new ≡ old) (ReaderHasRead old new)) (Reader c.in-Reader.recording) c.in-Some.ensures.value c.deref_mut.ensures.value c.in-Reader.is c.put-2.ensures
    (to_z-of_z {w = w64} {z = c.number_of-answer.result} (record { sfits = c.number_of-answer.type_inv }))
    (c.readi.new.self, refl, record { made = c.readi.result; answered = c.number_of-answer.ensures; was_read = c.readi.ensures })
