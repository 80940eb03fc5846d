use Rattle.dmix_c.specs.Prelude.{refl, ◌≡◌, Reader, OnReader, ReaderHasStatus}
use Rattle.dmix_c.proofs.Handed.{handed}
use Rattle.dmix_c.proofs.calls.reader.params.dmix_c_reader_status.Goals as goal

-- what was taken from the handle was called, and put back
pub returns : goal.returns
returns c =
    let new = c.status.result.0 in
    let told = c.status.ensures in
    handed (OnReader (new ≡ c.args.status.now) (ReaderHasStatus new)) (Reader c.in-Reader.recording) c.in-Some.ensures.value c.deref_mut.ensures.value c.in-Reader.is c.put-2.ensures
    refl
    (c.status.new.self, refl, record { made = c.status.result.1; answered = refl; call = told.made; told = told.told; same = told.same })
