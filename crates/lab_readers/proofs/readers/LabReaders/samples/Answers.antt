use Rattle.lab_readers.specs.Prelude.{ap, ◌∙◌, read_samples, recorded_by-at}
use Rattle.lab_readers.proofs.readers.LabReaders.samples.Goals as goal

pub returns : goal.returns
returns c session capture xs e are =
    c.samples.ensures ∙ (ap read_samples c.index.ensures ∙ recorded_by-at session capture xs c.args.self.now c.args.number c.index.result.now e are c.requires)
