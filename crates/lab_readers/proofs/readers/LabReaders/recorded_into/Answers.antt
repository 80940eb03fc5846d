use Rattle.lab_readers.specs.Prelude.{ap, map, ◌++◌, ◌∙◌, Vec, ℤ, recorded_from-at}
use Rattle.lab_readers.proofs.readers.LabReaders.recorded_into.Goals as goal

pub returns : goal.returns
returns c session capture xs are =
    c.list_samples.ensures ∙ ap (λ more. map (λ (samples : Vec ℤ). samples.items) c.args.all.now.items ++ more) (recorded_from-at session capture xs c.args.self are)
