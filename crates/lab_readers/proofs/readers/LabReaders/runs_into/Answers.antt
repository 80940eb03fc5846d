use Rattle.lab_readers.specs.Prelude.{ap, length, List, subst, sym, vec_capacity, vec_len, ◌++◌, ◌+◌, ◌∙◌, ◌≤◌, flat_map, LabReader, all_runs-at, runs_by}
use Rattle.lab_readers.proofs.readers.LabReaders.runs_into.Goals as goal

pub list_runs-requires : goal.list_runs-requires
list_runs-requires c =
    subst (λ (readers : List LabReader). vec_len c.args.all.now + length (flat_map runs_by readers) ≤ vec_capacity c.args.all.now) (sym c.as_slice.ensures.value) c.requires

pub returns-clause-report : goal.returns-clause-report
returns-clause-report c session capture xs are =
    c.list_runs.ensures
    ∙ ap (λ more. c.args.all.now.items ++ more) (ap (flat_map runs_by) c.as_slice.ensures.value ∙ all_runs-at session capture xs c.args.self.now are)
