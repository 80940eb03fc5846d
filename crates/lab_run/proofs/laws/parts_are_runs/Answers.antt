use Rattle.lab_run.proofs.laws.parts_are_runs.Goals as goal
use Rattle.lab_run.specs.Prelude.{client_kind, reader_kind}
use Rattle.lab_run.proofs.PartLaws.{parts-are_runs}

pub returns : goal.returns
returns c = record {
  clients = λ phase wav number rules. parts-are_runs (client_kind phase wav number) rules;
  readers = λ phase number rules. parts-are_runs (reader_kind phase number) rules;
}
