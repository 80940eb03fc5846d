use Rattle.lab_run.specs.Prelude.{client_kind, reader_kind}
use Rattle.lab_run.proofs.PartsGrow.{parts-grow}
use Rattle.lab_run.proofs.laws.parts_grow.Goals as goal

pub returns : goal.returns
returns c = record {
  clients = λ ring phase wav number. parts-grow (client_kind phase wav number) ring;
  readers = λ ring phase number. parts-grow (reader_kind phase number) ring;
}
