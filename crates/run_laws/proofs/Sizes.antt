-- A run has as many clients and readers as its session.
use Rattle.run_laws.specs.Prelude.{length, List, ◌∙◌, ◌≡◌, length-map, length-set, Item, ItemsMay, first_stage, no_client, no_reader, Session, Stage}
use Rattle.run_laws.proofs.HeldReaders.{IsLastingOfReaders, readers-held}
use Rattle.run_laws.proofs.Stages.{IsLasting, items-held}

clients-size : (session : Session) → IsLasting session (λ clients claims position. length clients ≡ length session.clients)
clients-size session = record {
  line = λ rules phase clients claims position n y asked answer least within may size. length-set clients n y ∙ size;
  opens = λ clients claims position n setup is closed granted size. length-set clients n _ ∙ size;
  ends = λ clients claims position n c within is size. length-set clients n _ ∙ size;
  later = λ clients claims position q after size. size;
}

readers-size : (session : Session) → IsLastingOfReaders session (λ readers. length readers ≡ length session.readers)
readers-size session = record {
  line = λ rules phase readers n y asked answer within may size. length-set readers n y ∙ size;
  opens = λ readers n setup is size. length-set readers n _ ∙ size;
  ends = λ readers n size. length-set readers n _ ∙ size;
}

-- as many as the session has
pub record AreOfSession (session : Session) (end : Stage) : Type 0 where
  pub clients : length end.clients ≡ length session.clients
  pub readers : length end.readers ≡ length session.readers

pub run-size : (session : Session) (body : List Item) (end : Stage) → ItemsMay session (first_stage session) body end → AreOfSession session end
run-size session body end may = record {
  clients = items-held session (λ clients claims position. length clients ≡ length session.clients) (clients-size session) (first_stage session) end body may
      (length-map session.clients (λ setup. no_client session.ring));
  readers = readers-held session (λ readers. length readers ≡ length session.readers) (readers-size session) (first_stage session) end body may
      (length-map session.readers (λ setup. no_reader session.ring));
}
