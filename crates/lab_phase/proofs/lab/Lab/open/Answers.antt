use Rattle.lab_phase.specs.Prelude.{subst, sym, IfOk, Actor, after_open, Lab, DoesRow, session_of}
use Rattle.lab_phase.proofs.lab.Lab.open.Goals as goal

pub returns-in-Client : goal.returns-in-Client
returns-in-Client c =
    let lab : Lab = c.args.self.now in
    record {
      does = subst (λ (who : Actor). IfOk c.open_client.result (λ row. DoesRow (λ stage. after_open (session_of lab) stage who) lab row c.open_client.new.self)) (sym c.in-Client.is)
          c.open_client.ensures.does;
      played = c.open_client.ensures.played;
      kept = c.open_client.ensures.kept;
      only = c.open_client.ensures.only;
    }

pub returns-in-Reader : goal.returns-in-Reader
returns-in-Reader c =
    let lab : Lab = c.args.self.now in
    record {
      does = subst (λ (who : Actor). IfOk c.open_reader.result (λ row. DoesRow (λ stage. after_open (session_of lab) stage who) lab row c.open_reader.new.self)) (sym c.in-Reader.is)
          c.open_reader.ensures.does;
      played = c.open_reader.ensures.played;
      kept = c.open_reader.ensures.kept;
      only = c.open_reader.ensures.only;
    }
