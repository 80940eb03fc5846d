use Rattle.lab_phase.specs.Prelude.{subst, sym, IfOk, length, Item, IsItem, Lab, border_after, DoesRow, session_of}
use Rattle.lab_phase.proofs.Numbers.{IsItem-next}
use Rattle.lab_phase.proofs.lab.Lab.do_item.Goals as goal

pub open-requires-clause-at : goal.open-requires-clause-at
open-requires-clause-at c = c.requires.at

pub open-requires-clause-actor : goal.open-requires-clause-actor
open-requires-clause-actor c =
    let lab : Lab = c.args.self.now in
    subst (IsItem (length lab.script.now.clients) (length lab.script.now.readers)) c.in-Opens.is
    (IsItem-next lab c.args.item.now c.requires.at.at.has_done.reached.script_is c.requires.next)

pub close-requires-clause-at : goal.close-requires-clause-at
close-requires-clause-at c = c.requires.at

pub close-requires-clause-actor : goal.close-requires-clause-actor
close-requires-clause-actor c =
    let lab : Lab = c.args.self.now in
    subst (IsItem (length lab.script.now.clients) (length lab.script.now.readers)) c.in-Closes.is
    (IsItem-next lab c.args.item.now c.requires.at.at.has_done.reached.script_is c.requires.next)

pub returns-in-Opens : goal.returns-in-Opens
returns-in-Opens c =
    let lab : Lab = c.args.self.now in
    record {
      does = subst (λ (one : Item). IfOk c.open.result (λ row. DoesRow (λ stage. border_after (session_of lab) stage one) lab row c.open.new.self)) (sym c.in-Opens.is)
          c.open.ensures.does;
      played = c.open.ensures.played;
      kept = c.open.ensures.kept;
      only = c.open.ensures.only;
    }

pub returns-in-Closes-clause-does : goal.returns-in-Closes-clause-does
returns-in-Closes-clause-does c =
    let lab : Lab = c.args.self.now in
    subst (λ (one : Item). DoesRow (λ stage. border_after (session_of lab) stage one) lab c.close.result c.close.new.self) (sym c.in-Closes.is) c.close.ensures.does

pub returns-in-Closes-clause-played : goal.returns-in-Closes-clause-played
returns-in-Closes-clause-played c = c.close.ensures.played
