use Rattle.lab_clients.specs.Prelude.{ap, arith, length, List, subst, sym, [], ◌+◌, ◌∙◌, ◌∷◌, length-append, LabClient, AreNewClients}
use Rattle.lab_clients.proofs.EndLaws.{AreNewClients-more}
use Rattle.lab_clients.proofs.end.new_clients.Goals as goal

pub loop-number-preserved : goal.loop-number-preserved
loop-number-preserved c = record {
  new = subst (λ (ds : List LabClient). AreNewClients 0 ds) (sym c.in_ok-push.ensures.items)
      (AreNewClients-more 0 c.loop-number.clients.items c.new.result c.loop-number.invariant.new (record {
        numbered = c.new.ensures.number ∙ sym c.loop-number.invariant.count ∙ omega arith;
        client = c.new.ensures.client;
        rows = c.new.ensures.rows;
      }));
  count = ap length c.in_ok-push.ensures.items ∙ (length-append c.loop-number.clients.items (c.new.result ∷ []) ∙ ap (λ n. n + 1) c.loop-number.invariant.count);
}
