use Rattle.examples.specs.Prelude.{arith, List, subst, sym, [], ◌++◌, ◌∙◌, ◌∷◌, ◌≡◌, Taken, HasMixed}
use Rattle.examples.proofs.Mixing.{HasMixed-published, HasMixed-taken}
use Rattle.examples.proofs.two_clients.play.Goals as goal

pub loop-word-preserved : goal.loop-word-preserved
loop-word-preserved c =
    let before = c.loop-word.invariant in
    let step = c.in_ok-taken.ensures.ok in
    let items : c.push.new.self.items ≡ c.loop-word.all.items ++ c.in_ok-taken.taken ∷ [] = c.in_ok-push.ensures.items in
    record {
      mixed = λ placed mixed.
          subst (λ (taken : List Taken). HasMixed c.take.new.self placed taken) (sym items)
          (HasMixed-taken c.loop-word.core c.take.new.self placed c.loop-word.all.items c.in_ok-taken.taken step (before.mixed placed mixed));
      count = grind (arith, items, before.count);
      geometry = step.geometry ∙ before.geometry;
    }

pub returns-clause-mixed : goal.returns-clause-mixed
returns-clause-mixed c = λ placed mixed.
    HasMixed-published c.loop-word.core c.publish.new.self placed c.loop-word.all.items c.publish.ensures (c.loop-word.invariant.mixed placed mixed)
