use Rattle.dmix_c.specs.Prelude.{arith, length, refl, set, subst, sym, ◌<◌, ◌∙◌, length-set, None, Option, Global, Consumer, MixSeat, key_of_lobby}
use Rattle.dmix_c.specs.Prelude.{ring_of_lobby, OpenRing, OnePlace, LeadTo}
use Rattle.dmix_c.proofs.Ringed.{KeepsRing-lobby, LeadTo-set, LeadsTo-found}
use Rattle.dmix_c.proofs.open_ring.OpenRing.take_way.Goals as goal

pub invariant_of-self : goal.invariant_of-self
invariant_of-self c =
    let r : OpenRing = c.args.self.now in
    let inside : c.args.place < length r.ways.items = omega (arith, c.requires, r.each) in
    record {
      lead = r.lead;
      each = length-set r.ways.items c.args.place _ ∙ r.each;
      ways_lead = subst (λ (o : Option (Consumer MixSeat Global OnePlace)). LeadTo (ring_of_lobby r.lobby) (key_of_lobby r.lobby) (set r.ways.items c.args.place o)) (sym c.take.ensures.after)
          (LeadTo-set (ring_of_lobby r.lobby) (key_of_lobby r.lobby) r.ways.items c.args.place None inside r.ways_lead tt);
    }

pub returns-clause-keeps : goal.returns-clause-keeps
returns-clause-keeps c = KeepsRing-lobby c.args.self.now _ refl refl refl refl

pub returns-clause-leads : goal.returns-clause-leads
returns-clause-leads c =
    let r : OpenRing = c.args.self.now in
    let inside : c.args.place < length r.ways.items = omega (arith, c.requires, r.each) in
    LeadsTo-found (ring_of_lobby r.lobby) (key_of_lobby r.lobby) r.ways.items c.args.place c.take.result c.index_mut.result.now inside c.take.ensures.value c.index_mut.ensures.value r.ways_lead
