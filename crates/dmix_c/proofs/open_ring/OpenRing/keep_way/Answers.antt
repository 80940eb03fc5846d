use Rattle.dmix_c.specs.Prelude.{arith, length, refl, ◌<◌, ◌∙◌, get_or-set_same, length-set, None, Some, key_of_lobby, ring_of_lobby, OpenRing}
use Rattle.dmix_c.proofs.Ringed.{KeepsRing-lobby, LeadTo-set}
use Rattle.dmix_c.proofs.open_ring.OpenRing.keep_way.Goals as goal

pub invariant_of-self : goal.invariant_of-self
invariant_of-self c =
    let r : OpenRing = c.args.self.now in
    let inside : c.args.place < length r.ways.items = omega (arith, c.requires.inside, r.each) in
    record {
      lead = r.lead;
      each = length-set r.ways.items c.args.place (Some c.args.arrivals) ∙ r.each;
      ways_lead = LeadTo-set (ring_of_lobby r.lobby) (key_of_lobby r.lobby) r.ways.items c.args.place (Some c.args.arrivals) inside r.ways_lead c.requires.leads;
    }

pub returns-clause-keeps : goal.returns-clause-keeps
returns-clause-keeps c = KeepsRing-lobby c.args.self.now _ refl refl refl refl

pub returns-clause-kept : goal.returns-clause-kept
returns-clause-kept c =
    let r : OpenRing = c.args.self.now in
    let inside : c.args.place < length r.ways.items = omega (arith, c.requires.inside, r.each) in
    get_or-set_same r.ways.items c.args.place (Some c.args.arrivals) None inside
