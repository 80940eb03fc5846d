use Rattle.dmix_c.specs.Prelude.{inl, inr, refl, subst, sym, ◌<◌, ◌∙◌, false≢true, key_of_lobby, ring_of_lobby, OpenRing}
use Rattle.sum_table.specs.declared.view.Key.{Key}
use Rattle.dmix_c.proofs.FreePlaces.{StayFree-back}
use Rattle.dmix_c.proofs.Ringed.{KeepsRing-same, LeadTo-same}
use Rattle.dmix_c.proofs.open_ring.OpenRing.take_back.Goals as goal

pub invariant_of-self : goal.invariant_of-self
invariant_of-self c =
    let r : OpenRing = c.args.self.now in
    let back = c.detach.ensures.back in
    record {
      lead = subst (λ (k : Key). r.period < k.geometry.frames) (sym back.key) r.lead;
      each = r.each ∙ sym back.places;
      ways_lead = LeadTo-same (ring_of_lobby r.lobby) (ring_of_lobby c.detach.new.self) (key_of_lobby r.lobby) (key_of_lobby c.detach.new.self) r.ways.items back.ring back.key r.ways_lead;
    }

pub returns-then-not-can_take_back-clause-keeps : goal.returns-then-not-can_take_back-clause-keeps
returns-then-not-can_take_back-clause-keeps c = KeepsRing-same c.args.self.now

pub returns-then-not-can_take_back-clause-back : goal.returns-then-not-can_take_back-clause-back
returns-then-not-can_take_back-clause-back c = inr ((λ can. false≢true (sym c.if-not-can_take_back.true ∙ c.can_take_back.ensures.1 can)), refl)

pub returns-clause-keeps : goal.returns-clause-keeps
returns-clause-keeps c =
    let can = c.can_take_back.ensures.0 c.if-not-can_take_back.false in
    let back = c.detach.ensures.back in
    assumption (StayFree-back c.args.self.now.lobby c.detach.new.self c.args.seat can back)

pub returns-clause-back : goal.returns-clause-back
returns-clause-back c = inl (c.can_take_back.ensures.0 c.if-not-can_take_back.false, c.detach.ensures.back)
