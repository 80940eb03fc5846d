use Rattle.dmix_c.specs.Prelude.{arith, [], ◌∙◌, None, key_of_lobby, ring_of_lobby}
use Rattle.dmix_c.proofs.FreePlaces.{Collects-arrived}
use Rattle.dmix_c.proofs.Ringed.{IsOfRing-arrived, KeepsRing-then, LeadsTo-same}
use Rattle.dmix_c.proofs.open_ring.OpenRing.collect_at.Goals as goal

pub take_back-requires : goal.take_back-requires
take_back-requires c =
    let r = c.take_way.new.self in
    IsOfRing-arrived (ring_of_lobby r.lobby) (key_of_lobby r.lobby) c.in-Some.arrivals c.in-Ok.seat c.in-Some.ensures.leads c.in-Ok.ensures.ok.2

pub keep_way-requires : goal.keep_way-requires
keep_way-requires c =
    let r = c.take_way.new.self in
    record {
      inside = omega (arith, c.requires, c.take_way.ensures.keeps.places);
      leads = LeadsTo-same (ring_of_lobby r.lobby) (key_of_lobby r.lobby) c.in-Some.arrivals c.pop.new.self c.in-Err.ensures.empty.0 c.in-Some.ensures.leads;
    }

pub returns-in_default-clause-back : goal.returns-in_default-clause-back
returns-in_default-clause-back c = ([], c.take_way.ensures.lobby)

pub returns-in-Ok-clause-keeps : goal.returns-in-Ok-clause-keeps
returns-in-Ok-clause-keeps c =
    KeepsRing-then None c.args.self.now c.take_way.new.self c.take_back.new.self c.take_way.ensures.keeps c.take_back.ensures.keeps

pub returns-in-Ok-clause-back : goal.returns-in-Ok-clause-back
returns-in-Ok-clause-back c =
    Collects-arrived c.args.self.now c.take_way.new.self c.take_back.new.self c.in-Ok.seat c.take_way.ensures.lobby c.take_back.ensures.back

pub returns-in-Err-clause-keeps : goal.returns-in-Err-clause-keeps
returns-in-Err-clause-keeps c =
    KeepsRing-then None c.args.self.now c.take_way.new.self c.keep_way.new.self c.take_way.ensures.keeps c.keep_way.ensures.keeps

pub returns-in-Err-clause-back : goal.returns-in-Err-clause-back
returns-in-Err-clause-back c = ([], c.keep_way.ensures.lobby ∙ c.take_way.ensures.lobby)
