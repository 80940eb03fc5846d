use Rattle.dmix_c.specs.Prelude.{refl, ∥∥₁_map, AreOfPlace-goes}
use Rattle.dmix_c.proofs.Seated.{IsSamePlace-later}
use Rattle.dmix_c.proofs.playback.Playback.call.Goals as goal

pub invariant_of-self : goal.invariant_of-self
invariant_of-self c =
    let p = c.args.self.now in
    let made = c.make_call.ensures in
    record {
      unstopped = made.unstopped p.unstopped;
      usable = made.usable;
      backed = λ has. ∥∥₁_map (p.backed (made.stays.configured has)) (λ found. (found.0, made.stays.backed has found.0 found.1));
      own_way = AreOfPlace-goes _ p.seat c.make_call.new.seat made.goes p.own_way;
      has_room = p.has_room;
    }

pub returns-clause-same : goal.returns-clause-same
returns-clause-same c = record { place = IsSamePlace-later c.args.self.now.seat c.make_call.new.seat c.make_call.ensures.goes; rate = refl }
