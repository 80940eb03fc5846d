use Rattle.std.proofs.Common.{refl}
use Rattle.dmix_c.proofs.recording.Recording.call.Goals as goal

pub returns-clause-same : goal.returns-clause-same
returns-clause-same c = record { ring = (c.make_call.ensures.goes.ring, c.make_call.ensures.goes.geometry); rate = refl }

pub invariant_of-self : goal.invariant_of-self
invariant_of-self c =
    let p = c.args.self.now in
    let made = c.make_call.ensures in
    record {
      unstopped = made.unstopped p.unstopped;
      usable = made.usable;
    }
