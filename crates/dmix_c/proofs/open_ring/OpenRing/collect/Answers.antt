use Rattle.dmix_c.specs.Prelude.{arith, refl, [], None, OpenRing}
use Rattle.dmix_c.proofs.FreePlaces.{Collects-joined}
use Rattle.dmix_c.proofs.Ringed.{KeepsRing-same, KeepsRing-then}
use Rattle.dmix_c.proofs.open_ring.OpenRing.collect.Goals as goal

pub loop-place-init : goal.loop-place-init
loop-place-init c = record { keeps = KeepsRing-same c.args.self.now; back = ([], refl) }

pub collect_at-requires : goal.collect_at-requires
collect_at-requires c =
    let r : OpenRing = c.args.self.now in
    omega (arith, c.loop-place-test.true, c.len-place-end.ensures, r.ways.ok.0, r.each, c.loop-place.invariant.keeps.places)

pub loop-place-preserved : goal.loop-place-preserved
loop-place-preserved c =
    let before = c.loop-place.invariant in
    let made = c.collect_at.ensures in
    record {
      keeps = KeepsRing-then None c.args.self.now c.loop-place.self c.collect_at.new.self before.keeps made.keeps;
      back = Collects-joined c.args.self.now c.loop-place.self c.collect_at.new.self before.back made.back;
    }
