use Rattle.dmix_client.specs.Prelude.{◌+◌, ◌-◌, ◌≡◌, ◌≤◌, IsFrom, run_entries, IsOnCard, least_channel, ring_sample}
use Rattle.dmix_client.proofs.Withdrawing.{BackFrames}
use Rattle.dmix_client.proofs.withdraw.take_frames.Given as goal

abbrev pub invariant-loop-frame : goal.invariant-loop-frame
invariant-loop-frame g l = let port = g.P.MixPort in record {
  member : (port.view l.port).member ≡ l.stream.identity.member;
  bound : IsOnCard l.stream.setup.bindings (port.view l.port).geometry;
  from_floor : 1 ≤ l.count → IsFrom (port.view l.port).marks.floor (l.stream.stretch.card + (l.stream.stretch.committed - l.count))
      (least_channel l.stream.setup.bindings);
  few : l.frame ≤ l.count;
  stand : port.ends_in l.port (run_entries l.stream.identity.member l.stream.setup.bindings (ring_sample l.stream l.ring) l.stream.stretch.card
      (l.stream.stretch.committed - l.count) l.frame 0);
  takes : BackFrames port g.G.Gate l.stream.identity.member l.stream.stretch.card l.stream.setup.bindings (ring_sample l.stream l.ring)
      (l.stream.stretch.committed - l.count) l.count (l.fn.port, l.fn.gate) (l.port, l.gate) l.frame;
}
