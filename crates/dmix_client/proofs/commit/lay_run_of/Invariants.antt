use Rattle.dmix_client.specs.Prelude.{◌+◌, ◌≡◌, IsFrom, least_channel, ring_sample}
use Rattle.dmix_client.proofs.Laying.{RestFrames}
use Rattle.dmix_client.proofs.commit.lay_run_of.Given as goal

abbrev pub invariant-loop-frame : goal.invariant-loop-frame
invariant-loop-frame g l = let port = g.P.MixPort in record {
  view_is : port.view l.port ≡ record (port.view l.fn.port) { marks = (port.view l.port).marks };
  cursor : IsFrom (port.view l.port).marks.cursor (l.stream.stretch.card + (l.first + l.frame)) (least_channel l.stream.setup.bindings);
  takes : RestFrames g.P.MixPort g.G.Gate l.stream.identity.member l.stream.stretch.card l.stream.setup.bindings (ring_sample l.stream l.ring) l.count l.first
      (l.fn.port, l.fn.gate) (l.port, l.gate) l.frame;
}
