use Rattle.dmix_client.specs.Prelude.{◌+◌, ◌-◌, ◌≡◌, ◌≤◌, IsFrom, least_channel, ring_sample}
use Rattle.dmix_client.proofs.Laying.{RestFrames}
use Rattle.dmix_client.proofs.commit.lay_frames.Given as goal

abbrev pub invariant-loop-done : goal.invariant-loop-done
invariant-loop-done g l = let port = g.P.MixPort in record {
  view_is : port.view l.port ≡ record (port.view l.fn.port) { marks = (port.view l.port).marks };
  few : l.done ≤ l.count;
  cursor : IsFrom (port.view l.port).marks.cursor (l.stream.stretch.card + (l.stream.stretch.committed + l.done)) (least_channel l.stream.setup.bindings);
  takes : RestFrames g.P.MixPort g.G.Gate l.stream.identity.member l.stream.stretch.card l.stream.setup.bindings (ring_sample l.stream l.ring) l.count
      l.stream.stretch.committed (l.fn.port, l.fn.gate) (l.port, l.gate) l.done;
}

-- each run has a frame
abbrev pub decreases-loop-done : goal.decreases-loop-done
decreases-loop-done g l = l.count - l.done
