use Rattle.dmix_client.specs.Prelude.{length, ◌+◌, ◌≡◌, ◌≤◌, IsFrom, AreBindings, frame_entries, least_channel, ring_sample}
use Rattle.dmix_client.proofs.Withdrawing.{Back}
use Rattle.dmix_client.proofs.withdraw.take_frame.Given as goal

abbrev pub invariant-loop-place : goal.invariant-loop-place
invariant-loop-place g l = let port = g.P.MixPort in let list = l.stream.setup.bindings in let frame = l.stream.stretch.card + l.number in record {
  member : (port.view l.port).member ≡ l.stream.identity.member;
  from_floor : IsFrom (port.view l.port).marks.floor frame (least_channel list);
  bound : AreBindings list;
  few : l.place ≤ length list;
  stand : port.ends_in l.port (frame_entries l.stream.identity.member list (ring_sample l.stream l.ring l.number) l.place frame);
  takes : Back port g.G.Gate l.stream.identity.member frame list (ring_sample l.stream l.ring l.number) (length list) (l.fn.port, l.fn.gate)
      (l.port, l.gate) l.place;
}
