use Rattle.dmix_client.specs.Prelude.{length, ℕ, ◌<◌, ◌≡◌, ◌≤◌, slice_index, IsFrom, AreBindings, rising, slot_sample}
use Rattle.dmix_client.proofs.Laying.{Rest}
use Rattle.dmix_client.proofs.commit.place_frame.Given as goal

abbrev pub invariant-loop-place : goal.invariant-loop-place
invariant-loop-place g l = let port = g.P.MixPort in let list = l.bindings in record {
  view_is : port.view l.port ≡ record (port.view l.fn.port) { marks = (port.view l.port).marks };
  ahead : (j : ℕ) → l.place ≤ j → j < length list → IsFrom (port.view l.port).marks.cursor l.frame (slice_index list (slice_index (rising list) j));
  bound : AreBindings list;
  takes : Rest port g.G.Gate (port.view l.fn.port).member l.frame list (slot_sample l.ring l.slot) (rising list) (l.fn.port, l.fn.gate)
      (l.port, l.gate) l.place;
}
