-- The run has gone on since the call, and the items before the index are done.
use Rattle.lab_play.specs.Prelude.{◌≡◌, IsSameScript, items_done, HaveAsked, stops_by, BothCountNoFault, GoesOnWriting, scene}
use Rattle.lab_play.proofs.items.do_items.Given as goal

abbrev pub invariant-loop-index : goal.invariant-loop-index
invariant-loop-index g l = record {
  goes_on : GoesOnWriting (HaveAsked g.G.Gate.asked l.fn.gates l.gates)
      (stops_by g.G.Gate.stops l.fn.gates)
      (scene l.fn.lab l.fn.outputs (g.S.Shelf.files l.fn.shelf) (g.K.Sink.taken l.fn.out))
      (stops_by g.G.Gate.stops l.gates)
      (scene l.lab l.outputs (g.S.Shelf.files l.shelf) (g.K.Sink.taken l.out));
  done : items_done l.lab ≡ l.index;
  same : IsSameScript l.fn.lab l.lab;
  counts : BothCountNoFault g.S.Shelf g.K.Sink (l.fn.shelf, l.fn.out) (l.shelf, l.out);
}
