use Rattle.lab_actors.specs.Prelude.{take, AreReaderOpenings, AreUsable}
use Rattle.lab_actors.proofs.session.reader_openings.Given as goal

abbrev pub invariant-loop-number : goal.invariant-loop-number
invariant-loop-number l = record {
  openings : AreReaderOpenings l.card (take l.number l.lines) l.openings.items;
  usable : AreUsable l.card.channels l.card.ring l.openings.items;
}
