use Rattle.lab_actors.specs.Prelude.{take, AreClientOpenings, AreUsable}
use Rattle.lab_actors.proofs.session.client_openings.Given as goal

abbrev pub invariant-loop-number : goal.invariant-loop-number
invariant-loop-number l = record {
  openings : AreClientOpenings l.card (take l.number l.lines) (take l.number l.wavs) l.openings.items;
  usable : AreUsable l.card.channels l.card.ring l.openings.items;
}
