use Rattle.lab_phase.proofs.Ending.{HaveAllPlaces-at, played-mixed}
use Rattle.lab_phase.proofs.lab.Lab.stop.Goals as goal

pub close_rings-requires-clause-places : goal.close_rings-requires-clause-places
close_rings-requires-clause-places c = HaveAllPlaces-at c.args.self c.requires.at.stage c.requires.at.at c.unwrap-card.result c.unwrap-card.ensures

pub returns : goal.returns
returns c = record { mix = played-mixed c.args.self c.unwrap-card.result c.unwrap-card.ensures c.close_rings.ensures.mix }
