use Rattle.std.proofs.Common.{refl}
use Rattle.dmix_c.proofs.OpeningDuplex.{GivesReader-made, KeepsRing-split}
use Rattle.dmix_c.proofs.open_ring.OpenRing.open_reader.Goals as goal

pub returns-clause-keeps : goal.returns-clause-keeps
returns-clause-keeps c = KeepsRing-split c.args.self.now _ c.in-Some.seat c.split-seat.new.self c.split-seat.result c.in-Some.is refl refl refl refl c.split-seat.ensures

pub returns-clause-gives : goal.returns-clause-gives
returns-clause-gives c = GivesReader-made _ c.new.result c.in-Some.seat c.split-seat.new.self c.split-seat.result refl c.split-seat.ensures c.new.ensures
