use Rattle.snoop_table.specs.Prelude.{take, HasStoredPart}
use Rattle.snoop_table.proofs.seats.desk.Desk.store_frame.Given as goal

abbrev pub invariant-loop-sample : goal.invariant-loop-sample
invariant-loop-sample l = HasStoredPart l.fn.self l.self (take l.sample-index l.frame)
