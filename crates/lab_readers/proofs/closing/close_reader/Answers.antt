use Rattle.lab_readers.specs.Kept.{IsLaterSpare-join, IsLaterSpare-none}
use Rattle.lab_readers.proofs.OpeningLaws.{OneRing-closed, closing-done}
use Rattle.lab_readers.proofs.closing.close_reader.Goals as goal

pub join-requires : goal.join-requires
join-requires c = OneRing-closed c.args.spare.now c.close-seat.result c.args.reader.now c.close-seat.new.self c.requires c.close-seat.ensures

pub returns-then-not-is_open-clause-spare : goal.returns-then-not-is_open-clause-spare
returns-then-not-is_open-clause-spare c = IsLaterSpare-none c.args.spare.now

pub returns-clause-closing : goal.returns-clause-closing
returns-clause-closing c =
    closing-done c.args.phase c.args.reader.now c.close-seat.new.self c.args.spare.now c.join.new.self c.close-seat.result c.row-row.result c.close-seat.ensures c.join.ensures c.row-row.ensures

pub returns-clause-spare : goal.returns-clause-spare
returns-clause-spare c = IsLaterSpare-join c.args.spare.now c.join.new.self c.close-seat.result c.join.ensures
