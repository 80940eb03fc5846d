use Rattle.lab_readers.specs.Prelude.{ap, option_copied}
use Rattle.lab_readers.proofs.OpeningLaws.{no_seat, opening-done}
use Rattle.lab_readers.proofs.opening.open_reader.Goals as goal

pub returns-clause-opening : goal.returns-clause-opening
returns-clause-opening c =
    opening-done c.args.spare.now c.split.result c.args.phase c.args.reader.now c.open.new.self c.row-2.result (option_copied c.args.opening) c.in-Some.opening.now
    (no_seat c.args.reader.now.seat c.is_open.result c.is_open.ensures c.if-is_open.false) (ap option_copied c.in-Some.is)
    (c.split.ensures.new_ring, c.split.ensures.new_geometry) c.in_ok-open.ensures.opened c.row-2.ensures
