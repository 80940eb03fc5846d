use Rattle.lab_readers.specs.Prelude.{sym, ◌∙◌, false≢true, HasGotAllOf-join, IsLaterSpare-join, IsLaterSpare-none}
use Rattle.lab_readers.proofs.OpeningLaws.{OneRing-closed}
use Rattle.lab_readers.proofs.reap.reap_reader.Goals as goal

pub join-requires : goal.join-requires
join-requires c = OneRing-closed c.args.spare.now c.close-seat.result c.args.reader.now c.close-seat.new.self c.requires c.close-seat.ensures

pub returns-then-is_stopped-clause-reaped : goal.returns-then-is_stopped-clause-reaped
returns-then-is_stopped-clause-reaped c = record {
  stopped = λ is.
      record {
        seat = c.close-seat.result;
        closed = c.close-seat.ensures;
        got = HasGotAllOf-join c.args.spare.now c.join.new.self c.close-seat.result c.join.ensures;
      };
  goes = λ is. absurd (false≢true (sym is ∙ (sym c.is_stopped.ensures ∙ c.if-is_stopped.true)));
}

pub returns-then-is_stopped-clause-spare : goal.returns-then-is_stopped-clause-spare
returns-then-is_stopped-clause-spare c = IsLaterSpare-join c.args.spare.now c.join.new.self c.close-seat.result c.join.ensures

pub returns-else-is_stopped-clause-spare : goal.returns-else-is_stopped-clause-spare
returns-else-is_stopped-clause-spare c = IsLaterSpare-none c.args.spare.now
