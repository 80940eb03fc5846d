use Rattle.lab_actors.specs.Prelude.{List, subst, sym, take, ◌+◌, All-push, IfSome, Option, AreReaderOpenings, Setup, AreUsable, IsUsable}
use Rattle.lab_actors.proofs.OpeningLists.{AreReaderOpenings-more}
use Rattle.lab_actors.proofs.session.reader_openings.Goals as goal

pub loop-number-preserved : goal.loop-number-preserved
loop-number-preserved c =
    let card = c.args.card.now in
    let lines = c.args.lines.now in
    let was = c.loop-number.invariant in
    let number = c.loop-number.number in
    let items = c.in_ok-push.ensures.items in
    record {
      openings = subst (λ (all : List (Option Setup)). AreReaderOpenings card (take (number + 1) lines) all) (sym items)
          (AreReaderOpenings-more card lines c.loop-number.openings.items number c.index-lines-number.result c.reader_opening.result
          c.loop-number-test.true c.index-lines-number.is was.openings c.reader_opening.ensures.opening);
      usable = subst (AreUsable card.channels card.ring) (sym items)
          (All-push (λ (setup : Option Setup). IfSome setup (IsUsable card.channels card.ring)) c.loop-number.openings.items c.reader_opening.result was.usable c.reader_opening.ensures.usable);
    }
