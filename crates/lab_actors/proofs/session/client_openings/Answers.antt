use Rattle.lab_actors.specs.Prelude.{arith, length, List, subst, sym, take, ◌+◌, ◌<◌, All-push, IfSome, Option, AreClientOpenings, Setup, AreUsable, IsUsable}
use Rattle.lab_actors.proofs.OpeningLists.{AreClientOpenings-more}
use Rattle.lab_actors.proofs.session.client_openings.Goals as goal

pub loop-number-preserved : goal.loop-number-preserved
loop-number-preserved c =
    let card = c.args.card.now in
    let lines = c.args.lines.now in
    let wavs = c.args.wavs.now in
    let was = c.loop-number.invariant in
    let number = c.loop-number.number in
    let items = c.in_ok-push.ensures.items in
    let in_lines : number < length lines = c.loop-number-test.true in
    record {
      openings = subst (λ (all : List (Option Setup)). AreClientOpenings card (take (number + 1) lines) (take (number + 1) wavs) all) (sym items)
          (AreClientOpenings-more card lines wavs c.loop-number.openings.items number c.index-lines-number.result c.index-wavs-number.result c.client_opening.result
          in_lines (omega (arith, in_lines, c.requires.files)) c.index-lines-number.is c.index-wavs-number.is was.openings c.client_opening.ensures.opening);
      usable = subst (AreUsable card.channels card.ring) (sym items)
          (All-push (λ (setup : Option Setup). IfSome setup (IsUsable card.channels card.ring)) c.loop-number.openings.items c.client_opening.result was.usable c.client_opening.ensures.usable);
    }
