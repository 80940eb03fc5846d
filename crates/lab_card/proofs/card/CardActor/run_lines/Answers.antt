use Rattle.lab_card.specs.Prelude.{ap, arith, length, List, take, ℕ, [], ◌+◌, option_copied, ◌∷◌, end_frame, Line, Op, frames_by, CardPart-joined}
use Rattle.lab_card.proofs.OwnLines.{count-most, count-next, frames-most, frames-next, line_at, ops, ops-next}
use Rattle.lab_card.proofs.Rooms.{HasRoom-after, KeepsRoom-joined}
use Rattle.lab_card.proofs.card.CardActor.run_lines.Goals as goal

pub do_own-requires-clause-fits : goal.do_own-requires-clause-fits
do_own-requires-clause-fits c =
    let next = frames-next c.args.lines.now c.loop-index.index c.loop-index-test.true in
    let most = frames-most c.args.lines.now (c.loop-index.index + 1) in
    let was = c.loop-index.invariant in
    omega (arith, next, most, was.part.did.moves.frame, ap end_frame was.keeps.geometry, c.requires.fits)

pub do_own-requires-clause-room : goal.do_own-requires-clause-room
do_own-requires-clause-room c =
    let lines : List Line = c.args.lines.now in
    let index : ℕ = c.loop-index.index in
    let before : List Op = ops (take index lines) in
    let own : List Op = ops (line_at lines index ∷ []) in
    HasRoom-after c.args.self.now c.loop-index.self (length before) (length own) (frames_by before) (frames_by own) (length (ops lines)) (frames_by (ops lines)) c.loop-index.invariant.keeps c.requires.room
    (omega (arith, count-next lines index c.loop-index-test.true, count-most lines (index + 1))) (omega (arith, frames-next lines index c.loop-index-test.true, frames-most lines (index + 1)))

pub loop-index-preserved : goal.loop-index-preserved
loop-index-preserved c =
    let lines : List Line = c.args.lines.now in
    let index : ℕ = c.loop-index.index in
    let before : List Op = ops (take index lines) in
    let own : List Op = ops (line_at lines index ∷ []) in
    let was = c.loop-index.invariant in
    record {
      part = rw (ops-next lines index c.loop-index-test.true)
          (CardPart-joined (option_copied c.args.capture) c.args.phase c.args.self.now c.loop-index.self c.do_own.new.self before own was.part c.do_own.ensures.part);
      keeps = rw (count-next lines index c.loop-index-test.true, frames-next lines index c.loop-index-test.true)
          (KeepsRoom-joined c.args.self.now c.loop-index.self c.do_own.new.self (length before) (length own) (frames_by before) (frames_by own) was.keeps c.do_own.ensures.room);
    }
