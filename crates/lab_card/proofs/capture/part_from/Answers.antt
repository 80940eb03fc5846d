use Rattle.lab_card.specs.Prelude.{arith, length, ◌*◌, ◌≡◌, min}
use Rattle.lab_card.proofs.FileParts.{part-taken}
use Rattle.lab_card.proofs.capture.part_from.Goals as goal

pub returns-clause-part : goal.returns-clause-part
returns-clause-part c =
    let samples = c.args.samples.now in
    let start = c.args.from * c.args.channels in
    let first : c.min-first.result ≡ min start (length samples) = omega arith in
    part-taken samples start c.args.count c.min-first.result c.min-size.result first c.min-size.ensures
