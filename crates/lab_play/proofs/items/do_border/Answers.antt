use Rattle.lab_play.proofs.ItemsDone.{StaysWritten-border, StaysWritten-stage}
use Rattle.lab_play.proofs.items.do_border.Goals as goal

pub returns-in-Ok-clause-written : goal.returns-in-Ok-clause-written
returns-in-Ok-clause-written c =
    StaysWritten-border c.stages_grow.ensures.grow c.stages_grow.ensures.borders c.args.lab.now c.border.new.self c.args.item.now c.requires.border c.in-Ok.ensures.does
    c.in-Ok.ensures.played

pub returns-in-Err-clause-written : goal.returns-in-Err-clause-written
returns-in-Err-clause-written c = StaysWritten-stage c.args.lab.now c.border.new.self c.in-Err.ensures.kept
