use Rattle.wav_io.proofs.Parts.{cut_is}
use Rattle.wav_io.proofs.frames.cut.Goals as goal

pub returns-clause-all : goal.returns-clause-all
returns-clause-all c =
    let ended = c.complete-first.ensures in
    cut_is c.args.size c.args.part.now c.args.body.now c.complete-first.result.0 c.complete-first.new.part c.complete-first.result.1.now c.split_at.result.0.now c.split_at.result.1.now c.fill.new.self c.fill.result.now ended.first.0
    ended.all ended.first.1 ended.less ended.one c.split_at.ensures.front c.split_at.ensures.back c.fill.ensures.all c.fill.ensures.len
