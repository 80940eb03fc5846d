use Rattle.snoop_core.proofs.Finding.{IsFoundWord-of}
use Rattle.snoop_core.specs.View.{SnoopCoreView}
use Rattle.snoop_core.specs.contracts.capture.SnoopCore.{the_view}
use Rattle.snoop_core.proofs.capture.SnoopCore.word.Goals as goal

pub returns : goal.returns
returns c =
    let v : SnoopCoreView = the_view c.self.inside in
    let in_range = rw (← c.self.view_is) at c.requires.channel in
    let least = rw (← c.self.view_is) at c.requires.least in
    let published = rw (← c.self.view_is) at c.requires.published in
    rw (← c.self.view_is) (IsFoundWord-of v c.args.frame c.args.channel c.word.result c.self.invariant in_range least published c.word.ensures)
