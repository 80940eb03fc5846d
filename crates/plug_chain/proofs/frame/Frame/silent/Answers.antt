use Rattle.plug_chain.specs.Prelude.{pos, take-replicate}
use Rattle.plug_chain.proofs.frame.Frame.silent.Goals as goal

pub returns : goal.returns
returns c = take-replicate c.args.channels 8 (pos 0) c.requires
