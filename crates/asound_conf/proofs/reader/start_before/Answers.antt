use Rattle.std.proofs.Common.{refl}
use Rattle.asound_conf.proofs.Starts.{AreAt-before}
use Rattle.asound_conf.proofs.reader.start_before.Goals as goal

pub returns : goal.returns
returns c = AreAt-before c.args.text.now c.args.rest.now c.args.after c.args.bytes.now _ c.requires.small refl c.requires.before
