use Rattle.std.proofs.Common.{length}
use Rattle.asound_conf.proofs.group.+meets_text.Given as goal

abbrev pub decreases-meets_text : goal.decreases-meets_text
decreases-meets_text l = length l.parts.now
