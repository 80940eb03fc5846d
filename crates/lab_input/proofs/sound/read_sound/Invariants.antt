use Rattle.std.proofs.Common.{◌-◌, cond}
use Rattle.lab_input.proofs.Reading.{Reading}
use Rattle.lab_input.proofs.sound.read_sound.Given as goal

abbrev pub invariant-loop-is_last : goal.invariant-loop-is_last
invariant-loop-is_last g l = Reading g.S.Shelf l.fn.shelf l.shelf l.name l.shape l.sound l.length l.is_last

abbrev pub decreases-loop-is_last : goal.decreases-loop-is_last
decreases-loop-is_last g l = cond l.is_last 0 (67_108_865 - l.length)
