use Rattle.asound_conf.specs.Prelude.{length, ◌≡◌, entries_in}
use Rattle.asound_conf.proofs.NumberedValues.{AreFirst}
use Rattle.asound_conf.proofs.channels.values_of.Given as goal

abbrev pub invariant-loop-place : goal.invariant-loop-place
invariant-loop-place l = AreFirst (entries_in l.group) l.place l.values × (length l.values ≡ 9)
