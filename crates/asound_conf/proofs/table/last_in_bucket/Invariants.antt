use Rattle.asound_conf.specs.Prelude.{length, text_bytes}
use Rattle.asound_conf.proofs.Tables.{IsSought}
use Rattle.asound_conf.proofs.table.last_in_bucket.Given as goal

abbrev pub invariant-loop-at : goal.invariant-loop-at
invariant-loop-at l = IsSought l.text l.cells (length l.heads) l.group (text_bytes l.key) l.at

abbrev pub decreases-loop-at : goal.decreases-loop-at
decreases-loop-at l = l.at
