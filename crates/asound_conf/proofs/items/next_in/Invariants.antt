use Rattle.asound_conf.specs.Prelude.{◌≡◌, entries_from}
use Rattle.asound_conf.proofs.items.next_in.Given as goal

abbrev pub invariant-loop-number : goal.invariant-loop-number
invariant-loop-number l = entries_from l.group l.from l.table.rows ≡ entries_from l.group l.number l.table.rows
