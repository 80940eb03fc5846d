use Rattle.mix_core.specs.Prelude.{drop, length, [], ◌≡◌, ◌≤◌, own_entries}
use Rattle.mix_core.proofs.run.last_of.Given as goal

abbrev pub invariant-loop-i : goal.invariant-loop-i
invariant-loop-i l = record {
  most : l.i ≤ length l.standing;
  none_later : own_entries l.member (drop l.i l.standing) ≡ [];
}
