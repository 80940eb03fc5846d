use Rattle.mix_core.specs.Prelude.{length, take, ◌≡◌, ◌≤◌, zip, vec_capacity, vec_len, IsRun, KeepsAdds}
use Rattle.mix_core.proofs.ring.Core.run.Given as goal

abbrev pub invariant-loop-i : goal.invariant-loop-i
invariant-loop-i l = record {
  room : length l.replies.items ≡ length l.events;
  stood : vec_len l.standing ≤ l.i;
  space : length l.events ≤ vec_capacity l.standing;
  so_far : IsRun l.fn.self l.self (take l.i l.events) (take l.i l.replies.items);
  keeps : KeepsAdds l.standing.items (zip (take l.i l.events) (take l.i l.replies.items));
}
