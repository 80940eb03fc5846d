use Rattle.lab_card.specs.Prelude.{map, Some, vec_capacity, vec_len, ◌++◌, ◌+◌, ◌≡◌, ◌≤◌, range_with_len, captured_at}
use Rattle.lab_card.proofs.capture.push_frame.Given as goal

abbrev pub invariant-loop-channel : goal.invariant-loop-channel
invariant-loop-channel l = record {
  items : l.captured.items ≡ l.fn.captured.items ++ map (captured_at (Some l.wav) l.frame) (range_with_len 0 l.channel);
  len : vec_len l.captured ≡ vec_len l.fn.captured + l.channel;
  room : vec_capacity l.fn.captured ≤ vec_capacity l.captured;
}
