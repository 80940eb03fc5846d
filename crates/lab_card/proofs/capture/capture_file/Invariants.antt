use Rattle.lab_card.specs.Prelude.{Some, vec_capacity, vec_len, ◌*◌, ◌≡◌, ◌≤◌, captured_frames}
use Rattle.lab_card.proofs.capture.capture_file.Given as goal

abbrev pub invariant-loop-index : goal.invariant-loop-index
invariant-loop-index l = record {
  items : l.captured.items ≡ captured_frames (Some l.wav) l.channels l.from l.index;
  len : vec_len l.captured ≡ l.index * l.channels;
  room : vec_capacity l.fn.captured ≤ vec_capacity l.captured;
}
