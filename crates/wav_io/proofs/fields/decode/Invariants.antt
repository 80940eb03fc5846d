use Rattle.wav_io.specs.Prelude.{drop, length, take, ◌*◌, ◌++◌, ◌≡◌, samples_of_bytes}
use Rattle.wav_io.proofs.fields.decode.Given as goal

abbrev pub invariant-loop-i : goal.invariant-loop-i
invariant-loop-i l = record {
  so_far : take l.i l.samples ++ samples_of_bytes (drop (2 * l.i) l.bytes) ≡ samples_of_bytes l.bytes;
  len : length l.samples ≡ length l.fn.samples;
}
