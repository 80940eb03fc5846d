use Rattle.wav_io.specs.Prelude.{length, take, ◌*◌, ◌≡◌, w16, flat_map, All, FitsSigned, sample_bytes}
use Rattle.wav_io.proofs.writing.encode.Given as goal

abbrev pub invariant-loop-i : goal.invariant-loop-i
invariant-loop-i l = record {
  put : take (2 * l.i) l.bytes ≡ flat_map sample_bytes (take l.i l.samples);
  fit : All (FitsSigned w16) (take l.i l.samples);
  len : length l.bytes ≡ length l.fn.bytes;
}
