use Rattle.examples.specs.Prelude.{drop, ◌≡◌, None, error_of, sound_to_come, with_samples, wav_file, bytes_of_pieces}
use Rattle.examples.proofs.wav_in_pieces.read_pieces.Given as goal

abbrev pub invariant-loop-piece : goal.invariant-loop-piece
invariant-loop-piece l = record {
  same : with_samples l.samples.items (sound_to_come l.reader (bytes_of_pieces (drop l.piece-index l.pieces))) ≡ wav_file (bytes_of_pieces l.pieces);
  no_error : error_of l.reader ≡ None;
}
