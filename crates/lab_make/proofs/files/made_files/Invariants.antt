-- The files so far are those of the first clients.
use Rattle.lab_make.specs.Prelude.{map, ◌*◌, ◌≡◌, range_with_len, after_words, generator_of, made_sound}
use Rattle.lab_make.proofs.files.made_files.Given as goal

abbrev pub invariant-loop-client : goal.invariant-loop-client
invariant-loop-client l = record {
  files : l.files.items ≡ map (made_sound l.seed) (range_with_len 0 l.client);
  next : l.generator ≡ after_words (8192 * l.client) (generator_of l.seed);
}
