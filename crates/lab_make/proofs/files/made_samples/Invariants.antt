-- A sample is drawn from each word so far.
use Rattle.lab_make.specs.Prelude.{map, ◌≡◌, range_with_len, after_words, next_sample}
use Rattle.lab_make.proofs.files.made_samples.Given as goal

abbrev pub invariant-loop-index : goal.invariant-loop-index
invariant-loop-index l = record {
  samples : l.samples.items ≡ map (λ index. next_sample (after_words index l.fn.generator)) (range_with_len 0 l.index);
  next : l.generator ≡ after_words l.index l.fn.generator;
}
