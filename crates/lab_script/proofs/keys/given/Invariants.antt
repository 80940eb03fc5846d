use Rattle.lab_script.specs.Prelude.{length, ◌≡◌, words_between, word_after}
use Rattle.lab_script.proofs.keys.given.Given as goal

abbrev pub invariant-loop-k : goal.invariant-loop-k
invariant-loop-k l = word_after l.key (words_between l.rest) ≡ word_after l.fn.key (words_between l.fn.words)

abbrev pub decreases-loop-k : goal.decreases-loop-k
decreases-loop-k l = length l.rest
