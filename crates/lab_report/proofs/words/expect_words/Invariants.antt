use Rattle.lab_report.specs.Prelude.{length, ◌≡◌, slice_split, is_space, expect_words}
use Rattle.lab_report.proofs.words.expect_words.Given as goal

abbrev pub invariant-loop-word : goal.invariant-loop-word
invariant-loop-word l = expect_words (slice_split is_space l.words) l.rest ≡ expect_words (slice_split is_space l.fn.words) l.fn.rest

abbrev pub decreases-loop-word : goal.decreases-loop-word
decreases-loop-word l = length l.words
