-- The words of the segments so far, and a limit for them.
use Rattle.lab_make.specs.Prelude.{sum_by, take, ◌*◌, ◌+◌, ◌^◌, ◌≡◌, ◌≤◌, words_laid}
use Rattle.lab_make.proofs.summary.words_laid.Given as goal

abbrev pub invariant-loop-client : goal.invariant-loop-client
invariant-loop-client l = record {
  laid : l.words ≡ sum_by words_laid (take l._client-index l.segments);
  few : l.words ≤ l._client-index * (2 ^ 65 + 254);
}
