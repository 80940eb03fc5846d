use Rattle.lab_script.specs.Prelude.{length, map, [], ◌≡◌, words_between, keys_from}
use Rattle.lab_script.proofs.keys.check_keys.Given as goal

abbrev pub invariant-loop-key : goal.invariant-loop-key
invariant-loop-key l = keys_from l.kind (map (λ k. k.now) l.earlier.items) (words_between l.rest) ≡ keys_from l.fn.kind [] (words_between l.fn.words)

abbrev pub decreases-loop-key : goal.decreases-loop-key
decreases-loop-key l = length l.rest
