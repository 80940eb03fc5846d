use Rattle.lab_script.specs.Prelude.{map, [], ◌∙◌, ◌∷◌, map-append, words_between}
use Rattle.std.proofs.lemmas.Result.{err_from_is_err_and}
use Rattle.lab_script.proofs.Pairs.{keys_wrong, keys_next}
use Rattle.lab_script.proofs.keys.check_keys.Goals as goal

pub returns-in_err-check_value : goal.returns-in_err-check_value
returns-in_err-check_value c =
    let p = err_from_is_err_and c.from_residual-in_err-check_value.result c.from_residual-in_err-check_value.ensures.1 in
    rw (p.1, p.2, ← c.loop-key.invariant)
    (keys_wrong c.args.kind (map (λ k. k.now) c.loop-key.earlier.items) c.in-Some.key.now c.in-Some-next_word.word.now
    (words_between c.loop-key.rest.now) (words_between c.in-Some.behind.now) (words_between c.in-Some-next_word.more.now)
    c.in_ok-takes.takes c.in_err-check_value.field-0.0 c.in-Some.ensures.words c.in-Some-next_word.ensures.words
    (rw c.as_slice.ensures.value at c.in_ok-takes.ensures) c.in_err-check_value.ensures)

pub loop-key-preserved : goal.loop-key-preserved
loop-key-preserved c =
    rw c.in_ok-push.ensures.items
    (rw (map-append (λ k. k.now) c.loop-key.earlier.items (c.in-Some.key ∷ []))
    (keys_next c.args.kind (map (λ k. k.now) c.loop-key.earlier.items) c.in-Some.key.now c.in-Some-next_word.word.now
    (words_between c.loop-key.rest.now) (words_between c.in-Some.behind.now) (words_between c.in-Some-next_word.more.now)
    c.in_ok-takes.takes c.in-Some.ensures.words c.in-Some-next_word.ensures.words
    (rw c.as_slice.ensures.value at c.in_ok-takes.ensures) c.in_ok-check_value.ensures
    ∙ c.loop-key.invariant))
