use Rattle.wav_io.specs.Prelude.{ap, arith, drop, length, List, take, ℕ, [], ◌++◌, ◌∙◌, ◌≡◌, drop_all, take_all}
use Rattle.wav_io.proofs.Places.{body-stays, body-leads, front_is}
use Rattle.wav_io.proofs.steps.format_body.Goals as goal

pub returns-then-body-missing-clause-goes_on : goal.returns-then-body-missing-clause-goes_on
returns-then-body-missing-clause-goes_on c =
    let bytes = c.args.bytes.now in
    let all : c.split_at.result.0.now ≡ bytes = c.split_at.ensures.front ∙ take_all c.min.result bytes (omega arith) in
    let none : c.split_at.result.1.now ≡ [] = c.split_at.ensures.back ∙ drop_all c.min.result bytes (omega arith) in
    let kept = front_is 40 c.fill.new.self c.fill.result.now c.args.kept.now c.split_at.result.0.now c.fill.ensures.all c.fill.ensures.len in
    rw (all, none)
    (body-stays c.args.depths c.args.missing c.args.pad c.args.kept.now bytes c.fill.new.self (kept ∙ ap (λ (b : List ℕ). take 40 (c.args.kept.now ++ b)) all)
    (omega (arith, ap length all)) (c.requires.place.1, c.requires.place.2))

pub returns-clause-goes_on : goal.returns-clause-goes_on
returns-clause-goes_on c =
    let bytes = c.args.bytes.now in
    let whole : c.min.result ≡ c.args.missing = omega arith in
    let front : c.split_at.result.0.now ≡ take c.args.missing bytes = c.split_at.ensures.front ∙ ap (λ (n : ℕ). take n bytes) whole in
    let back : c.split_at.result.1.now ≡ drop c.args.missing bytes = c.split_at.ensures.back ∙ ap (λ (n : ℕ). drop n bytes) whole in
    let kept = front_is 40 c.fill.new.self c.fill.result.now c.args.kept.now c.split_at.result.0.now c.fill.ensures.all c.fill.ensures.len in
    rw (back, c.clear.ensures)
    (body-leads c.args.depths c.args.missing c.args.pad c.args.kept.now bytes c.fill.new.self c.after_format-place.result
    (kept ∙ ap (λ (b : List ℕ). take 40 (c.args.kept.now ++ b)) front) (omega arith)
    (rw c.as_slice.ensures at c.after_format-place.ensures))
