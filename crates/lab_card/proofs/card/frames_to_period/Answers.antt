use Rattle.lab_card.specs.Prelude.{ap, ℕ, ◌%◌, ◌+◌, ◌-◌, ◌∙◌, ◌≡◌, period_of, frame_of_card}
use Rattle.lab_card.proofs.Running.{period-end}
use Rattle.lab_card.proofs.card.frames_to_period.Goals as goal

pub returns-clause-ends : goal.returns-clause-ends
returns-clause-ends c =
    let frame : ℕ = frame_of_card c.args.card.now in
    let position : c.position.result ≡ frame = c.position.ensures ∙ c.args.card.now.published in
    ap (λ (p : ℕ). (frame + (c.period-period.result - p % c.period-period.result)) % period_of c.args.card.now) position
    ∙ (ap (λ (p : ℕ). (frame + (p - frame % p)) % period_of c.args.card.now) c.period-period.ensures
    ∙ period-end (period_of c.args.card.now) frame c.args.card.now.period_least)
