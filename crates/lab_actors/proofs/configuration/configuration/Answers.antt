use Rattle.lab_actors.specs.Prelude.{◌++◌, ◌∷◌, err_from_is_err_and, BufferSize, PeriodSize, Rate, value_if, values_of}
use Rattle.lab_actors.proofs.ConfigRange.{IsConfigInRange-choice}
use Rattle.lab_actors.proofs.Narrowings.{IsChosen-narrowed, IsChosen-nothing}
use Rattle.lab_actors.proofs.configuration.configuration.Goals as goal

pub returns-in_err-narrow-clause-chosen : goal.returns-in_err-narrow-clause-chosen
returns-in_err-narrow-clause-chosen c =
    let wanted = c.args.wanted.now in
    let p = err_from_is_err_and c.from_residual.result c.from_residual.ensures.1 in
    IsChosen-nothing c.args.card.now (values_of wanted.channels wanted.rate wanted.period wanted.buffer) c.widest-space.result c.from_residual.result p.0
    c.widest-space.ensures.widest p.1 c.in_err-narrow.ensures

pub returns-clause-chosen : goal.returns-clause-chosen
returns-clause-chosen c =
    let wanted = c.args.wanted.now in
    IsChosen-narrowed c.args.card.now (values_of wanted.channels wanted.rate wanted.period wanted.buffer) c.widest-space.result c.narrow.new.space c.choose.result
    c.widest-space.ensures.widest c.in_ok-narrow.ensures c.choose.ensures

pub returns-clause-range : goal.returns-clause-range
returns-clause-range c =
    let card = c.args.card.now in
    let wanted = c.args.wanted.now in
    IsConfigInRange-choice card.channels card.rate card.ring wanted.channels card.period
    ((Rate, wanted.rate) ∷ (value_if PeriodSize wanted.period ++ value_if BufferSize wanted.buffer)) c.widest-space.result c.narrow.new.space c.choose.result
    c.widest-space.ensures.widest c.in_ok-narrow.ensures c.choose.ensures
