use Rattle.lab_actors.specs.Prelude.{ap, arith, length, subst, sym, ℕ, ◌∙◌, ◌≡◌, Err, IsChosen, read_by, values_of}
use Rattle.lab_actors.proofs.UsableOpenings.{IsUsable-opened}
use Rattle.lab_actors.proofs.opening.reader_opening.Goals as goal

pub returns-in-Err-clause-opening : goal.returns-in-Err-clause-opening
returns-in-Err-clause-opening c =
    let card = c.args.card.now in
    let line = c.args.line.now in
    let channels : c.from.result ≡ length (read_by card line) = c.from.ensures ∙ c.len.ensures.value ∙ ap length c.reader_bindings-bindings.ensures in (
      c.in-Err.field-0,
      subst (λ (n : ℕ). IsChosen card (values_of n card.rate line.period line.buffer) (Err c.in-Err.field-0)) channels c.in-Err.ensures.chosen,
    )

pub returns-in-Ok-clause-usable : goal.returns-in-Ok-clause-usable
returns-in-Ok-clause-usable c =
    let card = c.args.card.now in
    let line = c.args.line.now in
    IsUsable-opened card c.from.result card.channels line.start line.bindings line.stop
    (record { config = c.in-Ok.config; bindings = c.reader_bindings-bindings.result; params = c.params_of.result; lead = 0 })
    c.requires.card c.in-Ok.ensures.range c.requires.line.bindings (omega arith)
    c.reader_bindings-bindings.ensures (sym (c.from.ensures ∙ c.len.ensures.value)) c.params_of.ensures c.requires.line.start c.requires.line.stop
    (omega (arith, c.requires.card.ring.low))
