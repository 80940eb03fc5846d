use Rattle.lab_actors.specs.Prelude.{ap, arith, inl, refl, sym, ◌∙◌, ◌≡◌, Err, Ok, Sound}
use Rattle.lab_actors.proofs.UsableOpenings.{IsChosen-file, IsUsable-opened}
use Rattle.lab_actors.proofs.opening.client_opening.Goals as goal

pub returns-in-Err-clause-opening : goal.returns-in-Err-clause-opening
returns-in-Err-clause-opening c =
    inl (
      c.in-Err.field-0,
      IsChosen-file c.args.card.now c.args.line.now c.args.wav.now c.from.result c.wav.inside.rate (Err c.in-Err.field-0)
          (c.from.ensures ∙ ap (λ (x : Sound). x.channels) c.wav.view_is) (ap (λ (x : Sound). x.rate) c.wav.view_is) c.in-Err.ensures.chosen,
    )

pub returns-in-Ok-clause-opening : goal.returns-in-Ok-clause-opening
returns-in-Ok-clause-opening c = record {
  config = IsChosen-file c.args.card.now c.args.line.now c.args.wav.now c.from.result c.wav.inside.rate (Ok c.in-Ok.config)
      (c.from.ensures ∙ ap (λ (x : Sound). x.channels) c.wav.view_is) (ap (λ (x : Sound). x.rate) c.wav.view_is) c.in-Ok.ensures.chosen;
  bindings = c.in_ok-bindings.ensures.some.0;
  channels = c.in_ok-bindings.ensures.some.1;
  params = c.params_of.ensures;
  lead = refl;
}

pub returns-in-Ok-clause-usable : goal.returns-in-Ok-clause-usable
returns-in-Ok-clause-usable c =
    let card = c.args.card.now in
    let line = c.args.line.now in
    let range = c.in-Ok.ensures.range in
    let channels : c.from.result ≡ c.args.wav.now.channels = c.from.ensures ∙ ap (λ (x : Sound). x.channels) c.wav.view_is in
    IsUsable-opened card c.from.result c.args.wav.now.channels line.start line.bindings line.stop
    (record { config = c.in-Ok.config; bindings = c.in_ok-bindings.bindings; params = c.params_of.result; lead = line.lead })
    c.requires.card range c.requires.line.bindings (omega (arith, range.channels_are, range.few, channels))
    c.in_ok-bindings.ensures.some.0 (c.in_ok-bindings.ensures.some.1 ∙ sym channels) c.params_of.ensures c.requires.line.start c.requires.line.stop c.requires.line.lead
