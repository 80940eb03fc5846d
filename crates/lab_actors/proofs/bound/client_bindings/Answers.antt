use Rattle.lab_actors.specs.Prelude.{ap, length, List, sym, ℕ, ◌∙◌, ◌≡◌, length-range_with_len, Option, unwrap_or, identity, Sound}
use Rattle.lab_actors.proofs.bound.client_bindings.Goals as goal

pub returns-in-None-clause-some : goal.returns-in-None-clause-some
returns-in-None-clause-some c =
    let channels : c.wav.inside.channels ≡ c.args.wav.now.channels = ap (λ (x : Sound). x.channels) c.wav.view_is in
    let is : c.identity.result ≡ identity c.args.wav.now.channels = c.identity.ensures ∙ ap identity channels in (
      is ∙ sym (ap (λ (o : Option (List ℕ)). unwrap_or o (identity c.args.wav.now.channels)) c.in-None.is),
      ap length is ∙ length-range_with_len 0 c.args.wav.now.channels,
    )
