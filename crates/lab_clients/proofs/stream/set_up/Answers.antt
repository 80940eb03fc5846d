use Rattle.lab_clients.specs.Prelude.{ap, refl, subst, sym, ℕ, ◌∙◌, ◌≡◌, None, Result, PcmError, Playback, refusal_of, configured_with, ClientView, Setup}
use Rattle.sw_limits.specs.declared.params.SwParams.{SwParams}
use Rattle.sw_limits.specs.Boundary.{IsBoundary}
use Rattle.sw_limits.specs.Params.{IsValid}
use Rattle.pcm_stream.specs.Setup.{Checks}
use Rattle.lab_actors.proofs.ParamLaws.{Checks-valid}
use Rattle.pcm_states.specs.declared.calls.Call.TheVariants as call
use Rattle.lab_clients.proofs.stream.set_up.Goals as goal

-- the parameters are valid for the configuration's boundary, so that they aren't refused
pub unreachable-requires : goal.unreachable-requires
unreachable-requires c =
    let inside = c.opening.inside in
    let given = c.opening.view_is in
    let came = c.in_ok-hw_params.ensures.ok in
    let admitted = subst (λ (v : ClientView). refusal_of Playback v.stream.status call.SwParams ≡ None) (sym came)
    (subst (λ (v : ClientView). refusal_of Playback (configured_with v.stream inside.config inside.bindings).status call.SwParams ≡ None) (sym c.new-client.ensures) refl) in
    let found = c.sw_params.ensures.checked admitted in
    let boundary = subst (λ (n : ℕ). IsBoundary n found.0)
    (ap (λ (v : ClientView). v.stream.setup.config.buffer_size) came ∙ ap (λ (s : Setup). s.config.buffer_size) given) found.1 in
    Checks-valid inside.params found.0 c.in_default.field-0
    (subst (λ (p : SwParams). IsValid p found.0) (ap (λ (s : Setup). s.params) (sym given)) (c.requires.params found.0 boundary))
    (subst (λ (r : Result (Unit {0}) PcmError). Checks r inside.params found.0) c.in_default.is found.2)
