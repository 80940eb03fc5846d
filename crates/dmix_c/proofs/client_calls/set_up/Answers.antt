use Rattle.dmix_c.specs.Prelude.{length, refl, replicate, subst, sym, ℕ, [], ◌*◌, ◌∙◌, ◌≡◌, false≢true, OnOk, Option, pos, PcmError, Config, Playback}
use Rattle.dmix_c.specs.Prelude.{passed-on, refusal-of_err, refusal-of_ok, refusal_of, ClientView, IsBackedSeat, set_up_with, CanConfigure, CanSetUp}
use Rattle.dmix_client.specs.Calls.{configured_with}
use Rattle.dmix_c.proofs.Backing.{backed-new}
use Rattle.dmix_c.proofs.SettingUp.{SetsUp-done, SetsUp-refused, SetsUp-unbound, SetsUp-unfit, kept-by}
use Rattle.pcm_states.specs.declared.calls.Call.TheVariants as call
use Rattle.dmix_c.proofs.client_calls.set_up.Goals as goal

-- why a client's state refuses hardware parameters
abbrev refusal : ClientView → Option PcmError
refusal v = refusal_of Playback v.stream.status call.HwParams

pub returns-in_err-admit-clause-set_up : goal.returns-in_err-admit-clause-set_up
returns-in_err-admit-clause-set_up c =
    let v = c.args.client.now in
    let e = c.in_err-admit.field-0.0 in
    SetsUp-refused e (refusal-of_err (refusal v) c.admit.result e c.admit.ensures c.in_err-admit.was) (passed-on c.from_residual.result e c.from_residual.ensures.1)

pub returns-in-Err-clause-set_up : goal.returns-in-Err-clause-set_up
returns-in-Err-clause-set_up c =
    let v = c.args.client.now in
    SetsUp-unbound c.in-Err.why (refusal-of_ok (refusal v) c.admit.result c.admit.ensures c.in_ok-admit.was) (sym c.in-Err.ensures.answer) refl

pub returns-then-not-can_configure-clause-set_up : goal.returns-then-not-can_configure-clause-set_up
returns-then-not-can_configure-clause-set_up c =
    let v = c.args.client.now in
    SetsUp-unfit c.in-Ok.bindings (refusal-of_ok (refusal v) c.admit.result c.admit.ensures c.in_ok-admit.was) (sym c.in-Ok.ensures.answer)
    (λ can. false≢true (sym c.if-not-can_configure.true ∙ c.can_configure.ensures.1 (subst (λ (n : ℕ). CanConfigure c.args.rate n c.args.params.now) (sym c.len.ensures.value) can))) refl

pub returns-clause-set_up : goal.returns-clause-set_up
returns-clause-set_up c =
    let v = c.args.client.now in
    let d = c.hw_params.new.self in
    let bindings = c.in-Ok.bindings in
    let can : CanSetUp c.args.geometry c.args.rate c.args.params.now c.args.list.now = record {
      bindings = bindings;
      bound = sym c.in-Ok.ensures.answer;
      runs = subst (λ (n : ℕ). CanConfigure c.args.rate n c.args.params.now) c.len.ensures.value (c.can_configure.ensures.0 c.if-not-can_configure.false);
    } in
    SetsUp-done can c.hw_params.result (refusal-of_ok (refusal v) c.admit.result c.admit.ensures c.in_ok-admit.was)
    (subst (λ (x : Config). OnOk c.hw_params.result (d ≡ (let w : ClientView = record { stream = configured_with v.stream x bindings; ring = replicate (x.buffer_size * length bindings) (pos 0) } in w)))
    c.config-config.ensures c.hw_params.ensures.ok)
    c.hw_params.ensures.err c.hw_params.ensures.only c.done_of.ensures

pub returns-clause-backed : goal.returns-clause-backed
returns-clause-backed c s backed =
    let v = c.args.client.now in
    let d = c.hw_params.new.self in
    let bindings = c.in-Ok.bindings in
    let end = set_up_with v c.args.params.now bindings in
    kept-by (IsBackedSeat s) v d end c.hw_params.result
    (subst (λ (x : Config). OnOk c.hw_params.result (d ≡ (let w : ClientView = record { stream = configured_with v.stream x bindings; ring = replicate (x.buffer_size * length bindings) (pos 0) } in w)))
    c.config-config.ensures c.hw_params.ensures.ok)
    c.hw_params.ensures.err (λ has. ∣ ([], backed-new s end refl refl refl []) ∣₁) backed
