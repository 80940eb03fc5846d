use Rattle.dmix_c.specs.Prelude.{ap, arith, refl, subst, sym, ℕ, ◌<◌, ◌∙◌, ◌≡◌, false≢true, All, OnOk, Option, PcmError, Geometry, Config, Capture, passed-on}
use Rattle.dmix_c.specs.Prelude.{refusal-of_err, refusal-of_ok, refusal_of, CaptureStream, configured_with, CanConfigure, CanSetUp}
use Rattle.dmix_c.proofs.SettingUp.{SetsUp-done, SetsUp-refused, SetsUp-unbound, SetsUp-unfit}
use Rattle.pcm_states.specs.declared.calls.Call.TheVariants as call
use Rattle.dmix_c.proofs.reader_calls.set_up.Goals as goal

-- why a reader's state refuses hardware parameters
abbrev refusal : CaptureStream → Option PcmError
refusal v = refusal_of Capture v.status call.HwParams

pub returns-in_err-admit : goal.returns-in_err-admit
returns-in_err-admit c =
    let v = c.args.reader.now in
    let e = c.in_err-admit.field-0.0 in
    SetsUp-refused e (refusal-of_err (refusal v) c.admit.result e c.admit.ensures c.in_err-admit.was) (passed-on c.from_residual.result e c.from_residual.ensures.1)

pub returns-in-Err : goal.returns-in-Err
returns-in-Err c =
    let v = c.args.reader.now in
    SetsUp-unbound c.in-Err.why (refusal-of_ok (refusal v) c.admit.result c.admit.ensures c.in_ok-admit.was) (sym c.in-Err.ensures.answer) refl

pub returns-then-not-can_configure : goal.returns-then-not-can_configure
returns-then-not-can_configure c =
    let v = c.args.reader.now in
    SetsUp-unfit c.in-Ok.bindings (refusal-of_ok (refusal v) c.admit.result c.admit.ensures c.in_ok-admit.was) (sym c.in-Ok.ensures.answer)
    (λ can. false≢true (sym c.if-not-can_configure.true ∙ c.can_configure.ensures.1 (subst (λ (n : ℕ). CanConfigure c.args.rate n c.args.params.now) (sym c.len.ensures.value) can))) refl

pub hw_params-requires : goal.hw_params-requires
hw_params-requires c =
    let can = c.can_configure.ensures.0 c.if-not-can_configure.false in
    let config = c.config-config.ensures in
    record {
      channels = ap (λ (x : Config). x.channels) config ∙ (can.same_channels ∙ c.len.ensures.value);
      on_card = subst (λ (g : Geometry). All (λ (channel : ℕ). channel < g.channels) c.in-Ok.bindings) c.requires c.in-Ok.ensures.below;
      buffer_least = omega (arith, ap (λ (x : Config). x.buffer_size) config, can.period_least, can.period_most);
      buffer_most = omega (arith, ap (λ (x : Config). x.buffer_size) config, can.buffer_most);
    }

pub returns : goal.returns
returns c =
    let v = c.args.reader.now in
    let d = c.hw_params.new.self in
    let bindings = c.in-Ok.bindings in
    let can : CanSetUp c.args.geometry c.args.rate c.args.params.now c.args.list.now = record {
      bindings = bindings;
      bound = sym c.in-Ok.ensures.answer;
      runs = subst (λ (n : ℕ). CanConfigure c.args.rate n c.args.params.now) c.len.ensures.value (c.can_configure.ensures.0 c.if-not-can_configure.false);
    } in
    SetsUp-done can c.hw_params.result (refusal-of_ok (refusal v) c.admit.result c.admit.ensures c.in_ok-admit.was)
    (subst (λ (x : Config). OnOk c.hw_params.result (d ≡ configured_with v x bindings)) c.config-config.ensures c.hw_params.ensures.ok)
    c.hw_params.ensures.err c.hw_params.ensures.only c.done_of.ensures
