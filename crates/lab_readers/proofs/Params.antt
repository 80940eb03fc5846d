-- A stream that is set up with an opening which fits it takes the opening's software parameters.
use Rattle.lab_readers.specs.Prelude.{Err, None, refl, Result, subst, ℕ, ◌≡◌, PcmError, Geometry, Capture, refusal_of, CaptureStream, configured_with}
use Rattle.lab_readers.specs.Prelude.{new_reader, Setup, IsUsable}
use Rattle.sw_limits.specs.declared.params.SwParams.{SwParams}
use Rattle.sw_limits.specs.Boundary.{IsBoundary}
use Rattle.pcm_stream.specs.Setup.{Checks}
use Rattle.lab_actors.proofs.ParamLaws.{Checks-valid}
use Rattle.pcm_states.specs.declared.calls.Call.TheVariants as call

-- what a new stream answers
abbrev Answers : Result (Unit {0}) PcmError → SwParams → CaptureStream → Type 0
Answers answer params r = refusal_of Capture r.status call.SwParams ≡ None → (b : ℕ) × IsBoundary r.setup.config.buffer_size b × Checks answer params b

pub params-taken : (geometry : Geometry) (setup : Setup) (r : CaptureStream) (answer : Result (Unit {0}) PcmError) (e : PcmError) → IsUsable geometry.channels geometry.frames setup
    → r ≡ configured_with (new_reader geometry) setup.config setup.bindings
    → (refusal_of Capture r.status call.SwParams ≡ None → (b : ℕ) × IsBoundary r.setup.config.buffer_size b × Checks answer setup.params b) → answer ≡ Err e → ⊥
params-taken geometry setup r answer e usable is checked refused =
    let at = subst (Answers answer setup.params) is checked refl in
    Checks-valid setup.params at.0 e (usable.params at.0 at.1) (subst (λ (x : Result (Unit {0}) PcmError). Checks x setup.params at.0) refused at.2)
