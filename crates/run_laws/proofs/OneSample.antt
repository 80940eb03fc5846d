-- In a card that is shared by channels at most one sample is placed at each frame and channel.
use Rattle.run_laws.specs.Prelude.{arith, length, List, None, Option, refl, Some, subst, sym, ℕ, [], ◌∷◌, ◌≡◌, ◌≤◌, ints, IfSome, slice_index_or, ℤ}
use Rattle.run_laws.specs.Prelude.{AreBindings, length-rising, ClaimRow as Claim, sum_of_samples, Sound, Script, ClaimIsOwners, LabRun, Outcome, IsSessionOf}
use Rattle.run_laws.specs.Prelude.{first_stage, Session, Setup, placed_entries, AreBound, HasOneSample, only_of}
use Rattle.snd_base.specs.Places.{first_frame}
use Rattle.run_laws.proofs.Onward.{Channels}
use Rattle.run_laws.proofs.Sole.{Sole, first-sole, sole-held, sole-once}
use Rattle.run_laws.proofs.Stages.{items-held}
use Rattle.mix_core.specs.Laid as laid

-- the sum of one sample is that sample
only-sum : (samples : List ℤ) → length samples ≤ 1 → sum_of_samples samples ≡ only_of samples
only-sum [] few = refl
only-sum (s ∷ []) few = omega (arith, ints)
only-sum (s ∷ t ∷ rest) few = absurd (omega (arith, few))

pub LabRun-once : (script : Script) (wavs : List Sound) (session : Session) (capture : Option Sound) (client_stops reader_stops : ℕ → ℕ) (outcome : Outcome)
    → ((claims : List Claim) (channels : List ℕ) (position : ℕ) → ClaimIsOwners claims channels position) → IsSessionOf script wavs session → AreBound session
    → LabRun session capture script.body client_stops reader_stops outcome → HasOneSample session outcome.report
LabRun-once script wavs session capture client_stops reader_stops outcome owners is bound run share =
    λ frame channel. (few frame channel, only-sum (laid.at (placed_entries session outcome.report) frame channel) (few frame channel))
  where
    channels : (m : ℕ) (setup : Setup) → slice_index_or session.clients m None ≡ Some setup → Channels setup.bindings
    channels m setup there =
        let are : AreBindings setup.bindings = subst (λ (o : Option Setup). IfSome o (λ (s : Setup). AreBindings s.bindings)) there (bound m) in
        record { some = omega (arith, are.some); whole = length-rising setup.bindings are }

    from : first_frame session.ring ≤ (first_stage session).position
    from = rw is.card (rw is.ring.frames (rw is.ring.first_lap (omega arith)))

    few : (frame channel : ℕ) → length (laid.at (placed_entries session outcome.report) frame channel) ≤ 1
    few = subst (λ (o : Outcome). (frame channel : ℕ) → length (laid.at (placed_entries session o.report) frame channel) ≤ 1) (sym run.is)
        (λ frame channel. sole-once session frame channel run.end.clients run.end.claims run.end.position
        (items-held session (Sole session frame channel) (sole-held session frame channel channels share owners) (first_stage session) run.end script.body run.may
        (first-sole session frame channel channels share owners from)))
