-- What an outcome of the state table has, by what the outcomes of its cases have.
use Rattle.std.specs.Prelude.{◌≡◌, ℕ, Bool, true, false, not, ◌&&◌, nat_eq, if◌then◌else◌, List, [], ◌∷◌, Option, Some, None, IfSome}
use Rattle.std.proofs.Common.{refl}
use Rattle.snd_base.specs.declared.errors.PcmError.TheVariants.{BadState, Again, NoDevice, NotSupported}
use Rattle.snd_base.specs.declared.errors.PcmError.TheVariants as error
use Rattle.snd_base.specs.declared.errors.XrunWhy.{XrunWhy}
use Rattle.snd_base.specs.declared.errors.XrunWhy.TheVariants.{Empty, Already, Avail}
use Rattle.std.specs.Option.{option_map}
use Rattle.pcm_states.specs.declared.states.State.{State}
use Rattle.pcm_states.specs.declared.states.State.TheVariants.{Setup, Prepared, Running, Draining, Disconnected}
use Rattle.pcm_states.specs.declared.calls.Call.{Call}
use Rattle.pcm_states.specs.declared.calls.Call.TheVariants.{Drain}
use Rattle.pcm_states.specs.declared.calls.Facts.{Facts}
use Rattle.pcm_states.specs.declared.calls.Outcome.{Outcome}
use Rattle.pcm_states.specs.Table.{Cell, already, call_row, cell_outcome, done_in, draining, ebadfd, eio, enodev, filling, first_outcome, if_empty, if_gone, if_late, if_none_left, if_over, if_played, moving, next_of, refused_in, resuming, starting, still_draining, stopped_by, to}

-- the outcomes to which a call leads that is made in a state with some facts, but for the states that a cell alone names
pub record Cases (P : Outcome → Type 0) (s : State) (f : Facts) : Type 0 where
  -- refused, and left in the state
  pub bad_state : P (refused_in s BadState)
  pub no_device : P (refused_in s NoDevice)
  pub not_supported : P (refused_in s NotSupported)
  pub already_over : P (refused_in s (error.Xrun Already))
  -- by what the facts say
  pub empty : P (refused_in Prepared (error.Xrun Empty))
  pub gone : P (refused_in Disconnected NoDevice)
  pub over : (avail seen : ℕ) → P (stopped_by (Avail avail seen))
  pub late : IfSome f.late (λ (w : XrunWhy). P (stopped_by w))
  -- and otherwise
  pub running : P (done_in Running)
  pub prepared : P (done_in Prepared)
  pub set_up : P (done_in Setup)
  pub drains : P (done_in Draining)
  pub drains_on : P (refused_in Draining Again)

module _ (P : Outcome → Type 0) where
  -- the first of some cases, which holds or not
  first-holds : (o : Option Outcome) (rest : List (Option Outcome)) (d : Outcome) → IfSome o P → P (first_outcome rest d) → P (first_outcome (o ∷ rest) d)
  first-holds None rest d here there = there
  first-holds (Some x) rest d here there = here

  -- a case by a test
  test-holds : (test : Bool) (x : Outcome) → P x → IfSome (if test then Some x else None) P
  test-holds true x is = is
  test-holds false x is = tt

  over-holds : (f : Facts) → ((avail seen : ℕ) → P (stopped_by (Avail avail seen))) → IfSome (if_over f) P
  over-holds f is = by_over f.over
    where
      by_over : (o : Option (ℕ × ℕ)) → (let g : Facts = record f { over = o } in IfSome (if_over g) P)
      by_over None = tt
      by_over (Some (avail, seen)) = is avail seen

  late-holds : (f : Facts) → IfSome f.late (λ (w : XrunWhy). P (stopped_by w)) → IfSome (if_late f) P
  late-holds f = by_late f.late
    where
      by_late : (l : Option XrunWhy) → IfSome l (λ (w : XrunWhy). P (stopped_by w)) → IfSome (option_map stopped_by l) P
      by_late None is = tt
      by_late (Some w) is = is

  -- a stream that runs, and one that drains
  pub moving-holds : (f : Facts) → P (refused_in Disconnected NoDevice) → ((avail seen : ℕ) → P (stopped_by (Avail avail seen)))
      → IfSome f.late (λ (w : XrunWhy). P (stopped_by w)) → P (done_in Running)
      → P (first_outcome (if_gone f ∷ if_over f ∷ if_late f ∷ []) (done_in Running))
  moving-holds f gone over late runs = first-holds (if_gone f) _ _ (test-holds f.gone _ gone)
      (first-holds (if_over f) _ _ (over-holds f over) (first-holds (if_late f) _ _ (late-holds f late) runs))

  pub draining-holds : (f : Facts) (c : Call) → P (refused_in Disconnected NoDevice) → IfSome f.late (λ (w : XrunWhy). P (stopped_by w)) → P (done_in Setup)
      → P (still_draining c) → P (first_outcome (if_gone f ∷ if_late f ∷ if_played f ∷ []) (still_draining c))
  draining-holds f c gone late played still = first-holds (if_gone f) _ _ (test-holds f.gone _ gone)
      (first-holds (if_late f) _ _ (late-holds f late) (first-holds (if_played f) _ _ (test-holds (nat_eq f.queued 0) _ played) still))

  still-holds : (c : Call) → P (done_in Draining) → P (refused_in Draining Again) → P (still_draining c)
  still-holds Drain drains again = again
  still-holds other drains again = drains

  cell-holds : (cell : Cell) (s : State) (c : Call) (f : Facts) → Cases P s f → ((t : State) → cell ≡ to t → P (done_in t)) → P (cell_outcome cell s c f)
  cell-holds (to t) s c f cases done = done t refl
  cell-holds ebadfd s c f cases done = cases.bad_state
  cell-holds enodev s c f cases done = cases.no_device
  cell-holds eio s c f cases done = cases.not_supported
  cell-holds already s c f cases done = cases.already_over
  cell-holds starting s c f cases done = first-holds (if_empty f) _ _ (test-holds (not f.capture && nat_eq f.queued 0) _ cases.empty)
      (first-holds (if_gone f) _ _ (test-holds f.gone _ cases.gone) (first-holds (if_late f) _ _ (late-holds f cases.late) cases.running))
  cell-holds filling s c f cases done = by_start f.starts
    where
      by_start : (b : Bool) → P (if b then first_outcome (if_gone f ∷ if_late f ∷ []) (done_in Running) else done_in Prepared)
      by_start true = first-holds (if_gone f) (if_late f ∷ []) (done_in Running) (test-holds f.gone _ cases.gone)
          (first-holds (if_late f) [] (done_in Running) (late-holds f cases.late) cases.running)
      by_start false = cases.prepared
  cell-holds moving s c f cases done = moving-holds f cases.gone cases.over cases.late cases.running
  cell-holds draining s c f cases done = draining-holds f c cases.gone cases.late cases.set_up (still-holds c cases.drains cases.drains_on)
  cell-holds resuming s c f cases done = first-holds (if_none_left f) _ _ (test-holds (nat_eq f.queued 0) _ cases.prepared)
      (first-holds (if_gone f) _ _ (test-holds f.gone _ cases.gone) (first-holds (if_late f) _ _ (late-holds f cases.late) cases.running))

  -- so does what a call leads to, where the states that its cell names have it
  pub next_of-holds : (s : State) (c : Call) (f : Facts) → Cases P s f → ((t : State) → call_row f.capture c s ≡ to t → P (done_in t)) → P (next_of s c f)
  next_of-holds s c f cases done = cell-holds (call_row f.capture c s) s c f cases done
