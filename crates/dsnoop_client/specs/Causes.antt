-- Why a call that took steps answered an error: by the position that it loaded, and by where its frames ended.
use Rattle.std.specs.Prelude.{◌≡◌, ℕ, ◌-◌, ◌<◌, ◌≤◌, ◌↔◌, false, true, Option, None, Some, IfErr, IfNone, IfSome, Result, Err, ⊤, unwrap_or}
use Rattle.std.specs.Option.{option_to_list}
use Rattle.snd_base.specs.declared.errors.PcmError.{PcmError}
use Rattle.snd_base.specs.declared.errors.PcmError.TheVariants.{Again, NoDevice, Stopped, Xrun}
use Rattle.snd_base.specs.declared.errors.XrunWhy.TheVariants.{Avail, Overtaken}
use Rattle.mix_core.specs.declared.port.Position.{Position}
use Rattle.pcm_states.specs.declared.states.State.TheVariants.{Running}
use Rattle.snoop_core.specs.declared.port.SnoopPort as snoopport
use Rattle.snoop_core.specs.Port.{IsPast}
use Rattle.dsnoop_client.specs.declared.stream.CaptureStream.{CaptureStream}

-- a position was loaded, and it says that the card is gone
abbrev pub IsGone : Option Position → Type 0
IsGone None = ⊥
IsGone (Some position) = position.gone ≡ true

-- a reader in RUNNING had so many frames available at the position loaded, a frame number, and its stop threshold says no more
abbrev pub Reaches : CaptureStream → Option Position → ℕ → ℕ → Type 0
Reaches c None avail frame = ⊥
Reaches c (Some position) avail frame =
    (position.gone ≡ false) × (c.status.state ≡ Running) × (c.setup.params.stop_threshold ≤ avail)
    × (avail ≡ position.frame - c.next) × (frame ≡ position.frame)

-- a reader found no frame at the position loaded: it started there, or has read all before it
abbrev pub FindsNone : CaptureStream → Option Position → Type 0
FindsNone c None = ⊥
FindsNone c (Some position) =
    (position.gone ≡ false) × (c.status.state ≡ Running → position.frame ≡ c.next)

-- a frame is one that the reader has not read, and the port shows that a later one was stored over it
pub record IsMissed {S : Type 0} (P : snoopport.Ghosts S) (q : S) (d : CaptureStream)
    (frame channel word : ℕ) : Type 0 where
  pub unread : d.next ≤ frame
  pub captured : frame < unwrap_or d.seen 0
  pub past : IsPast P.view P.shows q frame channel word

-- the errors that a call can find in its steps, once it was admitted
abbrev pub IsOfSteps : PcmError → Type 0
IsOfSteps NoDevice = ⊤
IsOfSteps Stopped = ⊤
IsOfSteps Again = ⊤
IsOfSteps (Xrun (Avail avail seen)) = ⊤
IsOfSteps (Xrun (Overtaken frame channel seen)) = ⊤
IsOfSteps other = ⊥

-- why a call of a reader `c`, which left it as `d`, answered so: it loaded one position, unless the gate stopped it before that
pub record Explains {S X : Type 0} (P : snoopport.Ghosts S) (p q : S)
    (c d : CaptureStream) (answer : Result X PcmError) : Type 0 where
  pub load : Option Position
  pub loaded_it : P.loaded p q (option_to_list load)
  pub unless_stopped : IfNone load (answer ≡ Err Stopped)
  pub saw : IfSome load (λ position. d.seen ≡ Some position.frame)
  pub of_steps : IfErr answer IsOfSteps
  pub no_device : (answer ≡ Err NoDevice) ↔ IsGone load
  pub reached : (avail frame : ℕ)
      → (answer ≡ Err (Xrun (Avail avail frame))) ↔ Reaches c load avail frame
  pub overtaken : (frame channel word : ℕ) → answer ≡ Err (Xrun (Overtaken frame channel word))
      → IsMissed P q d frame channel word

-- the same of a read of n frames, and that it is to be made again exactly where there are frames to read and it found none
pub record ExplainsRead {S : Type 0} (P : snoopport.Ghosts S) (p q : S)
    (c d : CaptureStream) (n : ℕ) (answer : Result ℕ PcmError) : Type 0 where
  pub why : Explains P p q c d answer
  pub again : (answer ≡ Err Again) ↔ ((0 < n) × FindsNone c why.load)
