-- Why a rewind answered an error: by the position that it loaded, and by where its withdrawals ended.
use Rattle.std.specs.Prelude.{◌≡◌, ℕ, ℤ, List, [], Option, Result}
use Rattle.std.specs.Option.{option_to_list}
use Rattle.snd_base.specs.declared.errors.PcmError.{PcmError}
use Rattle.snd_base.specs.declared.places.Cursor.{Cursor}
use Rattle.mix_core.specs.declared.gate.Gate as gates
use Rattle.mix_core.specs.declared.port.MixPort as mixport
use Rattle.mix_core.specs.declared.port.Position.{Position}
use Rattle.mix_core.specs.Port.{IsPast, PortView}
use Rattle.course.specs.AtPort.{TakesAt}
use Rattle.pcm_states.specs.declared.calls.Call.TheVariants as call
use Rattle.dmix_client.specs.declared.stream.PlaybackStream.{PlaybackStream}
use Rattle.dmix_client.specs.Calls.{Answered, after_sync}
use Rattle.dmix_client.specs.Causes.{IsCaused, IsCausedBy}
use Rattle.dmix_client.specs.Course.{nothing}
use Rattle.dmix_client.specs.Rewind.{last_channel, last_laid, rewind_on}

-- a frame and channel are the last of a client's segment in which it has a sample, and the port shows that they were taken
pub record IsLastPast {S : Type 0} (view : S → PortView) (shows : S → ℕ → ℕ → Option ℕ) (q : S)
    (d : PlaybackStream) (frame channel word : ℕ) : Type 0 where
  pub frame_is : frame ≡ last_laid d
  pub channel_is : channel ≡ last_channel d
  pub past : IsPast view shows q frame channel word

-- why a rewind of a client `c`, which loaded a position unless the gate stopped it before and left the client as `d`, answered so
abbrev pub IsKeptCause : {S X : Type 0} → (S → PortView) → (S → ℕ → ℕ → Option ℕ) → S
    → PlaybackStream → PlaybackStream → Option Position → Result X PcmError → Type 0
IsKeptCause view shows q c d load answer = IsCausedBy (IsLastPast view shows q d) c load answer

-- what a load did after which nothing is committed, and why the call answered so by its position
pub record ExplainsCheck {S T X : Type 0} (P : mixport.Ghosts S) (G : gates.Ghosts T) (s t : S × T)
    (c : PlaybackStream) (call : Option Position → Answered X) (done : Answered X) : Type 0 where
  pub load : Option Position
  pub loaded_it : P.loaded s.0 t.0 (option_to_list load)
  pub laid_nothing : P.laid s.0 t.0 []
  pub outcome : call load ≡ done
  pub why : IsCaused P.view P.shows t.0 c done.0 load done.1

-- a rewind of n frames of a stream that runs: its load, what followed it, and why it answered so by the position that was loaded
pub record ExplainsRewind {S T : Type 0} (P : mixport.Ghosts S) (G : gates.Ghosts T) (s t : S × T)
    (c : PlaybackStream) (ring : List ℤ) (floor : Cursor) (n : ℕ) (done : Answered ℕ) : Type 0 where
  pub between : S × T
  pub middle : Answered (Unit {0})
  pub first : ExplainsCheck P G s between c (λ load. after_sync c call.Transfer load nothing) middle
  pub rest : TakesAt P G between (rewind_on floor ring n middle) t done
  pub loaded_nothing : P.loaded between.0 t.0 []
  pub why : IsKeptCause P.view P.shows t.0 c done.0 first.load done.1
