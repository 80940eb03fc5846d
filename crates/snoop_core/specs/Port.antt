-- The single steps of a port, each between two states of port and gate: a load of the position, and the load of a captured frame.
use Rattle.std.specs.Prelude.{◌≡◌, ℕ, ◌+◌, ◌<◌, ◌≤◌, List, [], ◌∷◌, length, Option, Some, IfSome, Result, Ok, Err, ℤ, replicate, ⊤}
use Rattle.std.specs.Option.{option_to_list}
use Rattle.snd_base.specs.declared.errors.PcmError.{PcmError}
use Rattle.snd_base.specs.declared.geometry.Geometry.{Geometry}
use Rattle.snd_base.specs.Places.{IsWithin, first_frame, lap}
use Rattle.mix_core.specs.declared.gate.Pass.{Pass}
use Rattle.mix_core.specs.declared.gate.Pass.TheVariants.{Go, Stop}
use Rattle.mix_core.specs.declared.gate.StepKind.{StepKind}
use Rattle.mix_core.specs.declared.gate.StepKind.TheVariants as kind
use Rattle.mix_core.specs.declared.port.Position.{Position}
use Rattle.mix_core.specs.Gate.{stops_after}
use Rattle.mix_core.specs.Port.{pass_of_load, seen_after}
use Rattle.snoop_core.specs.declared.port.Frame.{Frame}
use Rattle.snoop_core.specs.declared.port.Got.{Got}
use Rattle.snoop_core.specs.declared.port.Got.TheVariants.{Whole, Overtaken, Stopped}
use Rattle.snoop_core.specs.declared.port.Loaded.{Loaded}
use Rattle.snoop_core.specs.declared.port.Loaded.TheVariants as loaded
use Rattle.snoop_core.specs.Word.{laps_of}

-- what is plain of a port
pub record SnoopView : Type 0 where
  pub geometry : Geometry
  -- the greatest position that was seen, or the first frame
  pub seen : ℕ

-- a frame may be loaded into room for so many samples: it was captured, as far as the port has seen, and there is one sample for
-- each channel
pub record CanLoad (v : SnoopView) (frame room : ℕ) : Type 0 where
  pub least : first_frame v.geometry ≤ frame
  pub stored : frame < v.seen
  pub room_is : room ≡ v.geometry.channels

-- what came of the load of a frame, by its result: every error is a stop
abbrev pub got_of : Result Loaded PcmError → Got
got_of (Ok loaded.Got) = Whole
got_of (Ok (loaded.Overtaken channel word)) = Overtaken channel word
got_of (Err e) = Stopped

-- the frame of a number and its samples
abbrev pub numbered_frame : ℕ → List ℤ → Frame
numbered_frame n xs = record { number = n; samples = xs }

-- a fact of a load that got the frame, and of the channel and word of one that was overtaken
abbrev pub OnGot : Got → Type 0 → Type 0
OnGot Whole P = P
OnGot (Overtaken channel word) P = ⊤
OnGot Stopped P = ⊤

abbrev pub OnOvertaken : Got → (ℕ → ℕ → Type 0) → Type 0
OnOvertaken Whole P = ⊤
OnOvertaken (Overtaken channel word) P = P channel word
OnOvertaken Stopped P = ⊤

-- what a load got: its frame where it was loaded whole
abbrev pub frame_if : Got → Frame → List Frame
frame_if Whole frame = frame ∷ []
frame_if (Overtaken channel word) frame = []
frame_if Stopped frame = []

-- the answer to the last ask of a load, by what came of it
abbrev pub pass_of_got : Got → Pass
pass_of_got Whole = Go
pass_of_got (Overtaken channel word) = Go
pass_of_got Stopped = Stop

-- a port shows, at a frame and channel, a word whose lap is not before that of a word
pub record ShowsFrom {S : Type 0} (shows : S → ℕ → ℕ → Option ℕ) (p : S) (f c word : ℕ) : Type 0 where
  pub now : ℕ
  pub shown : shows p f c ≡ Some now
  pub not_before : laps_of word ≤ laps_of now

-- a word is shown at a frame and channel of the ring, and its lap is past the frame's
pub record IsPast {S : Type 0} (view : S → SnoopView) (shows : S → ℕ → ℕ → Option ℕ) (p : S) (f c word : ℕ) : Type 0 where
  pub channel : c < (view p).geometry.channels
  pub shown : shows p f c ≡ Some word
  pub past : lap (view p).geometry f + 1 < laps_of word

-- a load of the position: one ask, and the position found, or none where the gate stopped it
pub record LoadsPosition {S T : Type 0} (view : S → SnoopView) (loaded : S → S → List Position → Type 0) (got : S → S → List Frame → Type 0)
    (stops : T → ℕ) (asked : T → T → List StepKind → Pass → Type 0) (p : S) (g : T) (load : Option Position) (q : S) (h : T) : Type 0 where
  pub view_is : view q ≡ record (view p) { seen = seen_after load (view p).seen }
  pub newer : IfSome load (λ position. (view p).seen ≤ position.frame)
  pub within : IfSome load (λ position. IsWithin (view p).geometry position.frame)
  pub loaded_it : loaded p q (option_to_list load)
  pub got_nothing : got p q []
  pub asked_it : asked g h (kind.Position ∷ []) (pass_of_load load)
  pub stopped : stops h ≡ stops_after (pass_of_load load) (stops g)

-- how many channels a load asked for: all of the frame's where it was got, those up to the one where it was overtaken, and one at
-- least where it was stopped
abbrev pub IsAskNumber : Got → ℕ → ℕ → Type 0
IsAskNumber Whole channels n = n ≡ channels
IsAskNumber (Overtaken channel word) channels n = n ≡ channel + 1
IsAskNumber Stopped channels n = (1 ≤ n) × (n ≤ channels)

-- a load that was overtaken at the first channel, or stopped there
abbrev pub IsAtOnce : Got → ℕ → Type 0
IsAtOnce Whole n = ⊥
IsAtOnce (Overtaken channel word) n = (channel ≡ 0) × (n ≡ 1)
IsAtOnce Stopped n = n ≡ 1

-- the load of a captured frame, whose samples were loaded where it was got: its asks, and what came of it
pub record Gets {S T : Type 0} (view : S → SnoopView) (shows : S → ℕ → ℕ → Option ℕ)
    (loaded : S → S → List Position → Type 0) (got : S → S → List Frame → Type 0) (finds : S → S → ℕ → Got → Type 0)
    (stops : T → ℕ) (asked : T → T → List StepKind → Pass → Type 0) (p : S) (g : T) (frame : Frame) (end : Got) (q : S) (h : T) : Type 0 where
  pub view_is : view q ≡ view p
  pub got_it : got p q (frame_if end frame)
  pub loaded_nothing : loaded p q []
  pub size : length frame.samples ≡ (view p).geometry.channels
  -- the word of a later lap is shown
  pub overtaken : OnOvertaken end (λ channel word. IsPast view shows q frame.number channel word)
  pub found : finds p q frame.number end
  pub asks : ℕ
  pub asks_number : IsAskNumber end (view p).geometry.channels asks
  -- a frame that is more than the ring's length before the position seen is overtaken at once
  pub at_once : frame.number + (view p).geometry.frames < (view p).seen → IsAtOnce end asks
  pub asked_them : asked g h (replicate asks kind.Look) (pass_of_got end)
  pub stopped : stops h ≡ stops_after (pass_of_got end) (stops g)
