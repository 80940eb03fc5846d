-- What a read gives: captured frames, each through the reader's bindings.
use Rattle.std.specs.Prelude.{◌≡◌, ℕ, ◌+◌, ◌*◌, ℤ, pos, List, ◌++◌, All, drop, length, map, slice_index_or, IfOk, Result, Ok, Err}
use Rattle.std.specs.List.{flat_map, range_with_len}
use Rattle.snd_base.specs.declared.errors.PcmError.{PcmError}
use Rattle.pcm_states.specs.declared.states.State.TheVariants.{Running}
use Rattle.snoop_core.specs.declared.port.Frame.{Frame}
use Rattle.snoop_core.specs.declared.port.Got.{Got}
use Rattle.snoop_core.specs.declared.port.SnoopPort as snoopport
use Rattle.snoop_core.specs.Port.{OnGot}
use Rattle.dsnoop_client.specs.declared.stream.CaptureStream.{CaptureStream}

-- a frame through bindings: for each of the reader's channels the sample of the card channel that it is bound to
abbrev pub bound_samples : List ℕ → List ℤ → List ℤ
bound_samples bindings samples = map (λ channel. slice_index_or samples channel (pos 0)) bindings

-- frames through bindings, interleaved
abbrev pub through_all : List ℕ → List Frame → List ℤ
through_all bindings frames = flat_map (λ (frame : Frame). bound_samples bindings frame.samples) frames

-- frames one after the other, from a number on, each with all its channels
pub record AreFrames (frames : List Frame) (first channels : ℕ) : Type 0 where
  pub numbers : map (λ (frame : Frame). frame.number) frames ≡ range_with_len first (length frames)
  pub whole : All (λ (frame : Frame). length frame.samples ≡ channels) frames

-- a port got so many frames from a first one on, and where the last load ended well, these are the first of some samples
pub record Fills {S : Type 0} (P : snoopport.Ghosts S) (p q : S) (bindings : List ℕ)
    (first done : ℕ) (ended : Got) (before after : List ℤ) : Type 0 where
  pub frames : List Frame
  pub got_them : P.got p q frames
  pub are : AreFrames frames first (P.view p).geometry.channels
  pub count : length frames ≡ done
  pub samples : OnGot ended
      (after ≡ through_all bindings frames ++ drop (done * length bindings) before)

-- how many frames an answer counts
abbrev pub count_of_answer : {X : Type 0} → Result ℕ X → ℕ
count_of_answer (Ok n) = n
count_of_answer (Err e) = 0

-- what a read answers: the frames that its port got, one after the other from a first one on, are the samples that it gives, through
-- the bindings, and the rest of the room is as it was; only a read that is Ok counts frames, and the reader's next frame is after
-- those; the first is the next frame of a reader that runs
pub record GivesFrames {S : Type 0} (P : snoopport.Ghosts S) (p q : S) (c d : CaptureStream)
    (before after : List ℤ) (answer : Result ℕ PcmError) : Type 0 where
  pub first : ℕ
  pub begins : c.status.state ≡ Running → first ≡ c.next
  pub next_is : d.next ≡ first + count_of_answer answer
  pub frames : List Frame
  pub got_them : P.got p q frames
  pub are : AreFrames frames first c.geometry.channels
  pub count : IfOk answer (λ n. length frames ≡ n)
  pub samples : IfOk answer (λ n. after ≡ through_all c.setup.bindings frames
      ++ drop (n * length c.setup.bindings) before)
