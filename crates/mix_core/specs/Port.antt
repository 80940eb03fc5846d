-- The single steps of a port, each between two states of port and gate: a load of the position, a placement, a withdrawal.
use Rattle.std.specs.Prelude.{◌≡◌, ℕ, ◌+◌, ◌-◌, ◌/◌, ◌<◌, ◌≤◌, Bool, List, [], ◌∷◌, ◌++◌, length, Option, None, Some, true, IfSome, Result, Ok, Err, ⊤}
use Rattle.std.specs.Option.{option_to_list}
use Rattle.snd_base.specs.declared.errors.PcmError.{PcmError}
use Rattle.snd_base.specs.declared.geometry.Geometry.{Geometry}
use Rattle.snd_base.specs.Places.{IsFrom, IsWithin, lap}
use Rattle.lap_word.specs.Word.{lap_of}
use Rattle.mix_core.specs.declared.gate.Pass.{Pass}
use Rattle.mix_core.specs.declared.gate.Pass.TheVariants.{Go, Stop}
use Rattle.mix_core.specs.declared.gate.StepKind.{StepKind}
use Rattle.mix_core.specs.declared.gate.StepKind.TheVariants as kind
use Rattle.mix_core.specs.declared.marks.Marks.{Marks}
use Rattle.mix_core.specs.declared.port.Ended.{Ended}
use Rattle.mix_core.specs.declared.port.Ended.TheVariants.{Whole, Late, Stopped}
use Rattle.mix_core.specs.declared.port.Entry.{Entry}
use Rattle.mix_core.specs.declared.port.Placed.{Placed}
use Rattle.mix_core.specs.declared.port.Placed.TheVariants as placed
use Rattle.mix_core.specs.declared.port.Position.{Position}
use Rattle.mix_core.specs.Gate.{placement_asks, stops_after}
use Rattle.mix_core.specs.Laid.{marks_after}

-- what is plain of a port
pub record PortView : Type 0 where
  pub geometry : Geometry
  pub member : ℕ
  -- whether it can make placements at all
  pub can_add : Bool
  pub marks : Marks
  -- the greatest position that was seen, or the first frame
  pub seen : ℕ

-- a sample may be placed at a frame and channel: the port can add, the channel is one of the ring's, the frame and channel aren't
-- before the cursor, and the frame is less than the ring's length past the position seen
pub record CanPlace (v : PortView) (f c : ℕ) : Type 0 where
  pub can_add : v.can_add ≡ true
  pub channel : c < v.geometry.channels
  pub from_cursor : IsFrom v.marks.cursor f c
  pub ahead : f < v.seen + v.geometry.frames

-- how a placement or withdrawal ended, by its result: every error is a stop
abbrev pub ended_of : Result Placed PcmError → Ended
ended_of (Ok placed.In) = Whole
ended_of (Ok (placed.Late word)) = Late word
ended_of (Err e) = Stopped

-- the position that was loaded, and none where the load was stopped
abbrev pub load_of : Result Position PcmError → Option Position
load_of (Ok position) = Some position
load_of (Err e) = None

-- a fact of a step that was done, of the word of one that was late, and of a stop
abbrev pub OnWhole : Ended → Type 0 → Type 0
OnWhole Whole P = P
OnWhole (Late word) P = ⊤
OnWhole Stopped P = ⊤

abbrev pub OnLate : Ended → (ℕ → Type 0) → Type 0
OnLate Whole P = ⊤
OnLate (Late word) P = P word
OnLate Stopped P = ⊤

-- what a step placed: its entry where it was done
abbrev pub entry_if : Ended → Entry → List Entry
entry_if Whole e = e ∷ []
entry_if (Late word) e = []
entry_if Stopped e = []

-- the marks after it
abbrev pub marks_if : Ended → Marks → Marks → Marks
marks_if Whole before after = after
marks_if (Late word) before after = before
marks_if Stopped before after = before

-- the answer to the last ask of a step, by what came of it
abbrev pub pass_of_end : Ended → Pass
pass_of_end Whole = Go
pass_of_end (Late word) = Go
pass_of_end Stopped = Stop

abbrev pub pass_of_load : Option Position → Pass
pass_of_load (Some position) = Go
pass_of_load None = Stop

-- the position seen after a load
abbrev pub seen_after : Option Position → ℕ → ℕ
seen_after None before = before
seen_after (Some position) before = position.frame

-- positions that never fall, from a frame on, and the last of them
abbrev pub AreRisingFrom : ℕ → List Position → Type 0
AreRisingFrom d [] = ⊤
AreRisingFrom d (p ∷ ps) = (d ≤ p.frame) × AreRisingFrom p.frame ps

abbrev pub last_frame : ℕ → List Position → ℕ
last_frame d [] = d
last_frame d (p ∷ ps) = last_frame p.frame ps

-- one word is not before another, by lap and then by count
abbrev pub IsNotBefore : ℕ → ℕ → Type 0
IsNotBefore earlier later = earlier / 16777216 ≤ later / 16777216

-- a port shows, at a frame and channel, a word that is not before one
pub record ShowsFrom {S : Type 0} (shows : S → ℕ → ℕ → Option ℕ) (p : S) (f c word : ℕ) : Type 0 where
  pub now : ℕ
  pub shown : shows p f c ≡ Some now
  pub not_before : IsNotBefore word now

-- a word is shown at a frame and channel of the ring, and its lap is past the frame's
pub record IsPast {S : Type 0} (view : S → PortView) (shows : S → ℕ → ℕ → Option ℕ) (p : S) (f c word : ℕ) : Type 0 where
  pub channel : c < (view p).geometry.channels
  pub shown : shows p f c ≡ Some word
  pub past : lap (view p).geometry f < lap_of word

-- nothing was done
pub record Stays {S : Type 0} (view : S → PortView) (laid : S → S → List Entry → Type 0) (loaded : S → S → List Position → Type 0) (p q : S) : Type 0 where
  pub view_is : view q ≡ view p
  pub laid_nothing : laid p q []
  pub loaded_nothing : loaded p q []

-- a load of the position: one ask, and the position found, or none where the gate stopped it
pub record Loads {S T : Type 0} (view : S → PortView) (laid : S → S → List Entry → Type 0) (loaded : S → S → List Position → Type 0)
    (stops : T → ℕ) (asked : T → T → List StepKind → Pass → Type 0) (p : S) (g : T) (load : Option Position) (q : S) (h : T) : Type 0 where
  pub view_is : view q ≡ record (view p) { seen = seen_after load (view p).seen }
  pub newer : IfSome load (λ position. (view p).seen ≤ position.frame)
  pub within : IfSome load (λ position. IsWithin (view p).geometry position.frame)
  pub loaded_it : loaded p q (option_to_list load)
  pub laid_nothing : laid p q []
  pub asked_it : asked g h (kind.Position ∷ []) (pass_of_load load)
  pub stopped : stops h ≡ stops_after (pass_of_load load) (stops g)

-- how many asks a placement or withdrawal makes: a look and an exchange at least where it was done; one at most where the frame
-- is before the position seen, since the look finds the later lap then
abbrev pub IsAskNumber : Ended → ℕ → ℕ → ℕ → Type 0
IsAskNumber Whole frame seen n = 2 ≤ n
IsAskNumber (Late word) frame seen n = (1 ≤ n) × (frame < seen → n ≡ 1)
IsAskNumber Stopped frame seen n = (1 ≤ n) × (frame < seen → n ≡ 1)

-- how many words it found: each look finds one, and each exchange that is lost; a step that was stopped wasn't made
abbrev pub word_number : Ended → ℕ → ℕ
word_number Whole n = n - 1
word_number (Late word) n = n
word_number Stopped n = n - 1

-- the last of some words
abbrev pub IsLastWord : List ℕ → ℕ → Type 0
IsLastWord words word = (early : List ℕ) × (words ≡ early ++ word ∷ [])

-- a placement or withdrawal of one entry: its asks, the words that it found, and what came of it
pub record Lays {S T : Type 0} (view : S → PortView) (laid : S → S → List Entry → Type 0) (loaded : S → S → List Position → Type 0)
    (shows : S → ℕ → ℕ → Option ℕ) (finds : S → S → Entry → Ended → List ℕ → Type 0)
    (stops : T → ℕ) (asked : T → T → List StepKind → Pass → Type 0) (p : S) (g : T) (e : Entry) (ended : Ended) (q : S) (h : T) : Type 0 where
  pub view_is : view q ≡ record (view p) { marks = marks_if ended (view p).marks (marks_after (view p).geometry (view p).marks e) }
  pub laid_it : laid p q (entry_if ended e)
  pub loaded_nothing : loaded p q []
  pub not_before_seen : OnWhole ended ((view p).seen ≤ e.frame)
  -- the word of a later lap was found in this step, and is shown
  pub shown : OnLate ended (λ word. IsPast view shows q e.frame e.channel word)
  pub words : List ℕ
  pub found : finds p q e ended words
  pub found_last : OnLate ended (λ word. IsLastWord words word)
  pub asks : ℕ
  pub asks_number : IsAskNumber ended e.frame (view p).seen asks
  pub words_number : length words ≡ word_number ended asks
  pub asked_them : asked g h (placement_asks asks) (pass_of_end ended)
  pub stopped : stops h ≡ stops_after (pass_of_end ended) (stops g)
