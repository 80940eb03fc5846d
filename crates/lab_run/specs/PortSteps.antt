-- A client's part in a phase, by what it did at a mix port and a gate.
use Rattle.std.specs.Prelude.{◌≡◌, ℕ, ◌+◌, ◌<◌, ◌≤◌, nat_le, true, if◌then◌else◌, List, [], ◌∷◌, Option, Some, None, ◌⊎◌}
use Rattle.snd_base.specs.declared.geometry.Geometry.{Geometry}
use Rattle.snd_base.specs.declared.places.Cursor.{Cursor}
use Rattle.snd_base.specs.Places.{first_free}
use Rattle.mix_core.specs.declared.marks.Marks.{Marks}
use Rattle.mix_core.specs.declared.gate.Pass.{Pass}
use Rattle.mix_core.specs.declared.gate.Pass.TheVariants.{Go, Stop}
use Rattle.mix_core.specs.declared.gate.StepKind.{StepKind}
use Rattle.mix_core.specs.declared.gate.StepKind.TheVariants.{Again, Position}
use Rattle.mix_core.specs.declared.port.MixPort as mixport
use Rattle.mix_core.specs.Laid.{without_last}
use Rattle.mix_core.specs.Marks.{high_frame, is_before, start_of}
use Rattle.mix_core.specs.Port.{IsPast}
use Rattle.course.specs.Course.{Course, Takes}
use Rattle.lab_run.specs.ActorPart.{DoesGet, DoesLay, DoesLoad, Doing, Each}
use Rattle.lab_run.specs.Places.{last_of}
use Rattle.lab_run.specs.Rules.{AtPort, lets_pass, with_asks, with_gate_stop, with_stop}

-- how many of some asks a `die` counts: all but those of kind Again
abbrev pub kind_count : StepKind → ℕ
kind_count Again = 0
kind_count other = 1

abbrev pub ask_count : List StepKind → ℕ
ask_count [] = 0
ask_count (kind ∷ kinds) = kind_count kind + ask_count kinds

-- the kind of the last of some asks
abbrev pub last_kind : List StepKind → StepKind
last_kind [] = Position
last_kind (kind ∷ []) = kind
last_kind (kind ∷ other ∷ kinds) = last_kind (other ∷ kinds)

-- after a stop at an ask of a kind
abbrev pub stop_at : StepKind → AtPort → AtPort
stop_at Again a = with_gate_stop a
stop_at other a = with_stop a

-- what asks that were answered so make of an actor at its port
abbrev pub IsAnswered : List StepKind → Pass → AtPort → AtPort → Type 0
IsAnswered kinds Go a b =
    (lets_pass (ask_count kinds) a.left ≡ true) × (b ≡ with_asks (ask_count kinds) a)
IsAnswered kinds Stop a b =
    (lets_pass (ask_count (without_last kinds)) a.left ≡ true)
    × (b ≡ stop_at (last_kind kinds) (with_asks (ask_count (without_last kinds)) a))

-- an actor at its port, by its gate
abbrev pub with_gate : {T : Type 0} → (T → Option ℕ) → (T → ℕ) → (T → ℕ) → T → AtPort → AtPort
with_gate left by_gate at_gate g a =
    record a { left = left g; by_gate = by_gate g; at_gate = at_gate g }

-- a gate that counts asks down for a `die` in front of an actor's own gate, and that tells how often this one stopped the actor and how
-- often it was asked, but for the asks of kind Again
pub record CountsDown {T : Type 0} (asked : T → T → List StepKind → Pass → Type 0)
    (left : T → Option ℕ) (by_gate at_gate : T → ℕ) : Type 0 where
  pub tells : (g h : T) (kinds : List StepKind) (pass : Pass) (a : AtPort) → asked g h kinds pass
      → IsAnswered kinds pass (with_gate left by_gate at_gate g a)
      (with_gate left by_gate at_gate h a)

-- a cursor isn't past a frame
abbrev pub IsLow : ℕ → Cursor → Type 0
IsLow from at = first_free at 0 ≤ from

-- an actor placed no sample: its own high is still that of a new port, and its port's is where it was before; neither of these nor a floor is past
-- a frame
pub record HasLaidNone (ring : Geometry) (from : ℕ) (before : Cursor)
    (own port : Marks) : Type 0 where
  pub own_high : own.high ≡ start_of ring
  pub port_high : port.high ≡ before
  pub own_low : IsLow from own.high
  pub port_low : IsLow from port.high
  pub own_floor : IsLow from own.floor
  pub port_floor : IsLow from port.floor

-- a sample was placed at a frame or past it, so the high is past both the frame and the ring's first place
pub record IsPastFrame (ring : Geometry) (from : ℕ) (high : Cursor) : Type 0 where
  pub after_start : is_before (start_of ring) high ≡ true
  pub after_frame : from < first_free high 0

-- The marks of an actor, and those of its port, which others may have used before, up to a frame. The actor placed no sample, and the cursors aren't
-- past the frame, or a withdrawal moved both; or it placed a sample.
pub data MarksAlike (ring : Geometry) (from : ℕ) (before : Cursor) (own port : Marks) : Type 0 where
  untouched : HasLaidNone ring from before own port → IsLow from own.cursor → IsLow from port.cursor → MarksAlike ring from before own port
  moved : HasLaidNone ring from before own port → own.cursor ≡ port.cursor → MarksAlike ring from before own port
  laid : own.cursor ≡ port.cursor → own.high ≡ port.high → IsPastFrame ring from own.high
      → (own.floor ≡ port.floor) ⊎ (IsLow from own.floor × IsLow from port.floor) → MarksAlike ring from before own port

-- a last frame that isn't below a frame
abbrev pub last_from : ℕ → Option ℕ → Option ℕ
last_from from None = None
last_from from (Some last) = if nat_le from last then Some last else None

-- the last frame of a port is the one at an opening, unless it was placed since, and so isn't below a frame
abbrev pub IsLastSince : ℕ → Option ℕ → Option ℕ → Type 0
IsLastSince from opening last = last ≡ last_of (last_from from last) opening

-- What is known of the last frames of an actor and of its port where their marks are alike. The port's is the actor's own, or else the one before;
-- the actor's own is the port's, unless that is below the frame. So it stays from phase to phase: from the marks of the port as they are now on, the
-- marks are alike again, and the port's last frame is still the one at the opening, or the actor's own.
pub record HasOwnLast (ring : Geometry) (from : ℕ) (before own port : Marks) : Type 0 where
  pub port_last : high_frame ring port ≡ last_of (high_frame ring own) (high_frame ring before)
  pub own_last : high_frame ring own ≡ last_from from (high_frame ring port)
  pub again : MarksAlike ring from port.high own port
  pub since : (opening : Option ℕ) → IsLastSince from opening (high_frame ring before)
      → IsLastSince from opening (high_frame ring port)

-- An actor at a port, which others used up to a frame, with what it found since a first state of the port. Where it placed no sample yet, the port's
-- high is that of the first state.
pub record IsAtPort {S T : Type 0} (P : mixport.Ghosts S) (left : T → Option ℕ)
    (by_gate at_gate : T → ℕ) (first : S) (ring : Geometry) (from : ℕ) (s : S × T)
    (doing : Doing) : Type 0 where
  pub geometry : (P.view s.0).geometry ≡ ring
  pub after : from ≤ (P.view s.0).seen
  pub seen : doing.0.seen ≤ (P.view s.0).seen
  pub marks : MarksAlike ring from (P.view first).marks.high doing.0.marks (P.view s.0).marks
  pub left_is : doing.0.left ≡ left s.1
  pub by_gate_is : doing.0.by_gate ≡ by_gate s.1
  pub at_gate_is : doing.0.at_gate ≡ at_gate s.1
  pub loads : P.loaded first s.0 doing.1.loads
  pub late : Each (λ (place : ℕ × ℕ). (word : ℕ) × IsPast P.view P.shows s.0 place.0 place.1 word)
      doing.1.late
  pub overtaken : doing.1.overtaken ≡ []

-- a course that was taken at a port and its gate is a part of an actor: one that is like it was done so, from how the actor was to how it is
pub record IsActorPart {S T X Y : Type 0} (P : mixport.Ghosts S) (left : T → Option ℕ)
    (by_gate at_gate : T → ℕ) (first : S) (ring : Geometry) (from : ℕ) (R : X → Y → Type 0)
    (t : S × T) (before : Doing) (n : Course Y) (x : X) : Type 0 where
  pub after : Doing
  pub result : Y
  pub does : Takes DoesLoad (DoesLay ring) (DoesGet ring) before n after result
  pub at : IsAtPort P left by_gate at_gate first ring from t after
  pub alike : R x result
