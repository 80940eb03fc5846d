-- What a turn loads and gets: its core is a value behind a reference, which no call of the turn changes.
use Rattle.std.specs.Prelude.{◌≡◌, ◌<◌, ◌≤◌, ◌+◌, ℕ, Option, Some, List, All, ℤ}
use Rattle.std.specs.Borrow.{MutBor}
use Rattle.mix_core.specs.declared.port.Position.{Position}
use Rattle.snoop_core.specs.declared.port.Frame.{Frame}
use Rattle.snoop_core.specs.declared.port.Got.{Got}
use Rattle.snoop_core.specs.declared.turn.SnoopTurn.{SnoopTurn}
use Rattle.snoop_core.specs.Port.{OnGot, OnOvertaken, SnoopView}
use Rattle.snoop_core.specs.Stored.{IsCaptured}
use Rattle.snoop_core.specs.View.{Represents, SnoopCoreView, geometry_of, next_frame, word_at}

-- the core of a turn, as it is now
abbrev pub core_of : SnoopTurn → SnoopCoreView
core_of t = t.core.now

-- the turn holds the core that a reference borrows
abbrev pub HoldsCore : SnoopTurn → MutBor SnoopCoreView → Type 0
HoldsCore t core = t.core.ghost_name ≡ core.ghost_name

-- what is plain of a turn: the position that it has seen is the core's
abbrev pub view_of_turn : SnoopTurn → SnoopView
view_of_turn t = record { geometry = t.core.now.ring.geometry; seen = t.core.now.position }

-- the word that the core has at a frame and channel
abbrev pub word_of_turn : SnoopTurn → ℕ → ℕ → Option ℕ
word_of_turn t f c = Some (word_at t.core.now f c)

-- a later state of a turn, whose core is as it was
pub record IsSame (t u : SnoopTurn) : Type 0 where
  pub same_core : u.core.ghost_name ≡ t.core.ghost_name
  pub core : core_of u ≡ core_of t

-- a turn loaded some positions: each is the core's, with its gone bit
pub record TurnLoaded (t u : SnoopTurn) (ps : List Position) : Type 0 where
  pub same : IsSame t u
  pub each : All (λ (p : Position). (p.frame ≡ (core_of t).position) × (p.gone ≡ (core_of t).gone)) ps

-- a turn got some frames: each is the stored one of its number, in each list that the core represents
pub record TurnGot (t u : SnoopTurn) (fs : List Frame) : Type 0 where
  pub same : IsSame t u
  pub each : All (λ (f : Frame). (xs : List ℤ) → Represents (core_of t) xs → IsCaptured (geometry_of (core_of t)) xs f) fs

-- what a turn finds where it is to load a frame: it gets the frame only where the one a ring's length later isn't stored, and is
-- overtaken only where it is, and then at the first channel
pub record TurnFinds (t u : SnoopTurn) (f : ℕ) (end : Got) : Type 0 where
  pub in_time : OnGot end (next_frame (core_of t) ≤ f + (geometry_of (core_of t)).frames)
  pub late : OnOvertaken end (λ channel word. f + (geometry_of (core_of t)).frames < next_frame (core_of t))
  pub first : OnOvertaken end (λ channel word. channel ≡ 0)
