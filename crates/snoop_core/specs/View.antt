-- What contracts see of a core: its ring's words and geometry, and how far the card has stored and published.
use Rattle.std.specs.Prelude.{◌≡◌, ℕ, ◌+◌, ◌≤◌, Bool, true, false, List, [], ◌++◌, ℤ}
use Rattle.snd_base.specs.declared.geometry.Geometry.{Geometry}
use Rattle.snd_base.specs.Places.{first_frame, lap}
use Rattle.snoop_core.specs.Ring.{HoldsSamples, IsSoundRing, RingView, ring_word}
use Rattle.snoop_core.specs.Stored.{sample_at}
use Rattle.snoop_core.specs.StoredLaws.{IsByLaps}
use Rattle.snoop_core.specs.Word.{laps_of, sample_of}

-- a core: its ring, the position that was published last, and whether the card is gone
pub record SnoopCoreView : Type 0 where
  pub ring : RingView
  pub position : ℕ
  pub gone : Bool

abbrev pub geometry_of : SnoopCoreView → Geometry
geometry_of v = v.ring.geometry

-- the frame that is stored next: each frame before it was stored
abbrev pub next_frame : SnoopCoreView → ℕ
next_frame v = v.ring.next.frame

-- the word of a frame's slot and a channel
abbrev pub word_at : SnoopCoreView → ℕ → ℕ → ℕ
word_at v f c = ring_word v.ring f c

-- what is true of every core, whatever it represents
pub record IsSoundSnoop (v : SnoopCoreView) : Type 0 where
  pub ring_sound : IsSoundRing v.ring
  pub whole : v.ring.next.channel ≡ 0
  pub position_least : first_frame v.ring.geometry ≤ v.position
  pub position_most : v.position ≤ v.ring.next.frame

-- a core represents a list of samples: whole frames, one after the other, of which it holds the last ones
abbrev pub Represents : SnoopCoreView → List ℤ → Type 0
Represents v xs = HoldsSamples v.ring xs

-- a core of a geometry in which nothing was stored
pub record IsNew (v : SnoopCoreView) (g : Geometry) : Type 0 where
  pub geometry : geometry_of v ≡ g
  pub next : next_frame v ≡ first_frame g
  pub at_first : v.position ≡ first_frame g
  pub there : v.gone ≡ false
  pub represents : Represents v []

-- the next frame was stored
pub record IsStored (v w : SnoopCoreView) (frame : List ℤ) : Type 0 where
  pub geometry : geometry_of w ≡ geometry_of v
  pub next : next_frame w ≡ next_frame v + 1
  pub same_position : w.position ≡ v.position
  pub same_gone : w.gone ≡ v.gone
  pub represents : (xs : List ℤ) → Represents v xs → Represents w (xs ++ frame)

-- the position became the number of the first frame that is not stored
abbrev pub IsPublished : SnoopCoreView → SnoopCoreView → Type 0
IsPublished v w = w ≡ record v { position = next_frame v }

-- the card is gone
abbrev pub IsUnplugged : SnoopCoreView → SnoopCoreView → Type 0
IsUnplugged v w = w ≡ record v { gone = true }

-- the word of a published frame's slot and a channel, and what it says: by its laps whether the frame was stored over, and else
-- the frame's sample
pub record IsFoundWord (v : SnoopCoreView) (f c word : ℕ) : Type 0 where
  pub published : v.position ≤ next_frame v
  pub whole : v.ring.next.channel ≡ 0
  pub shown : word_at v f c ≡ word
  pub by_laps : IsByLaps (geometry_of v) v.ring.next word f c
  pub sample : laps_of word ≡ lap (geometry_of v) f + 1 → (xs : List ℤ) → Represents v xs → sample_of word ≡ sample_at (geometry_of v) xs f c
