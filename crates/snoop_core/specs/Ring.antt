-- What contracts see of the words of a ring with one owner, and which samples they represent.
use Rattle.std.specs.Prelude.{◌≡◌, ℕ, ◌+◌, ◌*◌, ◌<◌, List, [], ◌∷◌, ◌++◌, length, slice_index, ℤ, nat_lt, if◌then◌else◌}
use Rattle.snd_base.specs.declared.geometry.Geometry.{Geometry}
use Rattle.snd_base.specs.declared.places.Cursor.{Cursor}
use Rattle.snd_base.specs.Places.{IsWithin, cursor_after, first_frame, word_index}
use Rattle.snoop_core.specs.Stored.{HaveLaps, HoldLast, next_after_stored}

-- a ring: its geometry, the words slot by slot, and the frame and channel that are stored next
pub record RingView : Type 0 where
  pub geometry : Geometry
  pub words : List ℕ
  pub next : Cursor

-- the word of a frame's slot and a channel
abbrev pub word_in : Geometry → List ℕ → ℕ → ℕ → ℕ
word_in g words f c = slice_index words (word_index g f c)

abbrev pub ring_word : RingView → ℕ → ℕ → ℕ
ring_word v f c = word_in v.geometry v.words f c

-- what is true of every ring, whatever was stored in it
pub record IsSoundRing (v : RingView) : Type 0 where
  pub room : length v.words ≡ v.geometry.frames * v.geometry.channels
  pub next_channel : v.next.channel < v.geometry.channels
  pub next_within : IsWithin v.geometry v.next.frame
  pub laps : HaveLaps v.geometry v.next (ring_word v)

-- a ring holds the last of some samples, which were stored in it
pub record HoldsSamples (v : RingView) (xs : List ℤ) : Type 0 where
  pub next : v.next ≡ next_after_stored v.geometry xs
  pub words : HoldLast v.geometry (ring_word v) xs

-- a ring in which nothing is stored
pub record IsNewRing (v : RingView) (g : Geometry) : Type 0 where
  pub geometry : v.geometry ≡ g
  pub next : v.next ≡ record { frame = first_frame g; channel = 0 }
  pub sound : IsSoundRing v
  pub holds : HoldsSamples v []

-- the next sample was stored
pub record IsSampleStored (v w : RingView) (x : ℤ) : Type 0 where
  pub geometry : w.geometry ≡ v.geometry
  pub next : w.next ≡ cursor_after v.geometry v.next.frame v.next.channel
  pub sound : IsSoundRing w
  pub holds : (xs : List ℤ) → HoldsSamples v xs → HoldsSamples w (xs ++ x ∷ [])

-- the place after some samples of a frame
abbrev pub after_samples : Geometry → ℕ → ℕ → Cursor
after_samples g f n = if nat_lt n g.channels then record { frame = f; channel = n } else record { frame = f + 1; channel = 0 }

-- some samples of the next frame were stored
pub record ArePartStored (v w : RingView) (xs : List ℤ) : Type 0 where
  pub geometry : w.geometry ≡ v.geometry
  pub next : w.next ≡ after_samples v.geometry v.next.frame (length xs)
  pub sound : IsSoundRing w
  pub holds : (early : List ℤ) → HoldsSamples v early → HoldsSamples w (early ++ xs)

-- the next frame was stored
pub record IsFrameStored (v w : RingView) (xs : List ℤ) : Type 0 where
  pub geometry : w.geometry ≡ v.geometry
  pub next : w.next ≡ record { frame = v.next.frame + 1; channel = 0 }
  pub sound : IsSoundRing w
  pub holds : (early : List ℤ) → HoldsSamples v early → HoldsSamples w (early ++ xs)
