-- Where the samples of frames are in a buffer, and what a change of some frames leaves as it was.
use Rattle.std.specs.Prelude.{◌≡◌, ◌≢◌, ℕ, ◌+◌, ◌*◌, ◌<◌, ◌≤◌, if◌then◌else◌, List, Some, ℤ, pos, slice_get}
use Rattle.pcm_format.specs.declared.areas.Areas.{Areas}

-- the index of a frame's sample: frame by frame, or channel by channel
abbrev pub place_of : Areas → ℕ → ℕ → ℕ
place_of areas frame channel =
    if areas.interleaved then frame * areas.channels + channel else channel * areas.frames + frame

-- a buffer of so many samples has every sample of a frame
abbrev pub HoldsFrame : Areas → ℕ → ℕ → Type 0
HoldsFrame areas samples frame = (c : ℕ) → c < areas.channels → place_of areas frame c < samples

-- a buffer of so many samples has `count` frames from `first` on
pub record HoldsRange (areas : Areas) (samples first count : ℕ) : Type 0 where
  pub within : first + count ≤ areas.frames
  pub places : (i : ℕ) → i < count → HoldsFrame areas samples (first + i)

-- a frame of one buffer is a frame of another
abbrev pub SameFrame : List ℤ → Areas → ℕ → List ℤ → Areas → ℕ → Type 0
SameFrame from from_areas f to to_areas g =
    (c : ℕ) → c < from_areas.channels → slice_get to (place_of to_areas g c) ≡ slice_get from (place_of from_areas f c)

-- `count` frames of one buffer, from `first` on, are those of another, from `at` on
abbrev pub SameFrames : List ℤ → Areas → ℕ → List ℤ → Areas → ℕ → ℕ → Type 0
SameFrames from from_areas first to to_areas at count =
    (i : ℕ) → i < count → SameFrame from from_areas (first + i) to to_areas (at + i)

-- a frame is zeros
abbrev pub IsSilent : List ℤ → Areas → ℕ → Type 0
IsSilent samples areas frame =
    (c : ℕ) → c < areas.channels → slice_get samples (place_of areas frame c) ≡ Some (pos 0)

-- `count` frames from `at` on are zeros
abbrev pub AreSilent : List ℤ → Areas → ℕ → ℕ → Type 0
AreSilent samples areas at count = (i : ℕ) → i < count → IsSilent samples areas (at + i)

-- an index that is no place of a frame
abbrev pub IsOutsideFrame : Areas → ℕ → ℕ → Type 0
IsOutsideFrame areas frame k = (c : ℕ) → c < areas.channels → k ≢ place_of areas frame c

-- an index that is no place of `count` frames from `at` on
abbrev pub IsOutside : Areas → ℕ → ℕ → ℕ → Type 0
IsOutside areas at count k = (i : ℕ) → i < count → IsOutsideFrame areas (at + i) k

-- outside a frame nothing has changed
abbrev pub ChangesOnlyFrame : Areas → ℕ → List ℤ → List ℤ → Type 0
ChangesOnlyFrame areas frame old new = (k : ℕ) → IsOutsideFrame areas frame k → slice_get new k ≡ slice_get old k

-- outside `count` frames from `at` on nothing has changed
abbrev pub ChangesOnly : Areas → ℕ → ℕ → List ℤ → List ℤ → Type 0
ChangesOnly areas at count old new = (k : ℕ) → IsOutside areas at count k → slice_get new k ≡ slice_get old k
