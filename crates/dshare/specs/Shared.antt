-- What is kept of a history.
use Rattle.std.specs.Prelude.{◌≡◌, ℕ, ◌<◌, ◌≤◌, All, Bool, false, List, [], ◌∷◌, length, Option, None, slice_index_or, slice_set, is_some, IsTrue}
use Rattle.dshare.specs.Owners.{ClaimRow, greatest, last_frames, later, owner_of}

-- how many channels the card has, and for each whether it is owned, and the greatest last frame of its earlier owners
pub record Ownership : Type 0 where
  pub channels : ℕ
  pub owned : List Bool
  pub last : List (Option ℕ)

-- 1 to 8 channels
pub record IsHeldShare (v : Ownership) : Type 0 where
  pub some : 1 ≤ v.channels
  pub few : v.channels ≤ 8
  pub owned_size : length v.owned ≡ 8
  pub last_size : length v.last ≡ 8

-- a channel is owned
abbrev pub is_owned : Ownership → ℕ → Bool
is_owned v c = slice_index_or v.owned c false

-- the greatest last frame of a channel's earlier owners
abbrev pub last_owned_frame : Ownership → ℕ → Option ℕ
last_owned_frame v c = slice_index_or v.last c None

-- what is held is what a history says of each channel of the card
pub record StandsFor (v : Ownership) (h : List ClaimRow) : Type 0 where
  pub owned : (c : ℕ) → c < v.channels → is_owned v c ≡ is_some (owner_of h c)
  pub last : (c : ℕ) → c < v.channels → last_owned_frame v c ≡ greatest (last_frames h c)

-- channels of the card
abbrev pub AreOfCard : Ownership → List ℕ → Type 0
AreOfCard v channels = All (λ channel. channel < v.channels) channels

-- channels that are owned
abbrev pub AreOwned : Ownership → List ℕ → Type 0
AreOwned v channels = All (λ channel. IsTrue (is_owned v channel)) channels

-- the greatest last frame of the earlier owners of some channels
abbrev pub latest_of : Ownership → List ℕ → Option ℕ
latest_of v [] = None
latest_of v (c ∷ channels) = later (last_owned_frame v c) (latest_of v channels)

-- a list with one value at some places
abbrev pub with_value_at : {X : Type 0} → X → List X → List ℕ → List X
with_value_at x xs [] = xs
with_value_at x xs (c ∷ channels) = with_value_at x (slice_set xs c x) channels

-- a list with the later of a frame and what was there, at some places
abbrev pub with_later_at : Option ℕ → List (Option ℕ) → List ℕ → List (Option ℕ)
with_later_at frame xs [] = xs
with_later_at frame xs (c ∷ channels) = with_later_at frame (slice_set xs c (later frame (slice_index_or xs c None))) channels
