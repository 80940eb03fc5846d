-- Who owns a channel, by what was claimed and released.
use Rattle.std.specs.Prelude.{◌≡◌, ℕ, ◌+◌, ◌^◌, ◌<◌, max, nat_lt, ◌==◌, if◌then◌else◌, Bool, List, [], ◌∷◌, length, Option, Some, None, is_some}
use Rattle.std.specs.List.{AllByRecursion, flat_map, list_any}
use Rattle.snd_base.specs.declared.errors.PcmError.{PcmError}
use Rattle.snd_base.specs.declared.errors.PcmError.TheVariants.{Busy}

-- a row of a history: these channels were claimed, or they were released, with the last frame that their owner placed
pub data ClaimRow : Type 0 where
  claimed : List ℕ → ClaimRow
  released : List ℕ → Option ℕ → ClaimRow

-- a list of channels has a channel
abbrev pub has_channel : List ℕ → ℕ → Bool
has_channel channels c = list_any (λ k. k == c) channels

-- The owner of a channel: the last claim that holds it and isn't released, by the number of rows before it. The rows are
-- with the last one first.
abbrev pub owner_of : List ClaimRow → ℕ → Option ℕ
owner_of [] c = None
owner_of (claimed channels ∷ earlier) c = if has_channel channels c then Some (length earlier) else owner_of earlier c
owner_of (released channels last ∷ earlier) c = if has_channel channels c then None else owner_of earlier c

-- the last frames of a channel's earlier owners
abbrev pub last_frames : List ClaimRow → ℕ → List ℕ
last_frames [] c = []
last_frames (claimed channels ∷ earlier) c = last_frames earlier c
last_frames (released channels None ∷ earlier) c = last_frames earlier c
last_frames (released channels (Some frame) ∷ earlier) c = if has_channel channels c then frame ∷ last_frames earlier c else last_frames earlier c

-- a channel is free at a position where it has no owner, and each earlier owner's last frame is before the position
pub record IsFree (h : List ClaimRow) (position c : ℕ) : Type 0 where
  pub unowned : owner_of h c ≡ None
  pub silent : AllByRecursion (λ frame. frame < position) (last_frames h c)

-- each of these channels is free
abbrev pub AreFree : List ClaimRow → ℕ → List ℕ → Type 0
AreFree h position channels = AllByRecursion (IsFree h position) channels

-- the later of two frames, where there are such
abbrev pub later : Option ℕ → Option ℕ → Option ℕ
later None b = b
later (Some x) None = Some x
later (Some x) (Some y) = Some (max x y)

-- the greatest of some frames
abbrev pub greatest : List ℕ → Option ℕ
greatest [] = None
greatest (x ∷ xs) = later (Some x) (greatest xs)

-- the position after a frame, if a number of 64 bits is one
abbrev pub position_past : Option ℕ → Option ℕ
position_past None = None
position_past (Some frame) = if nat_lt (frame + 1) (2 ^ 64) then Some (frame + 1) else None

-- some of these channels has an owner
abbrev pub any_owned : List ClaimRow → List ℕ → Bool
any_owned h channels = list_any (λ c. is_some (owner_of h c)) channels

-- from when on the channels are free, where that is known: not while one is owned, and else after the greatest last frame
abbrev pub free_from : List ClaimRow → List ℕ → Option ℕ
free_from h channels = if any_owned h channels then None else position_past (greatest (flat_map (last_frames h) channels))

-- the refusal of a claim
abbrev pub busy : List ClaimRow → List ℕ → ℕ → PcmError
busy h channels position = Busy (free_from h channels) position
