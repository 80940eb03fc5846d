-- What is said of the seats of a ring's places, each while it is free.
use Rattle.std.specs.Prelude.{◌≡◌, ℕ, ◌+◌, ◌≤◌, ◌<◌, All, Bool, true, false, Contains, List, Option, length, None, Some, min, nat_lt}
use Rattle.std.specs.List.{filter_map, position, slice_index_or}
use Rattle.std.specs.Option.{is_some, option_and_then}
use Rattle.snd_base.specs.declared.errors.PcmError.{PcmError}
use Rattle.snd_base.specs.declared.errors.PcmError.TheVariants.{Busy}
use Rattle.sum_table.specs.declared.seats.mix.MixSeat.{MixSeat}
use Rattle.sum_table.specs.declared.view.Key.{Key}
use Rattle.sum_table.specs.Known.{last_frame}
use Rattle.sum_table.specs.Seats.{TableId, key_of, member_of, places_of_seat, ring_of, view_of}

-- the seat of one place of a ring, whose number is its member
pub record IsPlace (ring : TableId) (key : Key) (place : ℕ) (s : MixSeat) : Type 0 where
  pub of_ring : ring_of s ≡ ring
  pub of_key : key_of s ≡ key
  pub member : member_of s ≡ place
  pub places : places_of_seat s ≡ 1

-- the seat of a place, while it is free
abbrev pub seat_at : List (Option MixSeat) → ℕ → Option MixSeat
seat_at seats place = slice_index_or seats place None

-- there is such a place, and it is not free
pub record IsOut (seats : List (Option MixSeat)) (place : ℕ) : Type 0 where
  pub number : place < length seats
  pub is_none : seat_at seats place ≡ None

-- each free seat is that of its place
abbrev pub ArePlaces : TableId → Key → List (Option MixSeat) → Type 0
ArePlaces ring key seats = (place : ℕ) (s : MixSeat) → seat_at seats place ≡ Some s → IsPlace ring key place s

-- each place is free
abbrev pub AreFree : List (Option MixSeat) → Type 0
AreFree seats = All (λ o. is_some o ≡ true) seats

-- the lowest place that is free
abbrev pub lowest_free : List (Option MixSeat) → Option ℕ
lowest_free seats = position is_some seats

-- the last frame in which a seat placed a sample
abbrev pub last_of : MixSeat → Option ℕ
last_of s = last_frame (view_of s).laid

-- a last frame, if there is one, is below a position
abbrev pub is_below : ℕ → Option ℕ → Bool
is_below p None = true
is_below p (Some frame) = nat_lt frame p

-- a place is free, and its seat's last frame is below a position
abbrev pub is_silent : ℕ → Option MixSeat → Bool
is_silent p None = false
is_silent p (Some s) = is_below p (last_of s)

abbrev pub lowest_silent : ℕ → List (Option MixSeat) → Option ℕ
lowest_silent p seats = position (is_silent p) seats

-- the last frames of the free seats
abbrev pub last_frames : List (Option MixSeat) → List ℕ
last_frames seats = filter_map (option_and_then last_of) seats

-- the least of some numbers
pub record IsLeast (xs : List ℕ) (x : ℕ) : Type 0 where
  pub among : Contains xs x
  pub least : All (λ y. x ≤ y) xs

-- the earlier of two frames, where there are such
abbrev pub earlier : Option ℕ → Option ℕ → Option ℕ
earlier None b = b
earlier (Some a) None = Some a
earlier (Some a) (Some b) = Some (min a b)

-- no free seat may be handed out at a position: each has a last frame that is not below it, and the refusal names the least of
-- these frames, plus one, and the position
pub record IsBusy (p : ℕ) (seats : List (Option MixSeat)) (e : PcmError) : Type 0 where
  pub none : lowest_silent p seats ≡ None
  pub least : ℕ
  pub is_least : IsLeast (last_frames seats) least
  pub is : e ≡ Busy (Some (least + 1)) p

-- some free seats became others, and the last frames stayed
pub record KeepsLasts (before after : List (Option MixSeat)) : Type 0 where
  pub free : lowest_free after ≡ lowest_free before
  pub silent : (p : ℕ) → lowest_silent p after ≡ lowest_silent p before
  pub lasts : last_frames after ≡ last_frames before
