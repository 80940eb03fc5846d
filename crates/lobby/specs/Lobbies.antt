-- What contracts say of a lobby, and what its calls do.
use Rattle.std.specs.Prelude.{◌≡◌, ℕ, ◌<◌, List, [], ◌∷◌, length, Option, None, Some, Result, IfSome, MatchResult, slice_set}
use Rattle.std.specs.List.{flat_map}
use Rattle.snd_base.specs.declared.errors.PcmError.{PcmError}
use Rattle.snd_base.specs.Places.{first_frame}
use Rattle.mix_core.specs.declared.port.Entry.{Entry}
use Rattle.mix_core.specs.declared.port.Position.{Position}
use Rattle.sum_table.specs.declared.seats.mix.MixSeat.{MixSeat}
use Rattle.sum_table.specs.declared.view.Key.{Key}
use Rattle.sum_table.specs.Cuts.{part_of, without_places}
use Rattle.sum_table.specs.Joins.{HasJoined, OneRing, KeepsSeat}
use Rattle.sum_table.specs.Seats.{TableId, key_of, member_of, places_of_seat, ring_of, seen_of, view_of}
use Rattle.lobby.specs.declared.lobby.Lobby.{Lobby}
use Rattle.lobby.specs.Seats.{IsBusy, IsOut, IsPlace, last_of, lowest_silent, seat_at}

-- which ring it is, and what was settled when that was made
abbrev pub ring_of_lobby : Lobby → TableId
ring_of_lobby l = ring_of l.base

abbrev pub key_of_lobby : Lobby → Key
key_of_lobby l = key_of l.base

-- the seat of each place, while it is free
abbrev pub free_seats : Lobby → List (Option MixSeat)
free_seats l = l.seats.items

-- the seat that the places were split from
abbrev pub base_of : Lobby → MixSeat
base_of l = l.base

-- how many places it has, free or not
abbrev pub places_of_lobby : Lobby → ℕ
places_of_lobby l = length (free_seats l)

-- the position that it saw last, or the first frame
abbrev pub seen_of_lobby : Lobby → ℕ
seen_of_lobby l = l.seen

-- how many clients were reaped
abbrev pub reaped_of : Lobby → ℕ
reaped_of l = l.reaped

-- a lobby later, with the same places of one ring, and the same number of reaped clients; the seat that the places were split from
-- did nothing
pub record IsLaterLobby (l m : Lobby) : Type 0 where
  pub base : base_of m ≡ base_of l
  pub ring : ring_of_lobby m ≡ ring_of_lobby l
  pub key : key_of_lobby m ≡ key_of_lobby l
  pub places : places_of_lobby m ≡ places_of_lobby l
  pub same_reaped : reaped_of m ≡ reaped_of l

-- the seat of a place that was split off: it has seen what the whole seat had seen
pub record IsSplitSeat (whole : MixSeat) (place : ℕ) (s : MixSeat) : Type 0 where
  pub is_place : IsPlace (ring_of whole) (key_of whole) place s
  pub view : view_of s ≡ part_of (view_of whole) 1
  pub seen : seen_of s ≡ seen_of whole

-- a new lobby: each place of the whole seat is free, and the whole seat gave them away and did nothing else
pub record IsNewLobby (whole : MixSeat) (l : Lobby) : Type 0 where
  pub base : KeepsSeat whole (base_of l)
  pub base_view : view_of (base_of l) ≡ without_places (view_of whole) (places_of_seat whole)
  pub ring : ring_of_lobby l ≡ ring_of whole
  pub key : key_of_lobby l ≡ key_of whole
  pub places : places_of_lobby l ≡ places_of_seat whole
  pub each : (place : ℕ) → place < places_of_seat whole → (s : MixSeat) × (seat_at (free_seats l) place ≡ Some s) × IsSplitSeat whole place s
  pub saw_none : seen_of_lobby l ≡ first_frame (key_of whole).geometry
  pub reaped_none : reaped_of l ≡ 0

-- the seat of one free place loaded the position, and placed nothing; no other seat did anything
pub record LoadsAt (load : MixSeat → MixSeat → Type 0) (before : List (Option MixSeat)) (place : ℕ) (after : List (Option MixSeat)) : Type 0 where
  pub seat : MixSeat
  pub loaded : MixSeat
  pub found : seat_at before place ≡ Some seat
  pub load_is : load seat loaded
  pub laid : (view_of loaded).laid ≡ (view_of seat).laid
  pub after_is : after ≡ slice_set before place (Some loaded)

-- the lowest free seat whose last frame is below a position was handed out, from the seats as they were after the load
pub record HandsOut (p : ℕ) (before between : List (Option MixSeat)) (s : MixSeat) (after : List (Option MixSeat)) : Type 0 where
  pub lowest : lowest_silent p before ≡ Some (member_of s)
  pub found : seat_at between (member_of s) ≡ Some s
  pub after_is : after ≡ slice_set between (member_of s) None

-- what comes of the position that was loaded
abbrev pub Outcome : ℕ → List (Option MixSeat) → List (Option MixSeat) → Result MixSeat PcmError → List (Option MixSeat) → Type 0
Outcome p before between r after = MatchResult r (λ s. HandsOut p before between s after) (λ e. IsBusy p before e × (after ≡ between))

-- a seat of one place of the lobby's ring, whose number is its member, and whose last frame, if it has one, is below a position
abbrev pub IsSilentSeat : Lobby → ℕ → MixSeat → Type 0
IsSilentSeat l p s = IsPlace (ring_of_lobby l) (key_of_lobby l) (member_of s) s × IfSome (last_of s) (λ frame. frame < p)

-- an attach by way of a place's seat, the lowest free one
pub record Attaches (load : Position → MixSeat → MixSeat → Type 0) (place : ℕ) (l m : Lobby) (r : Result MixSeat PcmError) : Type 0 where
  pub position : Position
  pub between : List (Option MixSeat)
  pub loads : LoadsAt (load position) (free_seats l) place between
  pub outcome : Outcome position.frame (free_seats l) between r (free_seats m)
  pub seen : seen_of_lobby m ≡ position.frame

-- a seat has one place, and its member is the number of a place that is not free
pub record CanTakeBack (l : Lobby) (s : MixSeat) : Type 0 where
  pub one_place : places_of_seat s ≡ 1
  pub out : IsOut (free_seats l) (member_of s)

-- the seat of a place was taken back, and no other seat did anything
pub record TakesBack (l m : Lobby) (s : MixSeat) : Type 0 where
  pub base : base_of m ≡ base_of l
  pub ring : ring_of_lobby m ≡ ring_of_lobby l
  pub key : key_of_lobby m ≡ key_of_lobby l
  pub places : places_of_lobby m ≡ places_of_lobby l
  pub seats : free_seats m ≡ slice_set (free_seats l) (member_of s) (Some s)
  pub seen : seen_of_lobby m ≡ seen_of_lobby l

-- the entries of the seats of all places, in the order of the places
abbrev pub laid_by : Option MixSeat → List Entry
laid_by None = []
laid_by (Some s) = (view_of s).laid

abbrev pub laid_by_all : List (Option MixSeat) → List Entry
laid_by_all seats = flat_map laid_by seats

-- a seat took over those of some places, one after the other, and did nothing else
abbrev pub JoinsEach : MixSeat → List (Option MixSeat) → MixSeat → Type 0
JoinsEach whole [] joined = joined ≡ whole
JoinsEach whole (None ∷ seats) joined = JoinsEach whole seats joined
JoinsEach whole (Some s ∷ seats) joined = (more : MixSeat) × HasJoined whole more s × JoinsEach more seats joined

-- the seats of all places were joined into one
pub record JoinsAll (l : Lobby) (s : MixSeat) : Type 0 where
  pub joins : JoinsEach (base_of l) (free_seats l) s
  pub one_ring : OneRing (ring_of s) (key_of s) (ring_of_lobby l) (key_of_lobby l)
  pub places : places_of_seat s ≡ places_of_lobby l
  pub laid : (view_of s).laid ≡ laid_by_all (free_seats l)
