-- What is said of an open ring: which places it has, and how it gives them.
use Rattle.std.specs.Prelude.{◌≡◌, ℕ, ◌<◌, ◌⊎◌, Bool, true, false, List, [], ◌∷◌, Option, None, Some}
use Rattle.snd_base.specs.declared.geometry.Geometry.{Geometry}
use Rattle.snd_base.specs.Places.{first_frame}
use Rattle.card_player.specs.declared.player.CardPlayer.{CardPlayer}
use Rattle.card_player.specs.Plays.{at_frame, geometry_of, period_of, seat_of}
use Rattle.card_sim.specs.Runs as runs
use Rattle.sum_table.specs.declared.seats.mix.MixSeat.{MixSeat}
use Rattle.sum_table.specs.Players.{next_of_player, player_key, player_ring, position_of_player}
use Rattle.sum_table.specs.Joins.{OneRing}
use Rattle.lobby.specs.declared.lobby.Lobby.{Lobby}
use Rattle.lobby.specs.Lobbies.{CanTakeBack, HandsOut, IsSilentSeat, TakesBack, free_seats, key_of_lobby, places_of_lobby, ring_of_lobby, seen_of_lobby}
use Rattle.lobby.specs.Seats.{last_of, lowest_silent, seat_at}
use Rattle.sum_table.specs.Seats.{TableId}
use Rattle.snoop_table.specs.declared.seats.reader.ReaderSeat.{ReaderSeat}
use Rattle.snoop_table.specs.Readers as readers
use Rattle.snoop_table.specs.Writers.{writer_geometry, writer_ring, writer_track}
use Rattle.dmix_c.specs.declared.duplex_card.DuplexCard.{DuplexCard}
use Rattle.dmix_c.specs.declared.open_ring.OpenRing.{OpenRing}
use Rattle.dmix_c.specs.declared.opened.Opened.{Opened}
use Rattle.dmix_c.specs.declared.opened.Opened.TheVariants.{Card, Duplex}
use Rattle.dmix_c.specs.declared.params.RingParams.{RingParams}
use Rattle.dmix_c.specs.declared.playback.Playback.{Playback}
use Rattle.dmix_c.specs.declared.recording.Recording.{Recording}
use Rattle.dmix_c.specs.Clients.{IsNewPlayback}
use Rattle.dmix_c.specs.Params.{IsGeometryOf}
use Rattle.dmix_c.specs.Readers.{IsNewRecording}

-- a place is free, and the last frame of its seat is this one, or nothing was placed by it
abbrev pub IsFree : List (Option MixSeat) → ℕ → Option ℕ → Type 0
IsFree seats place last = (s : MixSeat) × (seat_at seats place ≡ Some s) × (last_of s ≡ last)

-- a place that was free, and isn't the one that was given, is free still, with the same last frame
abbrev pub StayFree : Option ℕ → List (Option MixSeat) → List (Option MixSeat) → Type 0
StayFree given before after = (place : ℕ) (last : Option ℕ) → (given ≡ Some place → ⊥) → IsFree before place last → IsFree after place last

-- the capture ring, of which readers are opened: its identity and its shape, where there is one
abbrev pub source_of : Option ReaderSeat → Option (TableId × Geometry)
source_of None = None
source_of (Some s) = Some (readers.ring_of s, readers.geometry_of s)

-- a player of this geometry took nothing and published nothing
pub record IsAtStart (g : Geometry) (player : CardPlayer) : Type 0 where
  pub geometry : geometry_of player ≡ g
  pub next : next_of_player (seat_of player) ≡ at_frame (first_frame g)
  pub position : position_of_player (seat_of player) ≡ first_frame g

-- a ring of these parameters, and the player of its card: it has as many places as clients can be open at a time, each free, and nothing was
-- placed, taken or published
pub record IsNewOpenRing (params : RingParams) (r : OpenRing) (player : CardPlayer) : Type 0 where
  pub geometry : IsGeometryOf params (key_of_lobby r.lobby).geometry
  pub places : places_of_lobby r.lobby ≡ params.clients
  pub fresh : (place : ℕ) → place < params.clients → IsFree (free_seats r.lobby) place None
  pub rate : r.rate ≡ params.rate
  pub lead : r.period ≡ params.period_size
  pub start : IsAtStart (key_of_lobby r.lobby).geometry player
  pub card_period : period_of player ≡ params.period_size
  pub one_ring : OneRing (player_ring (seat_of player)) (player_key (seat_of player))
      (ring_of_lobby r.lobby) (key_of_lobby r.lobby)

-- a ring of these parameters with a card that captures: readers are opened of the capture ring of its writer, in which nothing was stored
pub record IsNewDuplex (params : RingParams) (r : OpenRing) (card : DuplexCard) : Type 0 where
  pub ring : IsNewOpenRing params r (runs.player_of card.card)
  pub source : source_of r.capture ≡ Some (writer_ring (runs.writer_of card.card), writer_geometry (runs.writer_of card.card))
  pub stored_none : (writer_track (runs.writer_of card.card)).stored ≡ []
  pub run_period : runs.period_of card.card ≡ params.period_size

-- a ring of these parameters with its card: one that plays alone, and then the ring captures nothing, or one that captures too
abbrev pub IsNewPair : Bool → RingParams → OpenRing → Opened → Type 0
IsNewPair false params r (Card c) = IsNewOpenRing params r c.player × (r.capture ≡ None)
IsNewPair true params r (Duplex c) = IsNewDuplex params r c
IsNewPair captures params r other = ⊥

-- a seat came back to a ring: it was taken back exactly where its place wasn't free
abbrev pub Receives : OpenRing → OpenRing → MixSeat → Type 0
Receives r t s = (CanTakeBack r.lobby s × TakesBack r.lobby t.lobby s) ⊎ ((CanTakeBack r.lobby s → ⊥) × (t ≡ r))

-- seats of places that weren't free came back to a lobby, one after the other, and nothing else changed
abbrev pub CameBack : List MixSeat → Lobby → Lobby → Type 0
CameBack [] l m = m ≡ l
CameBack (s ∷ seats) l m = (k : Lobby) × CanTakeBack l s × TakesBack l k s × CameBack seats k m

abbrev pub Collects : OpenRing → OpenRing → Type 0
Collects r t = (seats : List MixSeat) × CameBack seats r.lobby t.lobby

-- a ring keeps its places, free ones but for one that was given, and its capture ring
pub record KeepsRing (given : Option ℕ) (r t : OpenRing) : Type 0 where
  pub ring : ring_of_lobby t.lobby ≡ ring_of_lobby r.lobby
  pub key : key_of_lobby t.lobby ≡ key_of_lobby r.lobby
  pub places : places_of_lobby t.lobby ≡ places_of_lobby r.lobby
  pub free : StayFree given (free_seats r.lobby) (free_seats t.lobby)
  pub capture : source_of t.capture ≡ source_of r.capture
  pub rate : t.rate ≡ r.rate
  pub period : t.period ≡ r.period

-- a lobby handed out a seat: that of the lowest place that was free and silent, by the seats that it had before
abbrev pub IsHandedOut : Lobby → MixSeat → Type 0
IsHandedOut l s = (seats : List (Option MixSeat)) × HandsOut (seen_of_lobby l) seats seats s (free_seats l)

-- no place of a ring is free and silent
abbrev pub GivesNone : OpenRing → Type 0
GivesNone t = lowest_silent (seen_of_lobby t.lobby) (free_seats t.lobby) ≡ None

-- a client was opened at the lowest place of a ring that was free and silent: its last frame, if it has one, is below the position that the
-- ring loaded
pub record GivesPlace (t : OpenRing) (p : Playback) : Type 0 where
  pub silent : IsSilentSeat t.lobby (seen_of_lobby t.lobby) p.seat
  pub lowest : IsHandedOut t.lobby p.seat
  pub client : IsNewPlayback p.seat t.rate t.period p

-- a reader was opened of the capture ring of a ring
pub record GivesReader (t : OpenRing) (p : Recording) : Type 0 where
  pub source : source_of t.capture ≡ Some (readers.ring_of p.seat, readers.geometry_of p.seat)
  pub reader : IsNewRecording p.seat t.rate p
