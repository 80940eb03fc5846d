-- The meets between a card and the seats of clients and readers.
use Rattle.std.specs.Prelude.{◌≡◌, ℕ, ◌≤◌, ◌||◌, ◌++◌, true, Some, max}
use mathlib.Core.Option.{some}
use lib.ListN.{get_elem?}
use Rattle.snd_base.specs.Places.{lap}
use Rattle.lap_word.specs.Word.{lap_of}
use Rattle.mix_core.specs.Sound.{IsNow}
use Rattle.sum_table.specs.declared.seats.mix.MixSeat.{MixSeat}
use Rattle.sum_table.specs.declared.seats.player.PlayerSeat.{PlayerSeat}
use Rattle.sum_table.specs.Exact.{IsPublishedPosition}
use Rattle.sum_table.specs.Joins.{OneRing}
use Rattle.sum_table.specs.Players.{next_of_player, player_geometry, player_key, player_ring, track_of}
use Rattle.sum_table.specs.Seats.{key_of, last_of_seat, marks_of_seat, member_of, places_of_seat, ring_of, seen_of, noted_word, view_of}
use Rattle.snoop_table.specs.declared.seats.reader.ReaderSeat.{ReaderSeat}
use Rattle.snoop_table.specs.declared.seats.writer.WriterSeat.{WriterSeat}
use Rattle.snoop_table.specs.Joins.{IsBorneOut}
use Rattle.snoop_table.specs.Joins as snoop_joins
use Rattle.snoop_table.specs.Readers as readers
use Rattle.snoop_table.specs.Writers.{next_frame, writer_geometry, writer_ring, writer_track, writer_view}
use Rattle.snoop_table.specs.Captured.{position_of}
use Rattle.card_sim.specs.declared.card.Card.{Card}
use Rattle.card_sim.specs.Runs.{period_of, records_of, writer_of}
use Rattle.lab_card.specs.Moves.{frame_of_card, is_gone, seat_of_card}

-- a client's seat, and a reader's, is of a card's ring
abbrev pub IsClientOf : Card → MixSeat → Type 0
IsClientOf c s =
    OneRing (ring_of s) (key_of s) (player_ring (seat_of_card c)) (player_key (seat_of_card c))

abbrev pub IsReaderOf : Card → ReaderSeat → Type 0
IsReaderOf c s =
    snoop_joins.OneRing (readers.ring_of s) (readers.geometry_of s)
    (writer_ring (writer_of c)) (writer_geometry (writer_of c))

-- a player, and a writer, that gave notes and met some, but took, stored and published nothing
pub record IsSamePlayer (p q : PlayerSeat) : Type 0 where
  pub ring : player_ring q ≡ player_ring p
  pub key : player_key q ≡ player_key p
  pub track : track_of q ≡ track_of p
  pub next : next_of_player q ≡ next_of_player p

pub record IsSameWriter (w x : WriterSeat) : Type 0 where
  pub ring : writer_ring x ≡ writer_ring w
  pub geometry : writer_geometry x ≡ writer_geometry w
  pub track : writer_track x ≡ writer_track w
  pub next : next_frame x ≡ next_frame w

pub record IsSameCard (c d : Card) : Type 0 where
  pub player : IsSamePlayer (seat_of_card c) (seat_of_card d)
  pub writer : IsSameWriter (writer_of c) (writer_of d)
  pub period : period_of d ≡ period_of c
  pub records : records_of d ≡ records_of c

-- a client's seat met a note of the card's player: it has seen each position that the card published, and the card gone where it
-- is, and else it is as before
pub record IsInformedClient (c : Card) (s t : MixSeat) : Type 0 where
  pub ring : ring_of t ≡ ring_of s
  pub key : key_of t ≡ key_of s
  pub member : member_of t ≡ member_of s
  pub places : places_of_seat t ≡ places_of_seat s
  pub marks : marks_of_seat t ≡ marks_of_seat s
  pub last : last_of_seat t ≡ last_of_seat s
  pub laid : (view_of t).laid ≡ (view_of s).laid
  pub seen : seen_of t ≡ max (seen_of s) (frame_of_card c)
  pub gone : (view_of t).seen_gone ≡ ((view_of s).seen_gone || is_gone c)

-- a reader's seat met a note of the card's writer, likewise
pub record IsInformedReader (c : Card) (s t : ReaderSeat) : Type 0 where
  pub ring : readers.ring_of t ≡ readers.ring_of s
  pub geometry : readers.geometry_of t ≡ readers.geometry_of s
  pub got : (readers.view_of t).got ≡ (readers.view_of s).got ++ (writer_view (writer_of c)).got
  pub seen : readers.seen_of t
      ≡ max (readers.seen_of s)
      (position_of (writer_geometry (writer_of c)) (writer_track (writer_of c)))
  pub gone : (readers.view_of t).seen_gone
      ≡ ((readers.view_of s).seen_gone || (writer_track (writer_of c)).gone)

-- a client's seat, and a reader's, that gave a note: it is as before
pub record IsSameClient (s t : MixSeat) : Type 0 where
  pub ring : ring_of t ≡ ring_of s
  pub key : key_of t ≡ key_of s
  pub member : member_of t ≡ member_of s
  pub places : places_of_seat t ≡ places_of_seat s
  pub marks : marks_of_seat t ≡ marks_of_seat s
  pub last : last_of_seat t ≡ last_of_seat s
  pub seen : seen_of t ≡ seen_of s
  pub view : view_of t ≡ view_of s

pub record IsSameReader (s t : ReaderSeat) : Type 0 where
  pub ring : readers.ring_of t ≡ readers.ring_of s
  pub geometry : readers.geometry_of t ≡ readers.geometry_of s
  pub seen : readers.seen_of t ≡ readers.seen_of s
  pub view : readers.view_of t ≡ readers.view_of s

-- What a client's seat has seen is what the card did: each of its positions is the first frame or one that the card published, it has
-- seen none past the last of them; each of its noted words has at most the lap of the first frame there that the card didn't take; and it
-- has seen the card gone only where it is.
pub record KnowsClient (c : Card) (s : MixSeat) : Type 0 where
  pub seen : seen_of s ≤ frame_of_card c
  pub positions : (i x : ℕ) → get_elem? (view_of s).positions i ≡ some x
      → IsPublishedPosition (player_geometry (seat_of_card c)) (track_of (seat_of_card c)) x
  pub noted : (f n x : ℕ)
      → IsNow (player_geometry (seat_of_card c)) (next_of_player (seat_of_card c)) f n
      → noted_word s f n ≡ Some x
      → lap_of x ≤ lap (player_geometry (seat_of_card c)) f
  pub gone : (view_of s).seen_gone ≡ true → is_gone c ≡ true

-- what a reader's seat has seen and got is what the card did
abbrev pub KnowsReader : Card → ReaderSeat → Type 0
KnowsReader c s =
    IsBorneOut (writer_geometry (writer_of c)) (writer_track (writer_of c)) (readers.view_of s)
