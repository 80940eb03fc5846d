-- What a card did at its two rings.
use Rattle.std.specs.Prelude.{◌≡◌, ℕ, ◌+◌, ◌-◌, ◌*◌, ◌||◌, Bool, ℤ, List, ◌++◌, length}
use Rattle.snd_base.specs.declared.geometry.Geometry.{Geometry}
use Rattle.snd_base.specs.Places.{first_frame}
use Rattle.sum_table.specs.declared.seats.player.PlayerSeat.{PlayerSeat}
use Rattle.sum_table.specs.Players.{next_of_player, player_geometry, player_key, player_ring, track_of}
use Rattle.snoop_table.specs.declared.seats.writer.WriterSeat.{WriterSeat}
use Rattle.snoop_table.specs.Writers.{writer_geometry, writer_ring, writer_track}
use Rattle.card_player.specs.Plays.{behind_words, frame_of, geometry_of, seat_of, words_at}
use Rattle.card_sim.specs.declared.card.Card.{Card}
use Rattle.card_sim.specs.Runs.{captured_if, period_of, player_of, records_of, writer_of}

-- a card's seat at the sum ring, its geometry, the frame that it plays next, and captures where it records, which is the position that it published
-- last, and whether it is gone
abbrev pub seat_of_card : Card → PlayerSeat
seat_of_card c = seat_of (player_of c)

abbrev pub geometry_of_card : Card → Geometry
geometry_of_card c = geometry_of (player_of c)

abbrev pub frame_of_card : Card → ℕ
frame_of_card c = frame_of (player_of c)

abbrev pub is_gone : Card → Bool
is_gone c = (track_of (seat_of_card c)).gone

-- how many frames it played since the ring's first
abbrev pub frames_since_first : Card → ℕ
frames_since_first c = frame_of_card c - first_frame (geometry_of_card c)

-- a player took the next words with these values, published these positions, and unplugged the card or not
pub record PlayerMoves (p q : PlayerSeat) (samples : List ℤ) (positions : List ℕ)
    (unplugged : Bool) : Type 0 where
  pub ring : player_ring q ≡ player_ring p
  pub key : player_key q ≡ player_key p
  pub taken : (track_of q).taken ≡ (track_of p).taken
      ++ words_at (player_geometry p) (next_of_player p) samples
  pub published : (track_of q).published ≡ (track_of p).published ++ positions
  pub next : next_of_player q ≡ behind_words (player_geometry p) (next_of_player p) samples
  pub gone : (track_of q).gone ≡ ((track_of p).gone || unplugged)

-- a writer stored the next samples, published these positions, and unplugged the card or not
pub record WriterMoves (w x : WriterSeat) (samples : List ℤ) (positions : List ℕ)
    (unplugged : Bool) : Type 0 where
  pub ring : writer_ring x ≡ writer_ring w
  pub geometry : writer_geometry x ≡ writer_geometry w
  pub stored : (writer_track x).stored ≡ (writer_track w).stored ++ samples
  pub published : (writer_track x).published ≡ (writer_track w).published ++ positions
  pub gone : (writer_track x).gone ≡ ((writer_track w).gone || unplugged)

-- A card played so many frames: it took these samples from the sum ring and published these positions there. Where it records it stored the captured
-- samples in the snoop ring, and published the positions there too. And it was unplugged, or not.
pub record CardMoves (c d : Card) (frames : ℕ) (samples captured : List ℤ)
    (positions : List ℕ) (unplugged : Bool) : Type 0 where
  pub player : PlayerMoves (seat_of_card c) (seat_of_card d) samples positions unplugged
  pub writer : WriterMoves (writer_of c) (writer_of d) (captured_if (records_of c) captured)
      (captured_if (records_of c) positions) unplugged
  pub period : period_of d ≡ period_of c
  pub records : records_of d ≡ records_of c
  pub frame : frame_of_card d ≡ frame_of_card c + frames
  pub whole : length samples ≡ frames * (geometry_of_card c).channels
