-- When the two seats of a card are in step.
use Rattle.std.specs.Prelude.{◌≡◌, Bool, true}
use Rattle.sum_table.specs.Players.{next_of_player, position_of_player}
use Rattle.card_player.specs.declared.player.CardPlayer.{CardPlayer}
use Rattle.card_player.specs.Plays.{at_frame, frame_of, geometry_of, seat_of}
use Rattle.snoop_table.specs.declared.seats.writer.WriterSeat.{WriterSeat}
use Rattle.snoop_table.specs.Writers.{next_frame, writer_geometry}

-- a player and a writer are in step: their rings have one geometry, and the frame that is taken next is the one that is stored next
pub record AreInStep (p : CardPlayer) (w : WriterSeat) : Type 0 where
  pub geometry : geometry_of p ≡ writer_geometry w
  pub next : next_of_player (seat_of p) ≡ at_frame (next_frame w)

-- The seats of a card that records or doesn't: their rings have one geometry, and the player's next word is the first one of a frame. Where the card records,
-- that frame is the one that is stored next.
pub record AreSeatsOfCard (records : Bool) (p : CardPlayer) (w : WriterSeat) : Type 0 where
  pub geometry : geometry_of p ≡ writer_geometry w
  pub whole : next_of_player (seat_of p) ≡ at_frame (frame_of p)
  pub next : records ≡ true → next_of_player (seat_of p) ≡ at_frame (next_frame w)

-- the frame that a player takes next is the position that it published last
abbrev pub IsAtPublished : CardPlayer → Type 0
IsAtPublished p = position_of_player (seat_of p) ≡ frame_of p
