-- What a load of the position by one seat leaves, alone and beside the player.
use Rattle.std.specs.Prelude.{◌≡◌, [], ◌∷◌}
use Rattle.mix_core.specs.declared.port.Position.{Position}
use Rattle.sum_table.specs.declared.seats.mix.MixSeat.{MixSeat}
use Rattle.sum_table.specs.declared.seats.note.SeatNote.{SeatNote}
use Rattle.sum_table.specs.declared.seats.player.PlayerSeat.{PlayerSeat}
use Rattle.sum_table.specs.Joins.{HasHeard, HasMet, HasNote, HasPlayerNote}
use Rattle.sum_table.specs.Players.{gone_of_player, next_of_player, player_key, player_ring, position_of_player, track_of}
use Rattle.sum_table.specs.Seats.{SeatLaid, SeatLoaded}

-- a seat loaded this one position, and did nothing else
pub record HasLoaded (s t : MixSeat) (p : Position) : Type 0 where
  pub loaded : SeatLoaded s t (p ∷ [])
  pub laid_nothing : SeatLaid s t []

-- the player is where it was
pub record PlayerStays (p q : PlayerSeat) : Type 0 where
  pub ring : player_ring q ≡ player_ring p
  pub key : player_key q ≡ player_key p
  pub track : track_of q ≡ track_of p
  pub next : next_of_player q ≡ next_of_player p
  pub position : position_of_player q ≡ position_of_player p
  pub gone : gone_of_player q ≡ gone_of_player p

-- a seat loaded this one position beside the player: a note of the player met the seat before the load, and a note of the
-- seat met the player after it
pub record HasLoadedBeside (p : PlayerSeat) (s : MixSeat) (q : PlayerSeat) (t : MixSeat) (position : Position) : Type 0 where
  pub noted : PlayerSeat
  pub player_note : SeatNote
  pub gave : HasPlayerNote p noted player_note
  pub fresh : MixSeat
  pub met : HasMet s fresh player_note
  pub located : MixSeat
  pub load : HasLoaded fresh located position
  pub seat_note : SeatNote
  pub told : HasNote located t seat_note
  pub heard : HasHeard noted q seat_note
