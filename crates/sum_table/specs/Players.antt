-- What contracts say of the player's seat, and what its steps do.
use Rattle.std.specs.Prelude.{◌≡◌, ℕ, Bool, true, [], ◌∷◌}
use Rattle.atomic_table.specs.Seated.{TableId}
use Rattle.snd_base.specs.declared.geometry.Geometry.{Geometry}
use Rattle.snd_base.specs.declared.places.Cursor.{Cursor}
use Rattle.snd_base.specs.Places.{cursor_after, lap}
use Rattle.lap_word.specs.Clamp.{clamp_of}
use Rattle.mix_core.specs.declared.event.Event.TheVariants.{Take, Publish}
use Rattle.mix_core.specs.declared.event.Reply.TheVariants.{Took, Published}
use Rattle.mix_core.specs.declared.event.Taken.{Taken}
use Rattle.mix_core.specs.History.{laid_of}
use Rattle.mix_core.specs.Laid.{total}
use Rattle.sum_table.specs.declared.seats.player.PlayerSeat.{PlayerSeat}
use Rattle.sum_table.specs.declared.view.Key.{Key}
use Rattle.sum_table.specs.declared.view.Track.{Track}
use Rattle.sum_table.specs.declared.view.View.{View}
use Rattle.sum_table.specs.Exact.{BeginsWith, the_track}
use Rattle.sum_table.specs.Steps.{Makes, track_gone, track_published, track_taken, with_gone, with_published, with_taken}

-- what the player knows, and did
abbrev pub player_view : PlayerSeat → View
player_view p = p.seat.me.0

-- everything that it took, the positions that it published, and whether it unplugged the card
abbrev pub track_of : PlayerSeat → Track
track_of p = the_track (player_view p).track

-- which ring it is, and what was settled when it was made
abbrev pub player_ring : PlayerSeat → TableId
player_ring p = p.seat.table_id

abbrev pub player_key : PlayerSeat → Key
player_key p = p.key

abbrev pub player_geometry : PlayerSeat → Geometry
player_geometry p = p.key.geometry

-- the next word that it takes, the position that it published last, and whether the card is gone
abbrev pub next_of_player : PlayerSeat → Cursor
next_of_player p = p.next

abbrev pub position_of_player : PlayerSeat → ℕ
position_of_player p = p.position

abbrev pub gone_of_player : PlayerSeat → Bool
gone_of_player p = p.gone

-- a player that went to the lap of its next word's frame, and is the same but for this
pub record IsTurnedPlayer (p q : PlayerSeat) : Type 0 where
  pub in_lap : lap p.key.geometry p.next.frame ≡ q.start.lap
  pub ring : player_ring q ≡ player_ring p
  pub view : player_view q ≡ player_view p
  pub key : q.key ≡ p.key
  pub next : q.next ≡ p.next
  pub position : q.position ≡ p.position
  pub gone : q.gone ≡ p.gone

-- the player of one ring, later: it has seen no less of the ring's history
pub record PlayerGoes (p q : PlayerSeat) : Type 0 where
  pub ring : player_ring q ≡ player_ring p
  pub key : q.key ≡ p.key
  pub history : BeginsWith (player_view q).history (player_view p).history

-- the next word was taken: what was taken is at the end of the taken list, and its value is the sum of everything that
-- the history placed there, saturated once
pub record HasTaken (p q : PlayerSeat) (x : Taken) : Type 0 where
  pub goes : PlayerGoes p q
  pub view : player_view q ≡ with_taken (player_view p) (player_view q).history (track_of p) x
  pub track : track_of q ≡ track_taken (track_of p) x
  pub frame : x.frame ≡ p.next.frame
  pub channel : x.channel ≡ p.next.channel
  pub value : x.value ≡ clamp_of (total (laid_of (player_view q).history) x.frame x.channel)
  pub next : q.next ≡ cursor_after p.key.geometry p.next.frame p.next.channel
  pub position : q.position ≡ p.position
  pub gone : q.gone ≡ p.gone
  pub event : Makes (player_view p) (player_view q) (λ _. (Take, Took x.frame x.channel x.value) ∷ [])

-- the frame of the next word was published as the position
pub record HasPublished (p q : PlayerSeat) : Type 0 where
  pub goes : PlayerGoes p q
  pub view : player_view q ≡ with_published (player_view p) (player_view q).history (track_of p) p.next.frame
  pub track : track_of q ≡ track_published (track_of p) p.next.frame
  pub next : q.next ≡ p.next
  pub position : q.position ≡ p.next.frame
  pub gone : q.gone ≡ p.gone
  pub event : Makes (player_view p) (player_view q) (λ _. (Publish, Published p.next.frame) ∷ [])

-- the card is gone, which is no event
pub record HasUnplugged (p q : PlayerSeat) : Type 0 where
  pub goes : PlayerGoes p q
  pub view : player_view q ≡ with_gone (player_view p) (player_view q).history (track_of p)
  pub track : track_of q ≡ track_gone (track_of p)
  pub next : q.next ≡ p.next
  pub position : q.position ≡ p.position
  pub gone : q.gone ≡ true
  pub event : Makes (player_view p) (player_view q) (λ _. [])
