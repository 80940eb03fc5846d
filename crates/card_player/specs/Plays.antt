-- What the player of a card takes and publishes.
use Rattle.std.specs.Prelude.{◌≡◌, ℕ, ◌+◌, ◌-◌, ◌*◌, ◌/◌, ◌%◌, ◌==◌, ◌<◌, ◌≤◌, ◌&&◌, nat_lt, Bool, zero, suc, if◌then◌else◌, min, ℤ, List, [], ◌∷◌, ◌++◌, All, length, take, drop}
use Rattle.snd_base.specs.declared.geometry.Geometry.{Geometry}
use Rattle.snd_base.specs.declared.places.Cursor.{Cursor}
use Rattle.snd_base.specs.Places.{cursor_after, end_frame, lap}
use Rattle.lap_word.specs.Clamp.{clamp_of}
use Rattle.mix_core.specs.declared.event.Taken.{Taken}
use Rattle.mix_core.specs.History.{laid_of}
use Rattle.mix_core.specs.Laid.{total}
use Rattle.sum_table.specs.declared.seats.player.PlayerSeat.{PlayerSeat}
use Rattle.ring_rule.specs.Positions.{last_number}
use Rattle.sum_table.specs.Players.{PlayerGoes, gone_of_player, next_of_player, player_geometry, player_view, position_of_player, track_of}
use Rattle.card_player.specs.declared.player.CardPlayer.{CardPlayer}

-- a player's seat and its period
abbrev pub seat_of : CardPlayer → PlayerSeat
seat_of p = p.seat

abbrev pub period_of : CardPlayer → ℕ
period_of p = p.period

-- the geometry of its ring, and the frame of its next word
abbrev pub geometry_of : CardPlayer → Geometry
geometry_of p = player_geometry (seat_of p)

abbrev pub frame_of : CardPlayer → ℕ
frame_of p = (next_of_player (seat_of p)).frame

-- the first word of a frame
abbrev pub at_frame : ℕ → Cursor
at_frame f = record { frame = f; channel = 0 }

-- the next word is the first one of a frame
abbrev pub IsAtFrame : CardPlayer → Type 0
IsAtFrame p = (next_of_player (seat_of p)).channel ≡ 0

-- how many frames a buffer has room for, and how many of them the ring still has before its end
abbrev pub frames_in : CardPlayer → List ℤ → ℕ
frames_in p out = length out / (geometry_of p).channels

abbrev pub frames_left : CardPlayer → List ℤ → ℕ
frames_left p out = min (end_frame (geometry_of p) - frame_of p) (frames_in p out)

-- the samples of so many frames at the beginning of a buffer, and what is after them
abbrev pub first_samples : CardPlayer → ℕ → List ℤ → List ℤ
first_samples p frames out = take (frames * (geometry_of p).channels) out

abbrev pub rest_of : CardPlayer → ℕ → List ℤ → List ℤ
rest_of p frames out = drop (frames * (geometry_of p).channels) out

-- the word after so many words with these values, and the words themselves, in the order of frames and then channels
abbrev pub behind_words : Geometry → Cursor → List ℤ → Cursor
behind_words g at [] = at
behind_words g at (x ∷ xs) = behind_words g (cursor_after g at.frame at.channel) xs

abbrev pub words_at : Geometry → Cursor → List ℤ → List Taken
words_at g at [] = []
words_at g at (x ∷ xs) =
    record { frame = at.frame; channel = at.channel; value = x } ∷ words_at g (cursor_after g at.frame at.channel) xs

-- whether a frame number is a multiple of the period, and the list of it where it is
abbrev pub is_multiple : ℕ → ℕ → Bool
is_multiple period f = f % period == 0

abbrev pub period_at : ℕ → ℕ → List ℕ
period_at period f = if is_multiple period f then f ∷ [] else []

-- the next multiple of the period, from a frame on: it is this frame or one of the next frames, fewer than a period
pub record IsDue (period frame due : ℕ) : Type 0 where
  pub least : frame ≤ due
  pub near : due < frame + period
  pub multiple : due % period ≡ 0

-- the multiples of the period past a frame, among the next so many frame numbers
abbrev pub periods_to : ℕ → ℕ → ℕ → List ℕ
periods_to period first zero = []
periods_to period first (suc n) = periods_to period first n ++ period_at period (first + suc n)

-- whether the last of so many frames ends a period
abbrev pub ends_period : ℕ → ℕ → ℕ → Bool
ends_period period first n = nat_lt 0 n && is_multiple period (first + n)

-- the positions that are published where so many frames are played: each multiple of the period, and the end
abbrev pub positions_of : ℕ → ℕ → ℕ → List ℕ
positions_of period first n =
    periods_to period first n ++ (if ends_period period first n then [] else (first + n) ∷ [])

-- between two states of a player's seat, a word was taken with the sum of all that was placed there by then, saturated
abbrev pub IsSumThen : PlayerSeat → PlayerSeat → Taken → Type 0
IsSumThen p q x =
    (m : PlayerSeat) × PlayerGoes p m × PlayerGoes m q
    × (x.value ≡ clamp_of (total (laid_of (player_view m).history) x.frame x.channel))

-- the player's seat took the next words, with these values, and published these positions, and did nothing else: each value
-- is the saturated sum of what was placed there when it was taken
pub record HasPlayed (p q : PlayerSeat) (values : List ℤ) (positions : List ℕ) : Type 0 where
  pub goes : PlayerGoes p q
  pub taken : (track_of q).taken ≡ (track_of p).taken ++ words_at (player_geometry p) (next_of_player p) values
  pub sums : All (λ (x : Taken). IsSumThen p q x) (words_at (player_geometry p) (next_of_player p) values)
  pub published : (track_of q).published ≡ (track_of p).published ++ positions
  pub next : next_of_player q ≡ behind_words (player_geometry p) (next_of_player p) values
  pub position : position_of_player q ≡ last_number (position_of_player p) positions
  pub gone : gone_of_player q ≡ gone_of_player p
  pub unplugged : (track_of q).gone ≡ (track_of p).gone

-- so many whole frames were played into the beginning of a buffer, and these positions published
pub record PlaysFrames (p q : CardPlayer) (frames : ℕ) (old new : List ℤ) (positions : List ℕ) : Type 0 where
  pub played : HasPlayed (seat_of p) (seat_of q) (first_samples p frames new) positions
  pub next : next_of_player (seat_of q) ≡ at_frame (frame_of p + frames)
  pub rest : rest_of p frames new ≡ rest_of p frames old
  pub period : period_of q ≡ period_of p

-- one frame was taken, and its samples written into a buffer from an index on; nothing was published
pub record TakesFrameAt (p q : CardPlayer) (at : ℕ) (old new : List ℤ) : Type 0 where
  pub played : HasPlayed (seat_of p) (seat_of q) (drop at (take (at + (geometry_of p).channels) new)) []
  pub next : next_of_player (seat_of q) ≡ at_frame (frame_of p + 1)
  pub before : take at new ≡ take at old
  pub rest : drop (at + (geometry_of p).channels) new ≡ drop (at + (geometry_of p).channels) old
  pub period : period_of q ≡ period_of p

-- a buffer has room for a frame from an index on
abbrev pub HasRoom : CardPlayer → ℕ → List ℤ → Type 0
HasRoom p at out = at + (geometry_of p).channels ≤ length out

-- the next frame is before the ring's end
abbrev pub HasFrame : CardPlayer → Type 0
HasFrame p = frame_of p < end_frame (geometry_of p)

-- the next frame's lap is the one that no word can have
abbrev pub IsAtLapEnd : CardPlayer → Type 0
IsAtLapEnd p = lap (geometry_of p) (frame_of p) ≡ 4294967295

-- so many frames were played, and the positions among them published, by a period or by the player's
abbrev pub PlaysBy : ℕ → CardPlayer → CardPlayer → ℕ → List ℤ → List ℤ → Type 0
PlaysBy period p q frames old new = PlaysFrames p q frames old new (positions_of period (frame_of p) frames)

abbrev pub PlaysAndPublishes : CardPlayer → CardPlayer → ℕ → List ℤ → List ℤ → Type 0
PlaysAndPublishes p q frames old new = PlaysBy (period_of p) p q frames old new

-- fewer frames were played than a buffer has room for: the ring's end came first
abbrev pub EndsEarly : CardPlayer → List ℤ → Type 0
EndsEarly p out = frames_left p out < frames_in p out

-- a position is published where it is a multiple of so many frames, and nothing else is done
pub record PublishesPeriod (frames : ℕ) (p q : CardPlayer) : Type 0 where
  pub played : HasPlayed (seat_of p) (seat_of q) [] (period_at frames (frame_of p))
  pub next : next_of_player (seat_of q) ≡ next_of_player (seat_of p)
  pub period : period_of q ≡ period_of p
