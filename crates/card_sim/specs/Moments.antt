-- What is seen of a card between the steps of a run.
use Rattle.std.specs.Prelude.{ℕ, zero, suc, ◌+◌, List, [], ◌∷◌, ◌++◌, if◌then◌else◌}
use Rattle.snd_base.specs.declared.places.Cursor.{Cursor}
use Rattle.ring_rule.specs.Positions.{last_number}
use Rattle.sum_table.specs.Players.{next_of_player, position_of_player}
use Rattle.card_player.specs.declared.player.CardPlayer.{CardPlayer}
use Rattle.card_player.specs.Plays.{at_frame, ends_period, is_multiple, periods_to, seat_of}
use Rattle.snoop_table.specs.declared.seats.writer.WriterSeat.{WriterSeat}
use Rattle.snoop_table.specs.Captured.{position_of}
use Rattle.snoop_table.specs.Writers.{next_frame, writer_geometry, writer_track}

-- what both seats of a card are at: the frame that the writer stores next, the word that the player takes next, and the position that
-- was published last on the sum ring and on the snoop ring
pub record Moment : Type 0 where
  pub stores : ℕ
  pub takes : Cursor
  pub played : ℕ
  pub captured : ℕ

-- the position that the writer published last, or the first frame
abbrev pub position_of_writer : WriterSeat → ℕ
position_of_writer w = position_of (writer_geometry w) (writer_track w)

abbrev pub moment_of : CardPlayer → WriterSeat → Moment
moment_of p w = record {
  stores = next_frame w;
  takes = next_of_player (seat_of p);
  played = position_of_player (seat_of p);
  captured = position_of_writer w;
}

-- nothing is seen between a state and itself, and moments after moments are seen one after the other
pub record SightsCompose {T : Type 0} (saw : T → T → List Moment → Type 0) : Type 0 where
  pub none : (a : T) → saw a a []
  pub joined : (a b c : T) (xs ys : List Moment) → saw a b xs → saw b c ys → saw a c (xs ++ ys)

-- the moment at which these frames are stored and taken next, and these positions were published last
abbrev pub moment_at : ℕ → ℕ → ℕ → ℕ → Moment
moment_at stores takes played captured =
    record { stores = stores; takes = at_frame takes; played = played; captured = captured }

-- a frame is stored, and then taken
abbrev pub frame_moments : ℕ → ℕ → ℕ → List Moment
frame_moments frame played captured =
    moment_at (frame + 1) frame played captured ∷ moment_at (frame + 1) (frame + 1) played captured
    ∷ []

-- a frame's number is published on the sum ring, and then on the snoop ring
abbrev pub publish_moments : ℕ → ℕ → List Moment
publish_moments frame captured = moment_at frame frame frame captured
    ∷ moment_at frame frame frame frame ∷ []

-- the same where it is a multiple of the period, and nothing where it isn't
abbrev pub period_moments : ℕ → ℕ → ℕ → List Moment
period_moments period frame captured =
    if is_multiple period frame then publish_moments frame captured else []

-- the last multiple of the period past the first frame, among so many frame numbers, or what was published before where there is none
abbrev pub last_period : ℕ → ℕ → ℕ → ℕ → ℕ
last_period period first before n = last_number before (periods_to period first n)

-- what is seen of so many frames, from the first one on, which was the last position of the sum ring: each is stored and then taken,
-- and each multiple of the period is published on the sum ring and then on the snoop ring
abbrev pub moments_to : ℕ → ℕ → ℕ → ℕ → List Moment
moments_to period first captured zero = []
moments_to period first captured (suc n) =
    moments_to period first captured n
    ++ (frame_moments (first + n) (last_period period first first n)
    (last_period period first captured n)
    ++ period_moments period (first + suc n) (last_period period first captured n))

-- the same, and the end is published, where it isn't a multiple of the period
abbrev pub moments_of : ℕ → ℕ → ℕ → ℕ → List Moment
moments_of period first captured n =
    moments_to period first captured n
    ++ (if ends_period period first n then []
    else publish_moments (first + n) (last_period period first captured n))
