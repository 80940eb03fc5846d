-- What a duplex card captures, plays and publishes.
use Rattle.std.specs.Prelude.{◌≡◌, ℕ, ◌+◌, ◌*◌, ◌≤◌, ◌++◌, ℤ, Bool, if◌then◌else◌, List, [], length, take, drop}
use Rattle.snd_base.specs.Places.{end_frame}
use Rattle.sum_table.specs.Players.{next_of_player}
use Rattle.card_player.specs.declared.player.CardPlayer.{CardPlayer}
use Rattle.card_player.specs.Plays.{HasPlayed, TakesFrameAt, at_frame, frame_of, frames_left, geometry_of, positions_of, rest_of, first_samples, seat_of}
use Rattle.snoop_table.specs.declared.seats.writer.WriterSeat.{WriterSeat}
use Rattle.snoop_table.specs.Writers.{writer_geometry, writer_ring, writer_track}
use Rattle.card_sim.specs.declared.card.Card.{Card}
use Rattle.card_sim.specs.Moments.{Moment, moments_of, position_of_writer}
use Rattle.card_sim.specs.Steps.{AreInStep, AreSeatsOfCard, IsAtPublished}

-- a card's player and writer, its period, and whether it records
abbrev pub player_of : Card → CardPlayer
player_of c = c.player

abbrev pub writer_of : Card → WriterSeat
writer_of c = c.writer

abbrev pub period_of : Card → ℕ
period_of c = c.period

abbrev pub records_of : Card → Bool
records_of c = c.records

-- what a card captures of some samples, positions or moments: all of them where it records, and none where it doesn't
abbrev pub captured_if : {T : Type 0} → Bool → List T → List T
captured_if records xs = if records then xs else []

-- the writer stored these samples more, in the order of frames and channels, published these positions, and did nothing else
pub record HasCaptured (w v : WriterSeat) (samples : List ℤ) (positions : List ℕ) : Type 0 where
  pub ring : writer_ring v ≡ writer_ring w
  pub geometry : writer_geometry v ≡ writer_geometry w
  pub stored : (writer_track v).stored ≡ (writer_track w).stored ++ samples
  pub published : (writer_track v).published ≡ (writer_track w).published ++ positions
  pub gone : (writer_track v).gone ≡ (writer_track w).gone

-- A card can run for so many frames: its seats are in step, its position is published, and both buffers hold so many frames, which the rings still have.
pub record CanRun (p : CardPlayer) (w : WriterSeat) (period frames : ℕ)
    (captured out : List ℤ) : Type 0 where
  pub period_least : 1 ≤ period
  pub in_step : AreInStep p w
  pub published : IsAtPublished p
  pub captured_holds : frames * (geometry_of p).channels ≤ length captured
  pub out_holds : frames * (geometry_of p).channels ≤ length out
  pub rings_hold : frame_of p + frames ≤ end_frame (geometry_of p)

-- one frame was captured and played, of the samples from an index of both buffers on; nothing was published
pub record RunsFrame (p : CardPlayer) (w : WriterSeat) (q : CardPlayer) (v : WriterSeat)
    (at : ℕ) (captured old new : List ℤ) : Type 0 where
  pub stored : HasCaptured w v (drop at (take (at + (geometry_of p).channels) captured)) []
  pub takes : TakesFrameAt p q at old new
  pub in_step : AreInStep q v

-- a position is published on both rings, and nothing else is done
pub record PublishesBoth (p : CardPlayer) (w : WriterSeat) (q : CardPlayer)
    (v : WriterSeat) (positions : List ℕ) : Type 0 where
  pub played : HasPlayed (seat_of p) (seat_of q) [] positions
  pub stored : HasCaptured w v [] positions
  pub next : next_of_player (seat_of q) ≡ next_of_player (seat_of p)
  pub in_step : AreInStep q v

-- So many frames were played, and the sum ring's position published at each multiple of the period, and at the end. Where the card records, as many
-- were captured, and the snoop ring's positions published too.
pub record RunsFrames (records : Bool) (p : CardPlayer) (w : WriterSeat)
    (q : CardPlayer) (v : WriterSeat) (period frames : ℕ) (captured old new : List ℤ) : Type 0 where
  pub played : HasPlayed (seat_of p) (seat_of q) (first_samples p frames new)
      (positions_of period (frame_of p) frames)
  pub stored : HasCaptured w v (captured_if records (first_samples p frames captured))
      (captured_if records (positions_of period (frame_of p) frames))
  pub next : next_of_player (seat_of q) ≡ at_frame (frame_of p + frames)
  pub in_step : AreSeatsOfCard records q v
  pub rest : rest_of p frames new ≡ rest_of p frames old

-- a card runs for as many frames as its buffers hold and its rings have
abbrev pub RunsThrough : Card → Card → List ℤ → List ℤ → List ℤ → Type 0
RunsThrough c d captured old new =
    RunsFrames (records_of c) (player_of c) (writer_of c) (player_of d) (writer_of d)
    (period_of c) (frames_left (player_of c) old) captured old new

-- what is seen of that run: nothing where the card doesn't record
abbrev pub moments_through : Card → List ℤ → List Moment
moments_through c out =
    captured_if (records_of c)
    (moments_of (period_of c) (frame_of (player_of c)) (position_of_writer (writer_of c))
    (frames_left (player_of c) out))
