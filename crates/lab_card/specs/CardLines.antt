-- What the lines of a card did in a phase: its part of a run.
use Rattle.std.specs.Prelude.{◌≡◌, ℕ, ◌+◌, Bool, ℤ, List, [], ◌∷◌, ◌++◌, Option}
use Rattle.std.specs.List.{list_any, sum_by}
use Rattle.wav_io.specs.Sound.{Sound}
use Rattle.lab_lines.specs.declared.line.Op.{Op}
use Rattle.lab_lines.specs.declared.line.Op.TheVariants as op
use Rattle.lab_lines.specs.Script.{is_unplug, played_by}
use Rattle.lab_run.specs.Phases.{card_rows}
use Rattle.card_player.specs.Plays.{positions_of}
use Rattle.card_sim.specs.Runs.{period_of}
use Rattle.lab_card.specs.declared.card.CardActor.{CardActor}
use Rattle.lab_card.specs.Captures.{captured_frames}
use Rattle.lab_card.specs.Moves.{CardMoves, frame_of_card, frames_since_first, geometry_of_card}

-- how many frames a card plays by what is asked for, in order
abbrev pub frames_by : List Op → ℕ
frames_by ops = sum_by played_by ops

-- the positions that it publishes from a frame on: in each `play` the multiples of its period, and the position at the end of it
abbrev pub positions_at : ℕ → ℕ → Op → List ℕ
positions_at period from (op.Play frames) = positions_of period from frames
positions_at period from other = []

abbrev pub positions_by : ℕ → ℕ → List Op → List ℕ
positions_by period from [] = []
positions_by period from (asked ∷ ops) =
    positions_at period from asked ++ positions_by period (from + played_by asked) ops

-- whether it is unplugged
abbrev pub unplugs_by : List Op → Bool
unplugs_by ops = list_any is_unplug ops

-- a card of a run played so many frames, and published these positions: the samples that it took are after those that it has, and it captured the
-- next ones of the capture file
pub record CardDid (capture : Option Sound) (a b : CardActor) (frames : ℕ)
    (positions : List ℕ) (unplugged : Bool) : Type 0 where
  pub samples : List ℤ
  pub moves : CardMoves a.card b.card frames samples
      (captured_frames capture (geometry_of_card a.card).channels (frames_since_first a.card)
      frames) positions unplugged
  pub played : b.played.items ≡ a.played.items ++ samples

-- a card did what it was asked for, in order, with these rows
pub record CardPart (capture : Option Sound) (phase : ℕ) (a b : CardActor)
    (ops : List Op) : Type 0 where
  pub did : CardDid capture a b (frames_by ops)
      (positions_by (period_of a.card) (frame_of_card a.card) ops) (unplugs_by ops)
  pub rows : b.rows.items ≡ a.rows.items ++ card_rows phase (frame_of_card a.card) ops
