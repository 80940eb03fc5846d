-- The room that a card wants for a phase.
use Rattle.std.specs.Prelude.{◌≡◌, ℕ, ◌+◌, ◌*◌, ◌≤◌, List, vec_capacity, vec_len}
use Rattle.snd_base.specs.Places.{end_frame}
use Rattle.lab_lines.specs.declared.line.Op.{Op}
use Rattle.card_sim.specs.Runs.{period_of}
use Rattle.lab_card.specs.declared.card.CardActor.{CardActor}
use Rattle.lab_card.specs.CardLines.{frames_by}
use Rattle.lab_card.specs.Moves.{frame_of_card, geometry_of_card}

-- the frames that a card plays by what it is asked for are before its rings' end
abbrev pub FitsRing : CardActor → List Op → Type 0
FitsRing a ops = frame_of_card a.card + frames_by ops ≤ end_frame (geometry_of_card a.card)

-- there is room for so many rows, for the samples of so many frames, and for the captured samples of a period
pub record HasRoom (a : CardActor) (count frames : ℕ) : Type 0 where
  pub rows : vec_len a.rows + count ≤ vec_capacity a.rows
  pub played : vec_len a.played + frames * (geometry_of_card a.card).channels ≤ vec_capacity
      a.played
  pub captured : period_of a.card * (geometry_of_card a.card).channels ≤ vec_capacity a.captured

-- a card has so many rows more, and the samples of so many frames more, of the same shape; no room was given back
pub record KeepsRoom (a b : CardActor) (count frames : ℕ) : Type 0 where
  pub geometry : geometry_of_card b.card ≡ geometry_of_card a.card
  pub period : period_of b.card ≡ period_of a.card
  pub rows : vec_len b.rows ≡ vec_len a.rows + count
  pub played : vec_len b.played ≡ vec_len a.played + frames * (geometry_of_card a.card).channels
  pub rows_room : vec_capacity a.rows ≤ vec_capacity b.rows
  pub played_room : vec_capacity a.played ≤ vec_capacity b.played
  pub captured_room : vec_capacity a.captured ≤ vec_capacity b.captured
