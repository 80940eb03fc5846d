-- Frames that are divided between two parts of the data.
use Rattle.std.specs.Prelude.{◌≡◌, ℕ, ◌*◌, ◌<◌, List, ◌++◌, length}

-- a part of a frame and a body are whole frames of this size, and less than a frame
pub record IsCut (size : ℕ) (part body whole rest : List ℕ) : Type 0 where
  pub frames : ℕ
  pub all : whole ++ rest ≡ part ++ body
  pub whole_frames : length whole ≡ frames * size
  pub less : length rest < size
