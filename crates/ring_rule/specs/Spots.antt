-- Where a seat finds the words of a ring.
use Rattle.std.specs.Prelude.{◌≡◌, ℕ, ◌*◌, ◌<◌}
use Rattle.snd_base.specs.declared.geometry.Geometry.{Geometry}
use Rattle.snd_base.specs.Places.{lap}
use Rattle.ring_rule.specs.declared.spots.LapStart.{LapStart}
use Rattle.ring_rule.specs.declared.spots.Spot.{Spot}
use Rattle.ring_rule.specs.Words.{index_of}

-- the first frame of a lap that words can have
pub record IsLapStart (g : Geometry) (s : LapStart) : Type 0 where
  pub frame_is : s.frame ≡ s.lap * g.frames
  pub fits : s.lap < 4294967295

-- where the word of a frame and channel is
pub record IsSpot (g : Geometry) (f c : ℕ) (s : Spot) : Type 0 where
  pub lap_is : s.lap ≡ lap g f
  pub index_is : s.index ≡ index_of g f c
