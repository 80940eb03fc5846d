-- The widest box of a slave, and intervals to narrow with.
use Rattle.std.specs.Prelude.{ℕ, ◌/◌, ◌^◌, false, true}
use Rattle.pcm_interval.specs.declared.interval.Interval.{Interval}
use Rattle.pcm_interval.specs.declared.mask.Mask.{Mask}
use Rattle.pcm_interval.specs.Arithmetic.{end_max}
use Rattle.hw_space.specs.declared.param_box.ParamBox.{ParamBox}

-- the whole numbers from one to another
abbrev pub whole_from_to : ℕ → ℕ → Interval
whole_from_to least most = record {
  min = least;
  max = most;
  openmin = false;
  openmax = false;
  integer = true;
}

-- all fractions from one number to another
abbrev pub from_to : ℕ → ℕ → Interval
from_to least most = record {
  min = least;
  max = most;
  openmin = false;
  openmax = false;
  integer = false;
}

-- the mask of one number
abbrev pub mask_of_one : ℕ → Mask
mask_of_one n = record { bits = 2 ^ n }

-- the parameters that a slave with so many channels, a rate and a ring leaves to its clients: access RW_INTERLEAVED (3)
-- and format S16_LE (2)
abbrev pub widest : ℕ → ℕ → ℕ → ParamBox
widest channels rate ring = record {
  access = mask_of_one 3;
  format = mask_of_one 2;
  sample_bits = whole_from_to 1 end_max;
  frame_bits = whole_from_to 1 end_max;
  channels = whole_from_to 1 channels;
  rate = whole_from_to rate rate;
  period_time = from_to 1 end_max;
  period_size = whole_from_to 16 (ring / 2);
  period_bytes = whole_from_to 1 end_max;
  periods = whole_from_to 2 1024;
  buffer_time = from_to 1 end_max;
  buffer_size = whole_from_to 32 ring;
  buffer_bytes = whole_from_to 1 end_max;
}
