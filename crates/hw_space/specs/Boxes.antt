-- Boxes: an interval or a mask for each parameter, and which box lies within which.
use Rattle.std.specs.Prelude.{ℕ, ◌+◌}
use Rattle.pcm_interval.specs.declared.interval.Interval.{Interval}
use Rattle.pcm_interval.specs.Intervals.{IsIntervalWithin, size_of}
use Rattle.pcm_interval.specs.Masks.{IsMaskWithin}
use Rattle.hw_space.specs.declared.param_box.ParamBox.{ParamBox}
use Rattle.hw_space.specs.declared.quantity.Quantity.{Quantity}
use Rattle.hw_space.specs.declared.quantity.Quantity.TheVariants.{SampleBits, FrameBits, Channels, Rate, PeriodTime, PeriodSize, PeriodBytes, Periods, BufferTime, BufferSize, BufferBytes}

-- the interval of a quantity
abbrev pub part : ParamBox → Quantity → Interval
part b SampleBits = b.sample_bits
part b FrameBits = b.frame_bits
part b Channels = b.channels
part b Rate = b.rate
part b PeriodTime = b.period_time
part b PeriodSize = b.period_size
part b PeriodBytes = b.period_bytes
part b Periods = b.periods
part b BufferTime = b.buffer_time
part b BufferSize = b.buffer_size
part b BufferBytes = b.buffer_bytes

-- the box with another interval for a quantity
abbrev pub with_part : ParamBox → Quantity → Interval → ParamBox
with_part b SampleBits i = record b { sample_bits = i }
with_part b FrameBits i = record b { frame_bits = i }
with_part b Channels i = record b { channels = i }
with_part b Rate i = record b { rate = i }
with_part b PeriodTime i = record b { period_time = i }
with_part b PeriodSize i = record b { period_size = i }
with_part b PeriodBytes i = record b { period_bytes = i }
with_part b Periods i = record b { periods = i }
with_part b BufferTime i = record b { buffer_time = i }
with_part b BufferSize i = record b { buffer_size = i }
with_part b BufferBytes i = record b { buffer_bytes = i }

-- one box lies within another where every part does
pub record IsBoxWithin (a b : ParamBox) : Type 0 where
  pub access : IsMaskWithin a.access b.access
  pub format : IsMaskWithin a.format b.format
  pub parts : (q : Quantity) → IsIntervalWithin (part a q) (part b q)

-- how far a box can still be narrowed: each change makes this smaller
abbrev pub size_of_box : ParamBox → ℕ
size_of_box b =
    b.access.bits + b.format.bits
    + size_of b.sample_bits
    + size_of b.frame_bits
    + size_of b.channels
    + size_of b.rate
    + size_of b.period_time
    + size_of b.period_size
    + size_of b.period_bytes
    + size_of b.periods
    + size_of b.buffer_time
    + size_of b.buffer_size
    + size_of b.buffer_bytes
