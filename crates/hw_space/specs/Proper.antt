-- What is known of every space: it lies within the widest space of some slave.
use Rattle.std.specs.Prelude.{◌≢◌, ◌≤◌, IsTrue}
use Rattle.pcm_interval.specs.Intervals.{IsNonEmpty}
use Rattle.pcm_interval.specs.Arithmetic.{end_max}
use Rattle.hw_space.specs.declared.param_box.ParamBox.{ParamBox}
use Rattle.hw_space.specs.declared.quantity.Quantity.{Quantity}
use Rattle.hw_space.specs.Boxes.{part}

-- no part is empty, and the numbers are within the ranges of all slaves
pub record IsProper (b : ParamBox) : Type 0 where
  pub access : b.access.bits ≢ 0
  pub format : b.format.bits ≢ 0
  pub filled : (q : Quantity) → IsNonEmpty (part b q)
  pub positive : (q : Quantity) → 1 ≤ (part b q).min
  pub capped : (q : Quantity) → (part b q).max ≤ end_max
  pub channels : b.channels.max ≤ 8
  pub slowest : 4000 ≤ b.rate.min
  pub fastest : b.rate.max ≤ 192000
  pub period_size : b.period_size.max ≤ 8192
  pub periods : b.periods.max ≤ 1024
  pub buffer_size : b.buffer_size.max ≤ 16384
  pub whole_channels : IsTrue b.channels.integer
  pub whole_rate : IsTrue b.rate.integer
  pub whole_period_size : IsTrue b.period_size.integer
  pub whole_periods : IsTrue b.periods.integer
  pub whole_buffer_size : IsTrue b.buffer_size.integer
