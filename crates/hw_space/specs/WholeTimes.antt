-- Sizes whose time is a whole number of microseconds.
use Rattle.std.specs.Prelude.{◌≡◌, ℕ, ◌*◌, ◌%◌, ◌<◌, ◌≤◌}
use Rattle.hw_space.specs.declared.quantity.Quantity.{Quantity}
use Rattle.hw_space.specs.declared.quantity.Quantity.TheVariants.{PeriodTime, PeriodSize, BufferTime, BufferSize}
use Rattle.hw_space.specs.declared.whole_time.Span.{Span}
use Rattle.hw_space.specs.declared.whole_time.Span.TheVariants.{Period, Buffer}

-- so many frames take a whole number of microseconds at a rate
abbrev pub HasWholeTime : ℕ → ℕ → Type 0
HasWholeTime rate size = size * 1000000 % rate ≡ 0

-- no size from one number on, below another, does
pub record HasNoneFrom (rate least below : ℕ) : Type 0 where
  pub none : (k : ℕ) → least ≤ k → k < below → ¬ HasWholeTime rate k

-- the size of a span, and its time
abbrev pub size_of_span : Span → Quantity
size_of_span Period = PeriodSize
size_of_span Buffer = BufferSize

abbrev pub time_of_span : Span → Quantity
time_of_span Period = PeriodTime
time_of_span Buffer = BufferTime
