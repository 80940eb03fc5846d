-- Laws of boxes: within is an order, and one part can be changed at a time.
use Rattle.std.specs.Prelude.{◌≡◌, ◌<◌, refl}
use Rattle.std.proofs.Common.{arith, subst}
use Rattle.pcm_interval.specs.declared.interval.Interval.{Interval}
use Rattle.pcm_interval.specs.Intervals.{IsIntervalWithin, size_of}
use Rattle.pcm_interval.specs.IntervalLaws.{IsIntervalWithin-refl, IsIntervalWithin-trans, IsIntervalWithin-antisym}
use Rattle.pcm_interval.specs.MaskLaws.{IsMaskWithin-refl, IsMaskWithin-trans, IsMaskWithin-antisym}
use Rattle.hw_space.specs.declared.param_box.ParamBox.{ParamBox}
use Rattle.hw_space.specs.declared.quantity.Quantity.{Quantity}
use Rattle.hw_space.specs.declared.quantity.Quantity.TheVariants.{SampleBits, FrameBits, Channels, Rate, PeriodTime, PeriodSize, PeriodBytes, Periods, BufferTime, BufferSize, BufferBytes}
use Rattle.hw_space.specs.Boxes.{part, with_part, IsBoxWithin, size_of_box}

-- ---- one part at a time

-- what holds of each part of a box, and of the new interval, holds of each part of the box with that interval
pub with_part-each : (P : Quantity → Interval → Type 0) (b : ParamBox) (q : Quantity) (i : Interval)
    → ((p : Quantity) → P p (part b p)) → P q i → (p : Quantity) → P p (part (with_part b q i) p)
with_part-each P b SampleBits i each here SampleBits = here
with_part-each P b SampleBits i each here p = each p
with_part-each P b FrameBits i each here FrameBits = here
with_part-each P b FrameBits i each here p = each p
with_part-each P b Channels i each here Channels = here
with_part-each P b Channels i each here p = each p
with_part-each P b Rate i each here Rate = here
with_part-each P b Rate i each here p = each p
with_part-each P b PeriodTime i each here PeriodTime = here
with_part-each P b PeriodTime i each here p = each p
with_part-each P b PeriodSize i each here PeriodSize = here
with_part-each P b PeriodSize i each here p = each p
with_part-each P b PeriodBytes i each here PeriodBytes = here
with_part-each P b PeriodBytes i each here p = each p
with_part-each P b Periods i each here Periods = here
with_part-each P b Periods i each here p = each p
with_part-each P b BufferTime i each here BufferTime = here
with_part-each P b BufferTime i each here p = each p
with_part-each P b BufferSize i each here BufferSize = here
with_part-each P b BufferSize i each here p = each p
with_part-each P b BufferBytes i each here BufferBytes = here
with_part-each P b BufferBytes i each here p = each p

-- the changed part
pub part-with_part : (b : ParamBox) (q : Quantity) (i : Interval) → part (with_part b q i) q ≡ i
part-with_part b SampleBits i = refl
part-with_part b FrameBits i = refl
part-with_part b Channels i = refl
part-with_part b Rate i = refl
part-with_part b PeriodTime i = refl
part-with_part b PeriodSize i = refl
part-with_part b PeriodBytes i = refl
part-with_part b Periods i = refl
part-with_part b BufferTime i = refl
part-with_part b BufferSize i = refl
part-with_part b BufferBytes i = refl

-- the masks stay
pub access-with_part : (b : ParamBox) (q : Quantity) (i : Interval) → (with_part b q i).access ≡ b.access
access-with_part b SampleBits i = refl
access-with_part b FrameBits i = refl
access-with_part b Channels i = refl
access-with_part b Rate i = refl
access-with_part b PeriodTime i = refl
access-with_part b PeriodSize i = refl
access-with_part b PeriodBytes i = refl
access-with_part b Periods i = refl
access-with_part b BufferTime i = refl
access-with_part b BufferSize i = refl
access-with_part b BufferBytes i = refl

pub format-with_part : (b : ParamBox) (q : Quantity) (i : Interval) → (with_part b q i).format ≡ b.format
format-with_part b SampleBits i = refl
format-with_part b FrameBits i = refl
format-with_part b Channels i = refl
format-with_part b Rate i = refl
format-with_part b PeriodTime i = refl
format-with_part b PeriodSize i = refl
format-with_part b PeriodBytes i = refl
format-with_part b Periods i = refl
format-with_part b BufferTime i = refl
format-with_part b BufferSize i = refl
format-with_part b BufferBytes i = refl

-- a part that is put back changes nothing
pub with_part-same : (b : ParamBox) (q : Quantity) → with_part b q (part b q) ≡ b
with_part-same b SampleBits = refl
with_part-same b FrameBits = refl
with_part-same b Channels = refl
with_part-same b Rate = refl
with_part-same b PeriodTime = refl
with_part-same b PeriodSize = refl
with_part-same b PeriodBytes = refl
with_part-same b Periods = refl
with_part-same b BufferTime = refl
with_part-same b BufferSize = refl
with_part-same b BufferBytes = refl

-- a smaller part makes a smaller box
pub size_of_box-with_part : (b : ParamBox) (q : Quantity) (i : Interval)
    → size_of i < size_of (part b q) → size_of_box (with_part b q i) < size_of_box b
size_of_box-with_part b SampleBits i smaller = omega (arith, smaller)
size_of_box-with_part b FrameBits i smaller = omega (arith, smaller)
size_of_box-with_part b Channels i smaller = omega (arith, smaller)
size_of_box-with_part b Rate i smaller = omega (arith, smaller)
size_of_box-with_part b PeriodTime i smaller = omega (arith, smaller)
size_of_box-with_part b PeriodSize i smaller = omega (arith, smaller)
size_of_box-with_part b PeriodBytes i smaller = omega (arith, smaller)
size_of_box-with_part b Periods i smaller = omega (arith, smaller)
size_of_box-with_part b BufferTime i smaller = omega (arith, smaller)
size_of_box-with_part b BufferSize i smaller = omega (arith, smaller)
size_of_box-with_part b BufferBytes i smaller = omega (arith, smaller)

-- ---- within is an order

pub IsBoxWithin-refl : (a : ParamBox) → IsBoxWithin a a
IsBoxWithin-refl a = record {
  access = IsMaskWithin-refl a.access;
  format = IsMaskWithin-refl a.format;
  parts = λ q. IsIntervalWithin-refl (part a q);
}

pub IsBoxWithin-trans : (a b c : ParamBox) → IsBoxWithin a b → IsBoxWithin b c → IsBoxWithin a c
IsBoxWithin-trans a b c h g = record {
  access = IsMaskWithin-trans a.access b.access c.access h.access g.access;
  format = IsMaskWithin-trans a.format b.format c.format h.format g.format;
  parts = λ q. IsIntervalWithin-trans (part a q) (part b q) (part c q) (h.parts q) (g.parts q);
}

-- boxes are equal where their parts are
box-equal : (a b : ParamBox) → a.access ≡ b.access → a.format ≡ b.format → ((q : Quantity) → part a q ≡ part b q) → a ≡ b
box-equal a b access format parts = λ k. record {
  access = access k;
  format = format k;
  sample_bits = parts SampleBits k;
  frame_bits = parts FrameBits k;
  channels = parts Channels k;
  rate = parts Rate k;
  period_time = parts PeriodTime k;
  period_size = parts PeriodSize k;
  period_bytes = parts PeriodBytes k;
  periods = parts Periods k;
  buffer_time = parts BufferTime k;
  buffer_size = parts BufferSize k;
  buffer_bytes = parts BufferBytes k;
}

pub IsBoxWithin-antisym : (a b : ParamBox) → IsBoxWithin a b → IsBoxWithin b a → a ≡ b
IsBoxWithin-antisym a b h g =
    box-equal a b
    (IsMaskWithin-antisym a.access b.access h.access g.access)
    (IsMaskWithin-antisym a.format b.format h.format g.format)
    (λ q. IsIntervalWithin-antisym (part a q) (part b q) (h.parts q) (g.parts q))

-- ---- a box with another part

pub IsBoxWithin-with_part : (a b : ParamBox) (q : Quantity) (i : Interval)
    → IsBoxWithin a b → IsIntervalWithin (part a q) i → IsBoxWithin a (with_part b q i)
IsBoxWithin-with_part a b q i h here = record {
  access = rw (access-with_part b q i) h.access;
  format = rw (format-with_part b q i) h.format;
  parts = with_part-each (λ p j. IsIntervalWithin (part a p) j) b q i h.parts here;
}

pub with_part-IsBoxWithin : (b : ParamBox) (q : Quantity) (i : Interval)
    → IsIntervalWithin i (part b q) → IsBoxWithin (with_part b q i) b
with_part-IsBoxWithin b q i here = record {
  access = rw (access-with_part b q i) (IsMaskWithin-refl b.access);
  format = rw (format-with_part b q i) (IsMaskWithin-refl b.format);
  parts = with_part-each (λ p j. IsIntervalWithin j (part b p)) b q i (λ p. IsIntervalWithin-refl (part b p)) here;
}

-- what lies within a box with another part lies there
pub IsBoxWithin-part : (a b : ParamBox) (q : Quantity) (i : Interval) → IsBoxWithin a (with_part b q i) → IsIntervalWithin (part a q) i
IsBoxWithin-part a b q i h =
    let P : Interval → Type 0 = IsIntervalWithin (part a q) in subst P (part-with_part b q i) (h.parts q)
