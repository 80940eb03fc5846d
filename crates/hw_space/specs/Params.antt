-- Where a space keeps a parameter.
use Rattle.hw_space.specs.declared.quantity.Quantity.TheVariants as quantities
use Rattle.hw_space.specs.declared.param.Param.{Param}
use Rattle.hw_space.specs.declared.param.Param.TheVariants.{Access, Format, SampleBits, FrameBits, Channels, Rate, PeriodTime, PeriodSize, PeriodBytes, Periods, BufferTime, BufferSize, BufferBytes}
use Rattle.hw_space.specs.declared.param.ParamKind.{ParamKind}
use Rattle.hw_space.specs.declared.param.ParamKind.TheVariants as kinds

-- the masks, and the quantities with an interval
abbrev pub kind_of : Param → ParamKind
kind_of Access = kinds.Access
kind_of Format = kinds.Format
kind_of SampleBits = kinds.Number quantities.SampleBits
kind_of FrameBits = kinds.Number quantities.FrameBits
kind_of Channels = kinds.Number quantities.Channels
kind_of Rate = kinds.Number quantities.Rate
kind_of PeriodTime = kinds.Number quantities.PeriodTime
kind_of PeriodSize = kinds.Number quantities.PeriodSize
kind_of PeriodBytes = kinds.Number quantities.PeriodBytes
kind_of Periods = kinds.Number quantities.Periods
kind_of BufferTime = kinds.Number quantities.BufferTime
kind_of BufferSize = kinds.Number quantities.BufferSize
kind_of BufferBytes = kinds.Number quantities.BufferBytes

abbrev pub IsNumber : ParamKind → Type 0
IsNumber (kinds.Number q) = Unit {0}
IsNumber kinds.Access = ⊥
IsNumber kinds.Format = ⊥

-- a parameter has an interval
abbrev pub HasInterval : Param → Type 0
HasInterval p = IsNumber (kind_of p)
