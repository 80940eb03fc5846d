-- The names of the hardware parameters, and the values that a line can give for them.
use Rattle.std.specs.Prelude.{ℕ, Bool, true, false, List, [], ◌∷◌, codes, find, Option, if◌then◌else◌}
use Rattle.std.specs.Str.{bytes_eq}
use Rattle.hw_space.specs.declared.param.Param.{Param}
use Rattle.hw_space.specs.declared.param.Param.TheVariants.{Access, Format, SampleBits, FrameBits, Channels, Rate, PeriodTime, PeriodSize, PeriodBytes, Periods, BufferTime, BufferSize, BufferBytes}

-- the parameter's name
abbrev pub param_name : Param → List ℕ
param_name Access = codes "access"
param_name Format = codes "format"
param_name SampleBits = codes "sample_bits"
param_name FrameBits = codes "frame_bits"
param_name Channels = codes "channels"
param_name Rate = codes "rate"
param_name PeriodTime = codes "period_time"
param_name PeriodSize = codes "period_size"
param_name PeriodBytes = codes "period_bytes"
param_name Periods = codes "periods"
param_name BufferTime = codes "buffer_time"
param_name BufferSize = codes "buffer_size"
param_name BufferBytes = codes "buffer_bytes"

-- every parameter
unfoldable pub all_params : List Param
all_params =
    Access ∷ Format ∷ SampleBits ∷ FrameBits ∷ Channels ∷ Rate ∷ PeriodTime ∷ PeriodSize ∷ PeriodBytes ∷ Periods ∷ BufferTime
    ∷ BufferSize ∷ BufferBytes ∷ []

-- a word is the parameter's name
abbrev pub has_name : List ℕ → Param → Bool
has_name word param = bytes_eq (param_name param) word

-- the parameter of a name
abbrev pub param_of : List ℕ → Option Param
param_of word = find (has_name word) all_params

-- a parameter is a set of numbered members: the access and the format; the others are intervals
abbrev pub is_mask : Param → Bool
is_mask Access = true
is_mask Format = true
is_mask param = false

-- the greatest value that a line can give for a parameter
abbrev pub most_of : Param → ℕ
most_of param = if is_mask param then 63 else 4294967295
