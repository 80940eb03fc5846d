-- The text of an error: its name, and a number where it has one.
use Rattle.std.specs.Prelude.{ℕ, List, ◌++◌, Option, Some, None, codes}
use Rattle.std.specs.Fmt.{decimal}
use Rattle.wav_io.specs.declared.error.WavError.{WavError}
use Rattle.wav_io.specs.declared.error.WavError.TheVariants.{NotRiff, NotWave, NoFormat, FormatTwice, ShortFormat, Tag, Bits, Channels, RateZero, NoData, TooLong, Memory}

-- the name of an error
abbrev pub error_name : WavError → List ℕ
error_name NotRiff = codes "NotRiff"
error_name NotWave = codes "NotWave"
error_name NoFormat = codes "NoFormat"
error_name FormatTwice = codes "FormatTwice"
error_name ShortFormat = codes "ShortFormat"
error_name (Tag number) = codes "Tag"
error_name (Bits number) = codes "Bits"
error_name (Channels number) = codes "Channels"
error_name RateZero = codes "RateZero"
error_name NoData = codes "NoData"
error_name TooLong = codes "TooLong"
error_name Memory = codes "Memory"

-- the number of an error, where it has one
abbrev pub error_number : WavError → Option ℕ
error_number (Tag number) = Some number
error_number (Bits number) = Some number
error_number (Channels number) = Some number
error_number other = None

-- a name, and a number after a space where there is one
abbrev pub with_number : List ℕ → Option ℕ → List ℕ
with_number name None = name
with_number name (Some number) = name ++ (codes " " ++ decimal number)

-- the text of an error
abbrev pub error_text : WavError → List ℕ
error_text error = with_number (error_name error) (error_number error)
