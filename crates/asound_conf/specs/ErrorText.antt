-- The text of a refusal: the number of its line, and its cause by its name, with a number where it has one.
use Rattle.std.specs.Prelude.{ℕ, List, ◌++◌, Option, Some, None, codes}
use Rattle.std.specs.Fmt.{decimal}
use Rattle.asound_conf.specs.declared.error.ConfWhy.{ConfWhy}
use Rattle.asound_conf.specs.declared.error.ConfWhy.TheVariants.{TooLong, Byte, Escape, Unclosed, Include, Function, Prefix, Key, Close, Value, Deep, Kind, Missing, PluginType, Format, Number, Range, Fit, BindingKey, BindingsEmpty, BindingsTooMany, BindingRange, BindingTwice, Memory}
use Rattle.asound_conf.specs.declared.error.ConfError.{ConfError}

-- the name of a cause
abbrev pub why_name : ConfWhy → List ℕ
why_name TooLong = codes "TooLong"
why_name Byte = codes "Byte"
why_name Escape = codes "Escape"
why_name Unclosed = codes "Unclosed"
why_name Include = codes "Include"
why_name Function = codes "Function"
why_name Prefix = codes "Prefix"
why_name Key = codes "Key"
why_name Close = codes "Close"
why_name Value = codes "Value"
why_name Deep = codes "Deep"
why_name Kind = codes "Kind"
why_name Missing = codes "Missing"
why_name PluginType = codes "PluginType"
why_name Format = codes "Format"
why_name Number = codes "Number"
why_name Range = codes "Range"
why_name Fit = codes "Fit"
why_name BindingKey = codes "BindingKey"
why_name BindingsEmpty = codes "BindingsEmpty"
why_name BindingsTooMany = codes "BindingsTooMany"
why_name (BindingRange number) = codes "BindingRange"
why_name (BindingTwice number) = codes "BindingTwice"
why_name Memory = codes "Memory"

-- the number of a cause, where it has one
abbrev pub why_number : ConfWhy → Option ℕ
why_number (BindingRange number) = Some number
why_number (BindingTwice number) = Some number
why_number other = None

-- a name, and a number after a space where there is one
abbrev pub with_number : List ℕ → Option ℕ → List ℕ
with_number name None = name
with_number name (Some number) = name ++ (codes " " ++ decimal number)

-- the text of a cause
abbrev pub why_text : ConfWhy → List ℕ
why_text why = with_number (why_name why) (why_number why)

-- the text of a refusal: the number of its line, and why
abbrev pub error_text : ConfError → List ℕ
error_text error = codes "line " ++ (decimal error.line ++ (codes ": " ++ why_text error.why))
