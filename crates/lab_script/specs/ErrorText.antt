-- The text of a refusal: the number of its line, and its cause by its name, with a number where it has one.
use Rattle.std.specs.Prelude.{ℕ, List, ◌++◌, Option, Some, None, codes}
use Rattle.std.specs.Fmt.{decimal}
use Rattle.lab_script.specs.declared.error.ScriptWhy.{ScriptWhy}
use Rattle.lab_script.specs.declared.error.ScriptWhy.TheVariants.{Order, Word, Missing, Extra, Name, File, Number, Range, KeyTwice, NameTwice, TooMany, Fit, BindingsEmpty, BindingsTooMany, BindingRange, BindingTwice, Alone, Unplugged, Frames, LapEnd, Unended, NoCard, TooLong, Memory}
use Rattle.lab_script.specs.declared.error.ScriptError.{ScriptError}

-- the name of a cause
abbrev pub why_name : ScriptWhy → List ℕ
why_name Order = codes "Order"
why_name Word = codes "Word"
why_name Missing = codes "Missing"
why_name Extra = codes "Extra"
why_name Name = codes "Name"
why_name File = codes "File"
why_name Number = codes "Number"
why_name Range = codes "Range"
why_name KeyTwice = codes "KeyTwice"
why_name NameTwice = codes "NameTwice"
why_name TooMany = codes "TooMany"
why_name Fit = codes "Fit"
why_name BindingsEmpty = codes "BindingsEmpty"
why_name BindingsTooMany = codes "BindingsTooMany"
why_name (BindingRange number) = codes "BindingRange"
why_name (BindingTwice number) = codes "BindingTwice"
why_name Alone = codes "Alone"
why_name Unplugged = codes "Unplugged"
why_name Frames = codes "Frames"
why_name LapEnd = codes "LapEnd"
why_name Unended = codes "Unended"
why_name NoCard = codes "NoCard"
why_name TooLong = codes "TooLong"
why_name Memory = codes "Memory"

-- the number of a cause, where it has one
abbrev pub why_number : ScriptWhy → Option ℕ
why_number (BindingRange number) = Some number
why_number (BindingTwice number) = Some number
why_number other = None

-- a name, and a number after a space where there is one
abbrev pub with_number : List ℕ → Option ℕ → List ℕ
with_number name None = name
with_number name (Some number) = name ++ (codes " " ++ decimal number)

-- the text of a cause
abbrev pub why_text : ScriptWhy → List ℕ
why_text why = with_number (why_name why) (why_number why)

-- the text of a refusal: the number of its line, and why
abbrev pub error_text : ScriptError → List ℕ
error_text error = codes "line " ++ (decimal error.line ++ (codes ": " ++ why_text error.why))
