-- What the reader's calls do, seen by the grammar.
use Rattle.std.specs.Prelude.{◌≡◌, List, [], take, drop, reverse, Option, Some, None, Result, Ok, Err, Bool, true, false}
use Rattle.asound_conf.specs.declared.error.ConfError.{ConfError}
use Rattle.asound_conf.specs.declared.error.ConfWhy.{ConfWhy}
use Rattle.asound_conf.specs.declared.error.ConfWhy.TheVariants as why
use Rattle.asound_conf.specs.declared.part.Part.{Part}
use Rattle.asound_conf.specs.declared.reading.Reading.{Reading}
use Rattle.asound_conf.specs.Grammar.{State}
use Rattle.asound_conf.specs.Opening.{IsOpen, state_in}
use Rattle.asound_conf.specs.Tree.{Entries}

-- the parts that lead to the innermost group
abbrev pub path_of : Reading → List Part
path_of r = take r.here.names r.path.items

-- the parts of a key after them
abbrev pub rest_of_key : Reading → List Part
rest_of_key r = drop r.here.names r.path.items

-- where the reader is
abbrev pub state_of : Reading → State
state_of r = state_in r.table (path_of r) (rest_of_key r) r.here (reverse r.outer.items) r.awaits

-- where the reader was before the key
abbrev pub before_key : Reading → State
before_key r = state_in r.table (path_of r) [] r.here (reverse r.outer.items) r.awaits

-- the ways of a reader lead where it is
abbrev pub IsReading : Reading → Type 0
IsReading r = IsOpen r.table (path_of r) (rest_of_key r) r.here (reverse r.outer.items) r.awaits

-- they lead where it was before the key
abbrev pub IsBeforeKey : Reading → Type 0
IsBeforeKey r = IsOpen r.table (path_of r) [] r.here (reverse r.outer.items) r.awaits

-- a value can come where a call led, or it can't and nothing changed
abbrev pub Places : Result Bool ConfWhy → State → State → Option State → Type 0
Places (Ok true) old new place = place ≡ Some new
Places (Ok false) old new place = (place ≡ None) × (new ≡ old)
Places (Err cause) old new place = cause ≡ why.Memory

-- an error of a call is the one that is given, unless memory ran out
abbrev pub RefusesText : ConfWhy → ConfError → Result Entries ConfError → Type 0
RefusesText why.Memory e given = Unit {0}
RefusesText cause e given = given ≡ Err e

-- what a call read is what is given, unless memory ran out
abbrev pub Reads : Result Entries ConfError → Result Entries ConfError → Type 0
Reads (Ok g) given = given ≡ Ok g
Reads (Err e) given = RefusesText e.why e given
