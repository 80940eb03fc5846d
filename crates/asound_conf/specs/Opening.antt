-- Where a reader is among the groups of rows.
use Rattle.std.specs.Prelude.{◌≡◌, ℕ, ◌<◌, ◌≤◌, ◌+◌, nat_lt, false, if◌then◌else◌, List, [], ◌∷◌, ◌++◌, length, map, take, Option, Some, None}
use Rattle.asound_conf.specs.declared.bracket.Awaits.{Awaits}
use Rattle.asound_conf.specs.declared.bracket.Awaits.TheVariants.{Item, Value}
use Rattle.asound_conf.specs.declared.bracket.Bracket as code
use Rattle.asound_conf.specs.declared.error.ConfWhy.{ConfWhy}
use Rattle.asound_conf.specs.declared.error.ConfWhy.TheVariants as why
use Rattle.asound_conf.specs.declared.part.Part as part
use Rattle.asound_conf.specs.Grammar.{Bracket, State}
use Rattle.asound_conf.specs.Key.{Part, key_defect, without_marks}
use Rattle.asound_conf.specs.Parts.{parts_in}
use Rattle.asound_conf.specs.Place.{meets_text}
use Rattle.asound_conf.specs.Rows.{Contents, group_of}
use Rattle.asound_conf.specs.Tree.{Entries}
use Rattle.asound_conf.specs.Way.{IsWay}

-- the bracket of the grammar
abbrev pub bracket_of : code.Bracket → Bracket
bracket_of b = record { line = b.line; array = b.array; names = b.names; values = b.values }

-- the state of the grammar: a path leads to the innermost group, and a key from there to the place of what comes next
abbrev pub state_in : Contents → List part.Part → List part.Part → code.Bracket → List code.Bracket → Awaits → State
state_in c path key here outer awaits = record {
  root = group_of 0 c.rows;
  path = without_marks (parts_in c.text path) ++ parts_in c.text key;
  here = bracket_of here;
  outer = map bracket_of outer;
  awaits = awaits;
}

-- there is no part of a key before an item, and there are some before a value, of which those before the last meet no text
abbrev pub IsKeyed : Contents → List part.Part → code.Bracket → Awaits → Type 0
IsKeyed c key here (Item separator) = length key ≡ 0
IsKeyed c key here (Value equals) = (1 ≤ length key) × (meets_text (parts_in c.text key) (group_of here.group c.rows) ≡ false)

-- a path leads to the group of the innermost bracket
pub record IsHere (c : Contents) (path : List part.Part) (here : code.Bracket) : Type 0 where
  pub inside : here.group < length c.rows
  pub depth : here.names ≡ length path
  pub way : IsWay c.rows 0 (without_marks (parts_in c.text path)) here.group

-- the first parts of a path lead to the groups of the brackets around a bracket
abbrev pub AreAround : Contents → List part.Part → code.Bracket → List code.Bracket → Type 0
AreAround c path here [] = Unit {0}
AreAround c path here (b ∷ outer) = (b.names ≤ here.names) × (b.group ≤ here.group) × IsWay c.rows 0 (without_marks (parts_in c.text (take b.names path))) b.group × AreAround c path b outer

-- where a reader is that has these nodes, a path to its innermost bracket, a key, the brackets around and what may come next
pub record IsOpen (c : Contents) (path key : List part.Part) (here : code.Bracket) (outer : List code.Bracket) (awaits : Awaits) : Type 0 where
  pub keyed : IsKeyed c key here awaits
  pub innermost : IsHere c path here
  pub around : AreAround c path here outer

-- a cause, or else another one
abbrev pub or_cause : Option ConfWhy → Option ConfWhy → Option ConfWhy
or_cause (Some cause) other = Some cause
or_cause None other = other

-- why a key of these parts is refused, where so many parts lead to this group
abbrev pub key_cause : ℕ → List Part → Entries → Option ConfWhy
key_cause names parts g = or_cause (key_defect parts) (if nat_lt 16 (names + length parts) then Some why.Deep else if meets_text parts g then Some why.Kind else None)
