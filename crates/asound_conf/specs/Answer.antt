-- What a call answers, beside what is given.
use Rattle.std.specs.Prelude.{◌≡◌, Result, Ok, Err}
use Rattle.asound_conf.specs.declared.error.ConfWhy.{ConfWhy}
use Rattle.asound_conf.specs.declared.error.ConfWhy.TheVariants as why

-- what a call gave, seen by view
abbrev pub answer_view : {X Y : Type 0} → (X → Y) → Result X ConfWhy → Result Y ConfWhy
answer_view view (Ok x) = Ok (view x)
answer_view view (Err e) = Err e

-- a cause of a call is the one that is given, unless memory ran out
abbrev pub Refuses : {X : Type 0} → ConfWhy → Result X ConfWhy → Type 0
Refuses why.Memory given = Unit {0}
Refuses cause given = given ≡ Err cause

-- where a call led is where is given, unless memory ran out
abbrev pub Leads : {X S : Type 0} → Result X ConfWhy → S → Result S ConfWhy → Type 0
Leads (Ok x) new given = given ≡ Ok new
Leads (Err cause) new given = Refuses cause given
