-- What follows from a value, and from a test, on a line of a report that is read word by word: the value after it, or why the text is refused.
use Rattle.std.specs.Prelude.{◌≡◌, Option, Some, None, Result, Ok, Err}
use Rattle.lab_report.specs.declared.error.ReportWhy.{ReportWhy}
use Rattle.lab_report.specs.declared.error.ReportWhy.TheVariants as why

-- what follows from a value where there is one; otherwise the first cause stays
infixl 10 ◌>>=◌
abbrev pub ◌>>=◌ : {A B : Type 0} → Result A ReportWhy → (A → Result B ReportWhy) → Result B ReportWhy
(Ok x) >>= f = f x
(Err e) >>= f = Err e

-- a value, or a cause where there is none
abbrev pub some_or : {A : Type 0} → ReportWhy → Option A → Result A ReportWhy
some_or cause None = Err cause
some_or cause (Some x) = Ok x

-- an error of a call is the one that is said, unless memory ran out
abbrev pub Refuses : {X : Type 0} → ReportWhy → Result X ReportWhy → Type 0
Refuses why.Memory said = Unit {0}
Refuses w said = said ≡ Err w

-- what a call gave, seen by view, is what is said, unless memory ran out
abbrev pub Gives : {X Y : Type 0} → (X → Y) → Result X ReportWhy → Result Y ReportWhy → Type 0
Gives view (Ok x) said = said ≡ Ok (view x)
Gives view (Err e) said = Refuses e said
