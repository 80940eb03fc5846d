-- What follows from a value, and from a test, on a line that is read word by word: the value after it, or why the line is refused.
use Rattle.std.specs.Prelude.{◌≡◌, ℕ, Bool, List, [], ◌∷◌, Option, Some, None, Result, Ok, Err, if◌then◌else◌}
use Rattle.lab_script.specs.declared.error.ScriptWhy.{ScriptWhy}
use Rattle.lab_script.specs.declared.error.ScriptWhy.TheVariants as why

-- what follows from a value where there is one; otherwise the first cause stays
infixl 10 ◌>>=◌
abbrev pub ◌>>=◌ : {A B : Type 0} → Result A ScriptWhy → (A → Result B ScriptWhy) → Result B ScriptWhy
(Ok x) >>= f = f x
(Err e) >>= f = Err e

-- a cause, where a test holds
abbrev pub refuse_if : Bool → ScriptWhy → Result (Unit {0}) ScriptWhy
refuse_if test cause = if test then Err cause else Ok tt

-- a value, or a cause where there is none
abbrev pub some_or : {A : Type 0} → ScriptWhy → Option A → Result A ScriptWhy
some_or cause None = Err cause
some_or cause (Some x) = Ok x

-- the first of some words and the rest, where a word must follow
abbrev pub word_and_rest : List (List ℕ) → Result (List ℕ × List (List ℕ)) ScriptWhy
word_and_rest [] = Err why.Missing
word_and_rest (word ∷ words) = Ok (word, words)

-- the end of a line, where no further word may follow
abbrev pub end_of : List (List ℕ) → Result (Unit {0}) ScriptWhy
end_of [] = Ok tt
end_of (word ∷ words) = Err why.Extra

-- an error of a call is the one that is said, unless memory ran out
abbrev pub Refuses : {X : Type 0} → ScriptWhy → Result X ScriptWhy → Type 0
Refuses why.Memory said = Unit {0}
Refuses w said = said ≡ Err w

-- what a call gave, seen by view, is what is said, unless memory ran out
abbrev pub Gives : {X Y : Type 0} → (X → Y) → Result X ScriptWhy → Result Y ScriptWhy → Type 0
Gives view (Ok x) said = said ≡ Ok (view x)
Gives view (Err e) said = Refuses e said
