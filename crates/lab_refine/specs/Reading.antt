-- What a text asks, or the first cause for which it is refused.
use Rattle.std.specs.Prelude.{◌≡◌, ℕ, List, [], ◌∷◌, length, nat_lt, Result, Ok, Err, if◌then◌else◌}
use Rattle.lab_script.specs.declared.error.ScriptError.{ScriptError}
use Rattle.lab_script.specs.declared.error.ScriptWhy.{ScriptWhy}
use Rattle.lab_script.specs.declared.error.ScriptWhy.TheVariants as why
use Rattle.text_words.specs.Lexing.{word_lines}
use Rattle.lab_refine.specs.declared.request.Ask.{Ask}
use Rattle.lab_refine.specs.declared.request.Request.{Request}
use Rattle.lab_refine.specs.Grammar.{slave_of, ask_of}

infixl 10 ◌>>=◌
abbrev pub ◌>>=◌ : {A B : Type 0} → Result A ScriptError → (A → Result B ScriptError) → Result B ScriptError
(Ok x) >>= f = f x
(Err e) >>= f = Err e

-- what a line says, or its refusal, with its number
abbrev pub on_line : {A : Type 0} → ℕ → Result A ScriptWhy → Result A ScriptError
on_line number (Ok x) = Ok x
on_line number (Err cause) = Err (record { line = number; why = cause })

-- what each of some lines asks, each with its number and its words
unfoldable pub asks_of : List (ℕ × List (List ℕ)) → Result (List Ask) ScriptError
asks_of [] = Ok []
asks_of (line ∷ lines) = do
  ask ← on_line line.0 (ask_of line.1)
  asks ← asks_of lines
  Ok (ask ∷ asks)

-- what lines ask, of which the first is the slave's; there must be one
unfoldable pub asked_in : List (ℕ × List (List ℕ)) → Result Request ScriptError
asked_in [] = Err (record { line = 0; why = why.NoCard })
asked_in (line ∷ lines) = do
  slave ← on_line line.0 (slave_of line.1)
  asks ← asks_of lines
  Ok (record { slave = slave; asks = asks })

-- what a text asks, or why it is refused: for its length, or for its first line that isn't allowed
unfoldable pub request_of_text : List ℕ → Result Request ScriptError
request_of_text text = if nat_lt 1048576 (length text) then Err (record { line = 0; why = why.TooLong }) else asked_in (word_lines text)

-- an error of a call is the one that is given, unless memory ran out
abbrev pub Refuses : {X : Type 0} → ScriptWhy → ScriptError → Result X ScriptError → Type 0
Refuses why.Memory e given = Unit {0}
Refuses cause e given = given ≡ Err e

-- what a call read, seen by a view, is what is given, unless memory ran out
abbrev pub Reads : {X Y : Type 0} → (X → Y) → Result X ScriptError → Result Y ScriptError → Type 0
Reads view (Ok x) given = given ≡ Ok (view x)
Reads view (Err e) given = Refuses e.why e given
