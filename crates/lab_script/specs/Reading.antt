-- The script that a text spells, or its first refusal.
use Rattle.std.specs.Prelude.{◌≡◌, ℕ, List, [], ◌∷◌, length, Option, Some, None, Result, Ok, Err, nat_lt, if◌then◌else◌}
use Rattle.lab_script.specs.declared.keyword.Keyword.{Keyword}
use Rattle.lab_script.specs.declared.keyword.Keyword.TheVariants as keyword
use Rattle.lab_script.specs.declared.error.ScriptError.{ScriptError}
use Rattle.lab_script.specs.declared.error.ScriptWhy.{ScriptWhy}
use Rattle.lab_script.specs.declared.error.ScriptWhy.TheVariants as why
use Rattle.lab_lines.specs.declared.script.CardLine.{CardLine}
use Rattle.lab_lines.specs.declared.script.Script.{Script}
use Rattle.lab_script.specs.Draft.{State, card_alone, card_of, keywords, with_words}
use Rattle.text_words.specs.Table.{row_of}
use Rattle.text_words.specs.Lexing.{word_lines}

-- the refusal of a line
abbrev pub refusal_at : ℕ → ScriptWhy → ScriptError
refusal_at line cause = record { line = line; why = cause }

-- what is said on a line, or its refusal
abbrev pub on_line : {X Y : Type 0} → ℕ → Result X ScriptWhy → (X → Result Y ScriptError) → Result Y ScriptError
on_line line (Ok x) f = f x
on_line line (Err cause) f = Err (refusal_at line cause)

-- the card's line, by what it begins with
abbrev pub first_by : ℕ → Option Keyword → List (List ℕ) → Result CardLine ScriptWhy
first_by number (Some keyword.Card) words = card_of number words
first_by number None words = Err why.Word
first_by number other words = Err why.Order

-- the card's line, of this number
abbrev pub card_line : ℕ → List (List ℕ) → Result CardLine ScriptWhy
card_line number [] = Err why.NoCard
card_line number (word ∷ words) = first_by number (row_of keywords word) words

-- the lines after the card's, one after the other
abbrev pub after : State → List (ℕ × List (List ℕ)) → Result State ScriptError
after s [] = Ok s
after s (line ∷ lines) = on_line line.0 (with_words s line.0 line.1) (λ next. after next lines)

-- the script at the end of the text, where no phase is open
abbrev pub script_at_end : State → Option ℕ → Result Script ScriptError
script_at_end s None = Ok (record { card = s.card; clients = s.clients; readers = s.readers; body = s.body })
script_at_end s (Some opened) = Err (refusal_at opened why.Unended)

-- the script of what is read
abbrev pub script_at : Result State ScriptError → Result Script ScriptError
script_at (Ok s) = script_at_end s s.phase
script_at (Err e) = Err e

-- the script of the lines that have words
abbrev pub script_of_lines : List (ℕ × List (List ℕ)) → Result Script ScriptError
script_of_lines [] = Err (refusal_at 0 why.NoCard)
script_of_lines (line ∷ lines) = on_line line.0 (card_line line.0 line.1) (λ card. script_at (after (card_alone card) lines))

-- the script that a text spells, or its first refusal
abbrev pub script_of : List ℕ → Result Script ScriptError
script_of text = if nat_lt 1048576 (length text) then Err (refusal_at 0 why.TooLong) else script_of_lines (word_lines text)

-- an error of a call is the one that is said, unless memory ran out
abbrev pub RefusesAt : {X : Type 0} → ScriptWhy → ScriptError → Result X ScriptError → Type 0
RefusesAt why.Memory e said = Unit {0}
RefusesAt cause e said = said ≡ Err e

-- what a call gave, seen by view, is what is said, unless memory ran out
abbrev pub Answers : {X Y : Type 0} → (X → Y) → Result X ScriptError → Result Y ScriptError → Type 0
Answers view (Ok x) said = said ≡ Ok (view x)
Answers view (Err e) said = RefusesAt e.why e said
