-- The lines of a phase: what each actor can be asked for, by which words.
use Rattle.std.specs.Prelude.{ℕ, List, [], ◌∷◌, ◌++◌, codes, Option, Some, None, Result, Ok}
use Rattle.std.specs.Fmt.{decimal}
use Rattle.lab_script.specs.declared.error.ScriptWhy.{ScriptWhy}
use Rattle.lab_script.specs.declared.error.ScriptWhy.TheVariants as why
use Rattle.lab_lines.specs.declared.line.Actor.{Actor}
use Rattle.lab_lines.specs.declared.line.Actor.TheVariants.{Card, Client, Reader}
use Rattle.lab_lines.specs.declared.line.Op.{Op}
use Rattle.lab_lines.specs.declared.line.Op.TheVariants as op
use Rattle.lab_script.specs.declared.ops.Form.{Form}
use Rattle.lab_script.specs.declared.ops.Form.TheVariants.{Plain, Counted}
use Rattle.lab_script.specs.Causes.{◌>>=◌, some_or, word_and_rest, end_of}
use Rattle.text_words.specs.Table.{row_of}
use Rattle.lab_script.specs.Keys.{number_in}

-- what the card can be asked for
abbrev pub card_ops : List (List ℕ × Form)
card_ops =
    (codes "play", Counted (op.Play 0) 4194304) ∷
    (codes "unplug", Plain op.Unplug) ∷ []

-- what a client can be asked for
abbrev pub client_ops : List (List ℕ × Form)
client_ops =
    (codes "write", Counted (op.Write 0) 4194304) ∷
    (codes "start", Plain op.Start) ∷
    (codes "sync", Plain op.Sync) ∷
    (codes "avail", Plain op.Avail) ∷
    (codes "delay", Plain op.Delay) ∷
    (codes "drain", Plain op.Drain) ∷
    (codes "drop", Plain op.Drop) ∷
    (codes "prepare", Plain op.Prepare) ∷
    (codes "pause", Plain op.Pause) ∷
    (codes "resume", Plain op.Resume) ∷
    (codes "rewind", Counted (op.Rewind 0) 4194304) ∷
    (codes "rewindable", Plain op.Rewindable) ∷
    (codes "die", Counted (op.Die 0) 1000000) ∷ []

-- what a reader can be asked for
abbrev pub reader_ops : List (List ℕ × Form)
reader_ops =
    (codes "read", Counted (op.Read 0) 4194304) ∷
    (codes "start", Plain op.Start) ∷
    (codes "sync", Plain op.Sync) ∷
    (codes "avail", Plain op.Avail) ∷
    (codes "drop", Plain op.Drop) ∷
    (codes "prepare", Plain op.Prepare) ∷
    (codes "pause", Plain op.Pause) ∷
    (codes "die", Counted (op.Die 0) 1000000) ∷ []

-- what an actor can be asked for
abbrev pub ops_of : Actor → List (List ℕ × Form)
ops_of Card = card_ops
ops_of (Client number) = client_ops
ops_of (Reader number) = reader_ops

-- an op with this number in it, where it has one
abbrev pub with_count : Op → ℕ → Op
with_count (op.Play m) n = op.Play n
with_count (op.Write m) n = op.Write n
with_count (op.Read m) n = op.Read n
with_count (op.Rewind m) n = op.Rewind n
with_count (op.Die m) n = op.Die n
with_count other n = other

-- the op of a form and the words after the op's own word
abbrev pub op_with : Form → List (List ℕ) → Result Op ScriptWhy
op_with (Plain o) words = (end_of words) >>= (λ u. Ok o)
op_with (Counted o most) words = do
  number ← word_and_rest words
  n ← number_in 0 most number.0
  end ← end_of number.1
  Ok (with_count o n)

-- what the words after an actor ask for
unfoldable pub op_of : Actor → List (List ℕ) → Result Op ScriptWhy
op_of actor words = do
  word ← word_and_rest words
  form ← some_or why.Word (row_of (ops_of actor) word.0)
  op_with form word.1

-- a word and a number
abbrev pub word_and_number : List ℕ → ℕ → List ℕ
word_and_number word n = word ++ 32 ∷ decimal n

-- the words of an op, as a script has them
abbrev pub op_text : Op → List ℕ
op_text (op.Play n) = word_and_number (codes "play") n
op_text op.Unplug = codes "unplug"
op_text (op.Write n) = word_and_number (codes "write") n
op_text (op.Read n) = word_and_number (codes "read") n
op_text op.Start = codes "start"
op_text op.Sync = codes "sync"
op_text op.Avail = codes "avail"
op_text op.Delay = codes "delay"
op_text op.Drain = codes "drain"
op_text op.Drop = codes "drop"
op_text op.Prepare = codes "prepare"
op_text op.Pause = codes "pause"
op_text op.Resume = codes "resume"
op_text (op.Rewind n) = word_and_number (codes "rewind") n
op_text op.Rewindable = codes "rewindable"
op_text (op.Die n) = word_and_number (codes "die") n
op_text op.Opens = codes "open"
op_text op.Closes = codes "close"

-- the word of an op
abbrev pub op_word : Op → List ℕ
op_word (op.Play n) = codes "play"
op_word op.Unplug = codes "unplug"
op_word (op.Write n) = codes "write"
op_word (op.Read n) = codes "read"
op_word op.Start = codes "start"
op_word op.Sync = codes "sync"
op_word op.Avail = codes "avail"
op_word op.Delay = codes "delay"
op_word op.Drain = codes "drain"
op_word op.Drop = codes "drop"
op_word op.Prepare = codes "prepare"
op_word op.Pause = codes "pause"
op_word op.Resume = codes "resume"
op_word (op.Rewind n) = codes "rewind"
op_word op.Rewindable = codes "rewindable"
op_word (op.Die n) = codes "die"
op_word op.Opens = codes "open"
op_word op.Closes = codes "close"

-- the number after an op's word, where it has one
abbrev pub op_count : Op → Option ℕ
op_count (op.Play n) = Some n
op_count (op.Write n) = Some n
op_count (op.Read n) = Some n
op_count (op.Rewind n) = Some n
op_count (op.Die n) = Some n
op_count other = None

-- a space and a number, where there is one
abbrev pub count_text : Option ℕ → List ℕ
count_text None = []
count_text (Some n) = 32 ∷ decimal n
