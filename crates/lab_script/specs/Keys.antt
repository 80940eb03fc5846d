-- The keys of the card's line, of a client's and of a reader's, and what is given by them.
use Rattle.std.specs.Prelude.{ℕ, not, List, [], ◌∷◌, ◌++◌, codes, bytes_eq, Option, Some, None, option_map, Result, Ok, Err, nat_le, if◌then◌else◌}
use Rattle.std.specs.List.{list_any}
use Rattle.std.specs.Option.{option_map_or}
use Rattle.bindings.specs.Answers.{answer_of}
use Rattle.snd_base.specs.declared.errors.Why.{Why}
use Rattle.snd_base.specs.declared.errors.Why.TheVariants as defect
use Rattle.lab_script.specs.declared.error.ScriptWhy.{ScriptWhy}
use Rattle.lab_script.specs.declared.error.ScriptWhy.TheVariants as why
use Rattle.lab_script.specs.declared.keys.Kind.{Kind}
use Rattle.lab_script.specs.declared.keys.Kind.TheVariants as kind
use Rattle.lab_script.specs.declared.keys.Takes.{Takes}
use Rattle.lab_script.specs.declared.keys.Takes.TheVariants as takes
use Rattle.lab_lines.specs.declared.script.Share.{Share}
use Rattle.lab_lines.specs.declared.script.Share.TheVariants as share
use Rattle.lab_lines.specs.declared.script.Stop.{Stop}
use Rattle.lab_lines.specs.declared.script.Stop.TheVariants as stop
use Rattle.lab_lines.specs.Names.{is_name, is_file}
use Rattle.text_words.specs.Table.{row_of}
use Rattle.text_words.specs.Word.{number_of_word, parts_of}
use Rattle.lab_script.specs.Causes.{◌>>=◌, refuse_if, some_or}

-- the keys of the card's line; a period above half the ring is no matter of its range
abbrev pub card_keys : List (List ℕ × Takes)
card_keys =
    (codes "channels", takes.Number 1 8) ∷
    (codes "rate", takes.Number 4000 192000) ∷
    (codes "period", takes.Number 16 9999999999999999999) ∷
    (codes "ring", takes.Number 64 16384) ∷
    (codes "places", takes.Number 1 64) ∷
    (codes "lap", takes.Number 0 4294967294) ∷
    (codes "capture", takes.File) ∷
    (codes "share", takes.Share) ∷ []

-- the keys of a client's line; a lead that isn't below the ring is no matter of its range
abbrev pub client_keys : List (List ℕ × Takes)
client_keys =
    (codes "bindings", takes.Bindings) ∷
    (codes "buffer", takes.Number 32 16384) ∷
    (codes "period", takes.Number 16 8192) ∷
    (codes "start", takes.Number 1 65536) ∷
    (codes "stop", takes.NumberOrNever 1 65536) ∷
    (codes "lead", takes.Number 0 9999999999999999999) ∷
    (codes "plug", takes.Plug) ∷ []

-- the keys of a reader's line
abbrev pub reader_keys : List (List ℕ × Takes)
reader_keys =
    (codes "bindings", takes.Bindings) ∷
    (codes "buffer", takes.Number 32 16384) ∷
    (codes "period", takes.Number 16 8192) ∷
    (codes "start", takes.Number 1 65536) ∷
    (codes "stop", takes.NumberOrNever 1 65536) ∷ []

-- the keys of a line of this kind
abbrev pub keys_of : Kind → List (List ℕ × Takes)
keys_of kind.Card = card_keys
keys_of kind.Client = client_keys
keys_of kind.Reader = reader_keys

-- a word that must be a number from least to most
abbrev pub number_in : ℕ → ℕ → List ℕ → Result ℕ ScriptWhy
number_in least most word = do
  n ← some_or why.Number (number_of_word word)
  ranged ← refuse_if (not (nat_le least n)) why.Range
  within ← refuse_if (not (nat_le n most)) why.Range
  Ok n

-- the numbers of the parts of a list of channels, after those that are read
abbrev pub numbers_from : List ℕ → List (List ℕ) → Result (List ℕ) ScriptWhy
numbers_from before [] = Ok before
numbers_from before (part ∷ parts) = (number_in 0 4294967295 part) >>= (λ n. numbers_from (before ++ n ∷ []) parts)

-- the numbers of a list that is joined by commas
abbrev pub numbers_of : List ℕ → Result (List ℕ) ScriptWhy
numbers_of word = numbers_from [] (parts_of word)

-- a word that must be a name
abbrev pub name_of : List ℕ → Result (List ℕ) ScriptWhy
name_of word = if is_name word then Ok word else Err why.Name

-- a word that must be a file's name
abbrev pub file_of : List ℕ → Result (List ℕ) ScriptWhy
file_of word = if is_file word then Ok word else Err why.File

-- a value without what it says
abbrev pub check_of : {A : Type 0} → Result A ScriptWhy → Result (Unit {0}) ScriptWhy
check_of (Ok x) = Ok tt
check_of (Err e) = Err e

-- a word after a key that takes this
abbrev pub value_of : Takes → List ℕ → Result (Unit {0}) ScriptWhy
value_of (takes.Number least most) word = check_of (number_in least most word)
value_of (takes.NumberOrNever least most) word = if bytes_eq word (codes "never") then Ok tt else check_of (number_in least most word)
value_of takes.File word = check_of (file_of word)
value_of takes.Bindings word = check_of (numbers_of word)
value_of takes.Share word = if bytes_eq word (codes "dmix") then Ok tt else refuse_if (not (bytes_eq word (codes "dshare"))) why.Word
value_of takes.Plug word = refuse_if (not (bytes_eq word (codes "linear"))) why.Word

-- a word that must be a key of this kind of line, after the keys that are earlier on it
unfoldable pub key_value : Kind → List (List ℕ) → List ℕ → Result Takes ScriptWhy
key_value line earlier word = do
  value ← some_or why.Word (row_of (keys_of line) word)
  once ← refuse_if (list_any (bytes_eq word) earlier) why.KeyTwice
  Ok value

-- keys and what follows each, in any order, each once
abbrev pub keys_from : Kind → List (List ℕ) → List (List ℕ) → Result (Unit {0}) ScriptWhy
keys_from line earlier [] = Ok tt
keys_from line earlier (key ∷ []) = (key_value line earlier key) >>= (λ value. Err why.Missing)
keys_from line earlier (key ∷ word ∷ words) =
    (key_value line earlier key) >>= (λ value. (value_of value word) >>= (λ u. keys_from line (earlier ++ key ∷ []) words))

-- the word after a key, where the key is given
abbrev pub word_after : List ℕ → List (List ℕ) → Option (List ℕ)
word_after key [] = None
word_after key (k ∷ []) = None
word_after key (k ∷ word ∷ words) = if bytes_eq k key then Some word else word_after key words

-- the number that a word means, or 0
abbrev pub number_or_zero : List ℕ → ℕ
number_or_zero word = option_map_or (λ n. n) (number_of_word word) 0

-- the number after a key, or another one where it isn't given
abbrev pub number_given : List ℕ → ℕ → List (List ℕ) → ℕ
number_given key otherwise words = option_map_or number_or_zero (word_after key words) otherwise

-- a number, or 0 where it is above a limit
abbrev pub number_within : ℕ → ℕ → ℕ
number_within most n = if nat_le n most then n else 0

-- the number after a key, where it is given
abbrev pub small_where : List ℕ → List (List ℕ) → Option ℕ
small_where key words = option_map (λ word. number_within 4294967295 (number_or_zero word)) (word_after key words)

-- the number after a key, or another one where it isn't given
abbrev pub small_given : List ℕ → ℕ → List (List ℕ) → ℕ
small_given key otherwise words = number_within 4294967295 (number_given key otherwise words)

-- the number after a key, or another one where it isn't given
abbrev pub byte_given : List ℕ → ℕ → List (List ℕ) → ℕ
byte_given key otherwise words = number_within 255 (number_given key otherwise words)

-- the word after `stop`
abbrev pub stop_of : List ℕ → Stop
stop_of word = if bytes_eq word (codes "never") then stop.Never else stop.At (number_or_zero word)

-- the stop threshold, where it is given
abbrev pub stop_given : List (List ℕ) → Option Stop
stop_given words = option_map stop_of (word_after (codes "stop") words)

-- the word after `share`
abbrev pub share_named : List ℕ → Share
share_named word = if bytes_eq word (codes "dshare") then share.Dshare else share.Dmix

-- how clients share the card
abbrev pub share_given : List (List ℕ) → Share
share_given words = option_map_or share_named (word_after (codes "share") words) share.Dmix

-- a file, where there is one
abbrev pub file_where : Option (List ℕ) → Result (Option (List ℕ)) ScriptWhy
file_where None = Ok None
file_where (Some word) = (file_of word) >>= (λ file. Ok (Some file))

-- why bindings are refused
abbrev pub why_of : Why → ScriptWhy
why_of defect.BindingsEmpty = why.BindingsEmpty
why_of defect.BindingsTooMany = why.BindingsTooMany
why_of (defect.BindingRange channel) = why.BindingRange channel
why_of (defect.BindingTwice channel) = why.BindingTwice channel
why_of other = why.BindingsEmpty

-- bindings, or why they are refused
abbrev pub bound : Result (List ℕ) Why → Result (Option (List ℕ)) ScriptWhy
bound (Ok list) = Ok (Some list)
bound (Err cause) = Err (why_of cause)

-- the bindings of a word on a card of so many channels, where there is one
abbrev pub bindings_where : ℕ → Option (List ℕ) → Result (Option (List ℕ)) ScriptWhy
bindings_where channels None = Ok None
bindings_where channels (Some word) = (numbers_of word) >>= (λ list. bound (answer_of list channels))
