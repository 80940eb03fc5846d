-- What a line of a request says, by its words, or the cause of its first word that isn't allowed where it is.
use Rattle.std.specs.Prelude.{◌≡◌, ℕ, ◌*◌, ◌%◌, ◌≤◌, Bool, false, ◌&&◌, ◌||◌, ◌==◌, nat_le, not, List, [], ◌∷◌, codes, Option, Some, None, is_some, Result, Ok, Err, if◌then◌else◌}
use Rattle.std.specs.Str.{bytes_eq}
use Rattle.lab_script.specs.declared.error.ScriptWhy.{ScriptWhy}
use Rattle.lab_script.specs.declared.error.ScriptWhy.TheVariants as why
use Rattle.lab_script.specs.Causes.{◌>>=◌, some_or, word_and_rest}
use Rattle.text_words.specs.Word.{number_of_word}
use Rattle.hw_space.specs.declared.param.Param.{Param}
use Rattle.lab_refine.specs.declared.grammar.Verb.{Verb}
use Rattle.lab_refine.specs.declared.grammar.Verb.TheVariants as verbs
use Rattle.lab_refine.specs.declared.request.SlaveLine.{SlaveLine}
use Rattle.lab_refine.specs.declared.request.Ask.{Ask}
use Rattle.lab_refine.specs.declared.request.Ask.TheVariants as asks
use Rattle.lab_refine.specs.Params.{param_of, is_mask, most_of}

-- a value where a test is passed
abbrev pub value_if : {A : Type 0} → ScriptWhy → Bool → A → Result A ScriptWhy
value_if cause test x = if test then Ok x else Err cause

-- a value seen by a view
abbrev pub result_view : {A B : Type 0} → (A → B) → Result A ScriptWhy → Result B ScriptWhy
result_view view (Ok x) = Ok (view x)
result_view view (Err cause) = Err cause

-- the line's end, where no further word may follow
abbrev pub end_of_line : ScriptWhy → List (List ℕ) → Result (Unit {0}) ScriptWhy
end_of_line cause [] = Ok tt
end_of_line cause (word ∷ words) = Err cause

-- a number in its range, and the words after it
unfoldable pub number_in : ℕ → ℕ → List (List ℕ) → Result (ℕ × List (List ℕ)) ScriptWhy
number_in least most words = do
  word ← word_and_rest words
  n ← some_or why.Number (number_of_word word.0)
  value_if why.Range (nat_le least n && nat_le n most) (n, word.1)

-- the number after its key, and the words after both
unfoldable pub keyed_in : List ℕ → ℕ → ℕ → List (List ℕ) → Result (ℕ × List (List ℕ)) ScriptWhy
keyed_in key least most words = do
  word ← word_and_rest words
  rest ← value_if why.Word (bytes_eq word.0 key) word.1
  number_in least most rest

-- a parameter, and the words after it
unfoldable pub param_in : List (List ℕ) → Result (Param × List (List ℕ)) ScriptWhy
param_in words = do
  word ← word_and_rest words
  param ← some_or why.Word (param_of word.0)
  Ok (param, word.1)

-- a parameter that is an interval, and the words after it
unfoldable pub interval_in : List (List ℕ) → Result (Param × List (List ℕ)) ScriptWhy
interval_in words = do
  param ← param_in words
  value_if why.Word (not (is_mask param.0)) param

-- the word with which a line asks something
abbrev pub verb_of : List ℕ → Option Verb
verb_of word =
    if bytes_eq word (codes "set") then Some verbs.Set
    else (if bytes_eq word (codes "min") then Some verbs.Min
    else (if bytes_eq word (codes "max") then Some verbs.Max
    else (if bytes_eq word (codes "near") then Some verbs.Near
    else (if bytes_eq word (codes "integer") then Some verbs.Integer
    else (if bytes_eq word (codes "show") then Some verbs.Show
    else (if bytes_eq word (codes "choose") then Some verbs.Choose else None))))))

-- the cause of a first word that can't begin a line here: it can begin another line, or none
abbrev pub first_word_cause : List ℕ → ScriptWhy
first_word_cause word = if bytes_eq word (codes "slave") || is_some (verb_of word) then why.Order else why.Word

-- the ring is a multiple of the period, which is at most half of it
abbrev pub ring_fits : ℕ → ℕ → Bool
ring_fits period ring = nat_le (2 * period) ring && ring % period == 0

-- the numbers of a slave are in their ranges and fit together
pub record IsSlaveLine (slave : SlaveLine) : Type 0 where
  pub channels_low : 1 ≤ slave.channels
  pub channels_high : slave.channels ≤ 8
  pub rate_low : 4000 ≤ slave.rate
  pub rate_high : slave.rate ≤ 192000
  pub ring_low : 64 ≤ slave.ring
  pub ring_high : slave.ring ≤ 16384
  pub period_low : 16 ≤ slave.period
  pub period_high : 2 * slave.period ≤ slave.ring
  pub period_divides : slave.ring % slave.period ≡ 0

-- the slave of numbers that fit together
abbrev pub slave_with : ℕ → ℕ → ℕ → ℕ → Result SlaveLine ScriptWhy
slave_with channels rate period ring =
    value_if why.Fit (ring_fits period ring) (record { channels = channels; rate = rate; period = period; ring = ring })

-- the words after the word `slave`
unfoldable pub slave_keys_in : List (List ℕ) → Result (List (List ℕ)) ScriptWhy
slave_keys_in words = do
  word ← word_and_rest words
  value_if (first_word_cause word.0) (bytes_eq word.0 (codes "slave")) word.1

-- `slave channels C rate R period P ring N`
unfoldable pub slave_of : List (List ℕ) → Result SlaveLine ScriptWhy
slave_of words = do
  keys ← slave_keys_in words
  channels ← keyed_in (codes "channels") 1 8 keys
  rate ← keyed_in (codes "rate") 4000 192000 channels.1
  period ← keyed_in (codes "period") 16 18446744073709551615 rate.1
  ring ← keyed_in (codes "ring") 64 16384 period.1
  end ← end_of_line why.Extra ring.1
  slave_with channels.0 rate.0 period.0 ring.0

-- a parameter and a value for it
unfoldable pub valued_in : List (List ℕ) → Result (Param × ℕ) ScriptWhy
valued_in words = do
  param ← param_in words
  value ← number_in 0 (most_of param.0) param.1
  end ← end_of_line why.Extra value.1
  Ok (param.0, value.0)

-- a parameter that is an interval, and a value for it
unfoldable pub bounded_in : List (List ℕ) → Result (Param × ℕ) ScriptWhy
bounded_in words = do
  param ← interval_in words
  value ← number_in 0 4294967295 param.1
  end ← end_of_line why.Extra value.1
  Ok (param.0, value.0)

-- a parameter, to the line's end
unfoldable pub whole_param_in : List (List ℕ) → Result Param ScriptWhy
whole_param_in words = do
  param ← param_in words
  end ← end_of_line why.Extra param.1
  Ok param.0

-- a parameter that is an interval, to the line's end
unfoldable pub whole_interval_in : List (List ℕ) → Result Param ScriptWhy
whole_interval_in words = do
  param ← interval_in words
  end ← end_of_line why.Extra param.1
  Ok param.0

-- what the words after a line's first word ask
unfoldable pub asked_by : Verb → List (List ℕ) → Result Ask ScriptWhy
asked_by verbs.Set words = do
  value ← valued_in words
  Ok (asks.Set value.0 value.1)
asked_by verbs.Min words = do
  value ← bounded_in words
  Ok (asks.Min value.0 value.1)
asked_by verbs.Max words = do
  value ← bounded_in words
  Ok (asks.Max value.0 value.1)
asked_by verbs.Near words = do
  value ← bounded_in words
  Ok (asks.Near value.0 value.1)
asked_by verbs.Integer words = do
  param ← whole_interval_in words
  Ok (asks.Integer param)
asked_by verbs.Show words = do
  param ← whole_param_in words
  Ok (asks.Show param)
asked_by verbs.Choose words = do
  end ← end_of_line why.Extra words
  Ok asks.Choose

-- what a line asks
unfoldable pub ask_of : List (List ℕ) → Result Ask ScriptWhy
ask_of words = do
  word ← word_and_rest words
  verb ← some_or (first_word_cause word.0) (verb_of word.0)
  asked_by verb word.1

-- what a line can ask: a mask is only set, to a number below 64, or shown
abbrev pub IsAsk : Ask → Type 0
IsAsk (asks.Set param value) = value ≤ most_of param
IsAsk (asks.Min param value) = is_mask param ≡ false
IsAsk (asks.Max param value) = is_mask param ≡ false
IsAsk (asks.Near param value) = is_mask param ≡ false
IsAsk (asks.Integer param) = is_mask param ≡ false
IsAsk (asks.Show param) = Unit {0}
IsAsk asks.Choose = Unit {0}
