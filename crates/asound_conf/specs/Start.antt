-- Where the tokens of a text are in it.
use Rattle.std.specs.Prelude.{◌≡◌, ℕ, ◌+◌, ◌-◌, ◌<◌, ◌≤◌, ◌^◌, List, length, take, drop}
use Rattle.asound_conf.specs.declared.token.Token.{Token}
use Rattle.asound_conf.specs.declared.token.Token.TheVariants as lent
use Rattle.asound_conf.specs.Table.{span_in}

-- some bytes are at this place of a text
pub record AreAt (text : List ℕ) (start : ℕ) (bytes : List ℕ) : Type 0 where
  pub are : span_in text (record { start = start; count = length bytes }) ≡ bytes
  pub small : start + length bytes < 2 ^ 32

-- the bytes of a token are at this place of a text
abbrev pub IsTokenAt : List ℕ → ℕ → Token → Type 0
IsTokenAt text start (lent.Word w) = AreAt text start w.now
IsTokenAt text start (lent.Quoted q) = AreAt text start q.now
IsTokenAt text start (lent.Mark m) = Unit {0}
IsTokenAt text start (lent.Bad w) = Unit {0}

-- a text ends with this one
pub record IsSuffix (text rest : List ℕ) : Type 0 where
  pub short : length rest ≤ length text
  pub is : drop (length text - length rest) text ≡ rest

-- the last of a text are some bytes, a number of others, and this text
pub record AreBefore (text rest : List ℕ) (after : ℕ) (bytes : List ℕ) : Type 0 where
  pub room : length bytes + after + length rest ≤ length text
  pub are : take (length bytes) (drop (length text - (length bytes + after + length rest)) text) ≡ bytes

-- the last of a text are the bytes of a token, the quote after it, and this text
abbrev pub IsBefore : List ℕ → List ℕ → Token → Type 0
IsBefore text rest (lent.Word w) = AreBefore text rest 0 w.now
IsBefore text rest (lent.Quoted q) = AreBefore text rest 1 q.now
IsBefore text rest (lent.Mark m) = Unit {0}
IsBefore text rest (lent.Bad w) = Unit {0}
