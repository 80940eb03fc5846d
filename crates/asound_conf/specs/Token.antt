-- The tokens of a configuration text.
use Rattle.std.specs.Prelude.{ℕ, zero, suc, ◌+◌, ◌-◌, ◌==◌, ◌&&◌, ◌||◌, not, nat_le, nat_lt, is_none, Bool, if◌then◌else◌, List, [], ◌∷◌, length, take, drop, slice_index, position, unwrap_or, Option, Some, None}
use Rattle.std.specs.List.{list_any}
use Rattle.asound_conf.specs.declared.error.ConfWhy.{ConfWhy}
use Rattle.asound_conf.specs.declared.error.ConfWhy.TheVariants as why
use Rattle.asound_conf.specs.declared.token.Mark.{Mark}
use Rattle.asound_conf.specs.declared.token.Mark.TheVariants as marks
use Rattle.asound_conf.specs.declared.token.Token as code
use Rattle.asound_conf.specs.declared.token.Token.TheVariants as lent

-- a token: a word, a quoted text, a mark, or what can't be a token
pub data Token : Type 0 where
  word : List ℕ → Token
  quoted : List ℕ → Token
  mark : Mark → Token
  bad : ConfWhy → Token

-- a token on a line
pub record LineToken : Type 0 where
  pub line : ℕ
  pub token : Token

-- a space, a tab, a line feed or a carriage return
abbrev pub is_blank : ℕ → Bool
is_blank b = b == 32 || b == 9 || b == 10 || b == 13

-- a blank, or the byte that begins a comment
abbrev pub is_skipped : ℕ → Bool
is_skipped b = is_blank b || b == 35

-- a double or a single quote
abbrev pub is_quote : ℕ → Bool
is_quote b = b == 34 || b == 39

-- the mark that a byte is
abbrev pub mark_of : ℕ → Option Mark
mark_of b =
    if b == 123 then Some marks.OpenBrace else
    if b == 125 then Some marks.CloseBrace else
    if b == 91 then Some marks.OpenBracket else
    if b == 93 then Some marks.CloseBracket else
    if b == 61 then Some marks.Equals else
    if b == 44 then Some marks.Comma else
    if b == 59 then Some marks.Semicolon else None

-- a byte that can be in a word: a visible one that is no mark, no quote and no `#`
abbrev pub is_word_byte : ℕ → Bool
is_word_byte b = nat_le 33 b && nat_le b 126 && not (b == 35) && not (is_quote b) && is_none (mark_of b)

-- a byte at which a word ends
abbrev pub ends_word : ℕ → Bool
ends_word b = not (is_word_byte b)

-- a control byte other than a tab
abbrev pub is_control : ℕ → Bool
is_control b = nat_lt b 32 && not (b == 9)

-- where a byte comes first that a run ends at, or the text's end
abbrev pub end_at : (ℕ → Bool) → List ℕ → ℕ
end_at ends text = unwrap_or (position ends text) (length text)

-- a quoted text ends at its closing quote, or at its line's end
abbrev pub quoted_end : ℕ → List ℕ → ℕ
quoted_end quote text = end_at (λ b. b == quote || b == 10) text

-- the token of what follows a quote; its causes in order
abbrev pub quoted_token : ℕ → List ℕ → Token
quoted_token quote text =
    let content = take (quoted_end quote text) text in
    if list_any is_control content then bad why.Byte else
    if list_any (λ b. b == 92) content then bad why.Escape else
    if slice_index text (quoted_end quote text) == quote then quoted content else bad why.Unclosed

-- a mark, or else another token
abbrev pub mark_or : Option Mark → Token → Token
mark_or (Some m) other = mark m
mark_or None other = other

-- the token at the front of a text that begins with this byte, which is no blank and begins no comment
abbrev pub token_by : ℕ → List ℕ → Token
token_by b text = mark_or (mark_of b) (
    if is_quote b then quoted_token b (drop 1 text) else
    if is_word_byte b then word (take (end_at ends_word text) text) else bad why.Byte)

-- the token at the front of a text that begins neither with a blank nor with a comment
unfoldable pub token_at : List ℕ → Token
token_at text = token_by (slice_index text 0) text

-- where a quoted text at the front of a text ends, after its closing quote where there is one
abbrev pub quoted_size : ℕ → List ℕ → ℕ
quoted_size quote text = if slice_index text (quoted_end quote text) == quote then quoted_end quote text + 2 else quoted_end quote text + 1

-- where a blank, a comment or a token that begins with this byte ends
abbrev pub end_by : ℕ → List ℕ → ℕ
end_by b text =
    if b == 35 then end_at (λ c. c == 10) text else
    if is_quote b then quoted_size b (drop 1 text) else
    if is_word_byte b then end_at ends_word text else 1

-- where a blank, a comment or a token at the front of a text ends
unfoldable pub token_end : List ℕ → ℕ
token_end text = end_by (slice_index text 0) text

-- the number of the line of what follows a byte
abbrev pub line_after : ℕ → ℕ → ℕ
line_after line b = if b == 10 then line + 1 else line

-- the tokens of a text whose first bytes, so many, are of a token before, and whose first line has this number
unfoldable pub tokens : ℕ → ℕ → List ℕ → List LineToken
tokens taken line [] = []
tokens (suc taken) line (b ∷ text) = tokens taken line text
tokens zero line (b ∷ text) =
    let rest = tokens (token_end (b ∷ text) - 1) (line_after line b) text in
    if is_skipped b then rest else record { line = line; token = token_at (b ∷ text) } ∷ rest

-- the token that is borrowed from a text
abbrev pub token_of : code.Token → Token
token_of (lent.Word w) = word w.now
token_of (lent.Quoted q) = quoted q.now
token_of (lent.Mark m) = mark m
token_of (lent.Bad w) = bad w
