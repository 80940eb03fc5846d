-- The grammar of a configuration text: what each token does at its place, and what the tokens of a text mean.
use Rattle.std.specs.Prelude.{ℕ, ◌+◌, ◌-◌, ◌==◌, not, nat_lt, nat_le, Bool, true, false, if◌then◌else◌, List, [], ◌∷◌, ◌++◌, length, take, count_by, Option, Some, None, Result, Ok, Err}
use Rattle.std.specs.Fmt.{decimal}
use Rattle.asound_conf.specs.declared.error.ConfError.{ConfError}
use Rattle.asound_conf.specs.declared.error.ConfWhy.{ConfWhy}
use Rattle.asound_conf.specs.declared.error.ConfWhy.TheVariants as why
use Rattle.asound_conf.specs.declared.bracket.Awaits.{Awaits}
use Rattle.asound_conf.specs.declared.bracket.Awaits.TheVariants.{Item, Value}
use Rattle.asound_conf.specs.declared.token.Mark.{Mark}
use Rattle.asound_conf.specs.declared.token.Mark.TheVariants as marks
use Rattle.asound_conf.specs.Token.{LineToken, Token, word, quoted, mark, bad, tokens}
use Rattle.asound_conf.specs.Key.{Part, begins, key_defect, part_named, without_marks, word_parts}
use Rattle.asound_conf.specs.Answer.{answer_view}
use Rattle.asound_conf.specs.Place.{meets_text, put_or_clash}
use Rattle.asound_conf.specs.Tree.{Entries, empty}

-- A `{` or `[` that is open, or the text itself: its line, whether it is a `[`, how many parts of keys lead to its
-- group, and how many values it has so far, where it is a `[`.
pub record Bracket : Type 0 where
  pub line : ℕ
  pub array : Bool
  pub names : ℕ
  pub values : ℕ

-- Where a reader of tokens is: the group so far, the parts that lead to the place of what comes next, the innermost
-- `{` or `[` that is open, or the text itself, those around it from the inside out, and what may come next.
pub record State : Type 0 where
  pub root : Entries
  pub path : List Part
  pub here : Bracket
  pub outer : List Bracket
  pub awaits : Awaits

-- before the first token
abbrev pub start : State
start = record { root = empty; path = []; here = record { line = 0; array = false; names = 0; values = 0 }; outer = []; awaits = Item false }

-- where the next value of `[ ]` goes: its values have the names 0, 1 and so on
abbrev pub at_number : State → State
at_number s = record s {
  path = s.path ++ part_named (decimal s.here.values) ∷ [];
  here = record { line = s.here.line; array = s.here.array; names = s.here.names; values = s.here.values + 1 };
  awaits = Value false;
}

-- where a value can come: after a key, or within `[ ]`
abbrev pub value_place : State → Awaits → Bool → Option State
value_place s (Value equals) array = Some s
value_place s (Item separator) true = Some (at_number s)
value_place s (Item separator) false = None

-- after an item
abbrev pub after_item : State → Entries → State
after_item s root = record s { root = root; path = take s.here.names s.path; awaits = Item true }

-- a text as a value
abbrev pub put_text : State → List ℕ → Result State ConfWhy
put_text s t = answer_view (after_item s) (put_or_clash (Some t) s.path s.root)

-- after a key's parts, which lead on from where the reader is
abbrev pub at_key : State → List Part → Result State ConfWhy
at_key s path =
    if nat_lt 16 (length path) then Err why.Deep else
    if meets_text path s.root then Err why.Kind else Ok (record s { path = path; awaits = Value true })

-- a key
abbrev pub put_key : State → Option ConfWhy → List Part → Result State ConfWhy
put_key s (Some defect) parts = Err defect
put_key s None parts = at_key s (s.path ++ parts)

-- a word or a quoted text: a value where one can come, and else a key
abbrev pub text_at : State → Option State → List Part → List ℕ → Result State ConfWhy
text_at s (Some place) parts t = put_text place t
text_at s None parts t = put_key s (key_defect parts) parts

-- a word or a quoted text, which is a key of these parts where it is one
abbrev pub take_text : State → List Part → List ℕ → Result State ConfWhy
take_text s parts t = text_at s (value_place s s.awaits s.here.array) parts t

-- within the group at the place of a value
abbrev pub in_group : State → ℕ → Bool → Entries → State
in_group s line array root = record {
  root = root;
  path = without_marks s.path;
  here = record { line = line; array = array; names = length s.path; values = 0 };
  outer = s.here ∷ s.outer;
  awaits = Item false;
}

-- a `{` or `[` as a value
abbrev pub open_group : State → ℕ → Bool → Result State ConfWhy
open_group s line array =
    if nat_le 16 (length s.path) then Err why.Deep else answer_view (in_group s line array) (put_or_clash None s.path s.root)

-- a `{` or `[` where a value can come, or where a key must
abbrev pub open_group_at : Option State → ℕ → Bool → Result State ConfWhy
open_group_at (Some place) line array = open_group place line array
open_group_at None line array = Err why.Key

-- after what was open, which is a value of what is around it
abbrev pub close_to : State → List Bracket → Result State ConfWhy
close_to s [] = Err why.Close
close_to s (around ∷ outer) = Ok (record s { path = take around.names s.path; here = around; outer = outer; awaits = Item true })

-- a `}` or `]`
abbrev pub close_group : State → Awaits → Bool → Result State ConfWhy
close_group s (Value equals) fits = Err why.Value
close_group s (Item separator) true = close_to s s.outer
close_group s (Item separator) false = Err why.Close

-- what a mark is that has no place: no value, or no key
abbrev pub why_misplaced : State → ConfWhy
why_misplaced s = if s.here.array then why.Value else why.Key

-- the one `=` between a key and its value
abbrev pub equals_at : State → Awaits → Result State ConfWhy
equals_at s (Value true) = Ok (record s { awaits = Value false })
equals_at s (Value false) = Err why.Value
equals_at s (Item separator) = Err (why_misplaced s)

-- the one `,` or `;` after an item
abbrev pub separator_at : State → Awaits → Result State ConfWhy
separator_at s (Value equals) = Err why.Value
separator_at s (Item true) = Ok (record s { awaits = Item false })
separator_at s (Item false) = Err (why_misplaced s)

-- a mark on this line
abbrev pub take_mark : State → ℕ → Mark → Result State ConfWhy
take_mark s line marks.OpenBrace = open_group_at (value_place s s.awaits s.here.array) line false
take_mark s line marks.OpenBracket = open_group_at (value_place s s.awaits s.here.array) line true
take_mark s line marks.CloseBrace = close_group s s.awaits (not s.here.array)
take_mark s line marks.CloseBracket = close_group s s.awaits s.here.array
take_mark s line marks.Equals = equals_at s s.awaits
take_mark s line marks.Comma = separator_at s s.awaits
take_mark s line marks.Semicolon = separator_at s s.awaits

-- what a token on this line does, or why it is the first defect
abbrev pub step : State → ℕ → Token → Result State ConfWhy
step s line (bad defect) = Err defect
step s line (word w) = if begins 60 w then Err why.Include else take_text s (word_parts w) w
step s line (quoted q) = take_text s (part_named q ∷ []) q
step s line (mark m) = take_mark s line m

-- a refusal of this line
abbrev pub refusal_at : {X : Type 0} → ℕ → ConfWhy → Result X ConfError
refusal_at line defect = Err (record { line = line; why = defect })

-- the text's end: no group is open, and no key is without its value
abbrev pub end_of_text : State → ℕ → List Bracket → Awaits → Result Entries ConfError
end_of_text s last (around ∷ outer) awaits = refusal_at s.here.line why.Unclosed
end_of_text s last [] (Value equals) = refusal_at last why.Value
end_of_text s last [] (Item separator) = Ok s.root

-- what follows from where a token leads, or its refusal
abbrev pub after_token : ℕ → Result State ConfWhy → (State → Result Entries ConfError) → Result Entries ConfError
after_token line (Err defect) more = refusal_at line defect
after_token line (Ok next) more = more next

-- what tokens mean from where a reader is, or the first defect; the text's last line has this number
unfoldable pub meaning : State → ℕ → List LineToken → Result Entries ConfError
meaning s last [] = end_of_text s last s.outer s.awaits
meaning s last (t ∷ ts) = after_token t.line (step s t.line t.token) (λ next. meaning next last ts)

-- the number of a text's last line: a line feed at the very end begins no line
abbrev pub last_line : List ℕ → ℕ
last_line text = count_by (λ b. b == 10) (take (length text - 1) text) + 1

-- the group that a configuration text means, or its first defect
unfoldable pub conf_of : List ℕ → Result Entries ConfError
conf_of text = if nat_lt 1048576 (length text) then refusal_at 0 why.TooLong else meaning start (last_line text) (tokens 0 1 text)
