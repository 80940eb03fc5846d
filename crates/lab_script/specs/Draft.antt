-- A script that is read as far as some line, and what one more line makes of it.
use Rattle.std.specs.Prelude.{ℕ, ◌+◌, ◌*◌, ◌/◌, ◌%◌, ◌==◌, Bool, false, ◌&&◌, ◌||◌, not, List, [], ◌∷◌, ◌++◌, length, codes, bytes_eq, Option, Some, None, option_map, Result, Ok, Err, nat_le, nat_lt, is_some}
use Rattle.std.specs.List.{position}
use Rattle.lab_script.specs.declared.draft.Draft.{Draft}
use Rattle.lab_script.specs.declared.keyword.Keyword.{Keyword}
use Rattle.lab_script.specs.declared.keyword.Keyword.TheVariants as keyword
use Rattle.lab_script.specs.declared.error.ScriptWhy.{ScriptWhy}
use Rattle.lab_script.specs.declared.error.ScriptWhy.TheVariants as why
use Rattle.lab_script.specs.declared.keys.Kind.TheVariants as kind
use Rattle.lab_lines.specs.declared.line.Actor.{Actor}
use Rattle.lab_lines.specs.declared.line.Actor.TheVariants.{Card, Client, Reader}
use Rattle.lab_lines.specs.declared.line.Item.{Item}
use Rattle.lab_lines.specs.declared.line.Item.TheVariants as item
use Rattle.lab_lines.specs.declared.line.Line.{Line}
use Rattle.lab_lines.specs.declared.line.Op.{Op}
use Rattle.lab_lines.specs.declared.script.CardLine.{CardLine}
use Rattle.lab_lines.specs.declared.script.ClientLine.{ClientLine}
use Rattle.lab_lines.specs.declared.script.ReaderLine.{ReaderLine}
use Rattle.lab_script.specs.Causes.{◌>>=◌, refuse_if, some_or, word_and_rest, end_of}
use Rattle.text_words.specs.Table.{row_of}
use Rattle.lab_script.specs.Keys.{keys_from, word_after, number_given, byte_given, small_given, small_where, stop_given, share_given, name_of, file_of, file_where, bindings_where}
use Rattle.lab_script.specs.Ops.{op_of}
use Rattle.lab_lines.specs.Script.{is_of_card, is_unplug, played_by}

-- the lines that are read: the card, the clients, the readers, and the body; the number of the line of a phase that isn't
-- ended, and its lines; how many phases there are, how many frames the card plays, and whether it is unplugged
pub record State : Type 0 where
  pub card : CardLine
  pub clients : List ClientLine
  pub readers : List ReaderLine
  pub body : List Item
  pub phase : Option ℕ
  pub lines : List Line
  pub phases : ℕ
  pub played : ℕ
  pub gone : Bool

-- a draft, as its lines
abbrev pub view : Draft → State
view d = record {
  card = d.card;
  clients = d.clients.items;
  readers = d.readers.items;
  body = d.body.items;
  phase = d.phase;
  lines = d.lines.items;
  phases = d.phases;
  played = d.played;
  gone = d.gone;
}

-- a card's line, and nothing else
abbrev pub card_alone : CardLine → State
card_alone card = record { card = card; clients = []; readers = []; body = []; phase = None; lines = []; phases = 0; played = 0; gone = false }

-- the words that no name is, with what each begins
abbrev pub keywords : List (List ℕ × Keyword)
keywords =
    (codes "card", keyword.Card) ∷
    (codes "client", keyword.Client) ∷
    (codes "reader", keyword.Reader) ∷
    (codes "open", keyword.Open) ∷
    (codes "close", keyword.Close) ∷
    (codes "phase", keyword.Phase) ∷
    (codes "end", keyword.End) ∷ []

-- a client has this name
abbrev pub is_client : List ℕ → ClientLine → Bool
is_client name client = bytes_eq client.name name

-- a reader has this name
abbrev pub is_reader : List ℕ → ReaderLine → Bool
is_reader name reader = bytes_eq reader.name name

-- a value, or another one where there is none
abbrev pub or_else : {A : Type 0} → Option A → Option A → Option A
or_else (Some x) other = Some x
or_else None other = other

-- the client or reader of this name, by its number among its like, from 0
abbrev pub actor_named : State → List ℕ → Option Actor
actor_named s name = or_else (option_map Client (position (is_client name) s.clients)) (option_map Reader (position (is_reader name) s.readers))

-- the card's period divides its ring at least twice
abbrev pub divides : ℕ → ℕ → Bool
divides period ring = nat_lt 0 period && nat_le period (ring / 2) && ring % period == 0

-- the card of the words after `card`, on the line of this number
unfoldable pub card_of : ℕ → List (List ℕ) → Result CardLine ScriptWhy
card_of number words = do
  keys ← keys_from kind.Card [] words
  let period = number_given (codes "period") 1024 words
  let ring = small_given (codes "ring") 8192 words
  fits ← refuse_if (not (divides period ring)) why.Fit
  capture ← file_where (word_after (codes "capture") words)
  Ok (record {
    number = number;
    channels = byte_given (codes "channels") 2 words;
    rate = small_given (codes "rate") 48000 words;
    period = period;
    ring = ring;
    places = small_given (codes "places") 64 words;
    lap = small_given (codes "lap") 0 words;
    capture = capture;
    share = share_given words;
  })

-- the client of this name, file and keys on a card
abbrev pub client_line : CardLine → ℕ → List ℕ → List ℕ → List (List ℕ) → Result ClientLine ScriptWhy
client_line card number name file keys = do
  let lead = number_given (codes "lead") card.period keys
  fits ← refuse_if (nat_le card.ring lead) why.Fit
  bindings ← bindings_where card.channels (word_after (codes "bindings") keys)
  Ok (record {
    number = number;
    name = name;
    file = file;
    bindings = bindings;
    buffer = small_where (codes "buffer") keys;
    period = small_where (codes "period") keys;
    start = number_given (codes "start") 1 keys;
    stop = stop_given keys;
    lead = lead;
    plug = is_some (word_after (codes "plug") keys);
  })

-- the client of the words after `client`, on the line of this number
unfoldable pub client_of : State → ℕ → List (List ℕ) → Result ClientLine ScriptWhy
client_of s number words = do
  first ← word_and_rest words
  name ← name_of first.0
  second ← word_and_rest first.1
  file ← file_of second.0
  keys ← keys_from kind.Client [] second.1
  once ← refuse_if (is_some (actor_named s first.0)) why.NameTwice
  room ← refuse_if (nat_le 64 (length s.clients)) why.TooMany
  client_line s.card number name file second.1

-- the reader of the words after `reader`, on the line of this number
unfoldable pub reader_of : State → ℕ → List (List ℕ) → Result ReaderLine ScriptWhy
reader_of s number words = do
  first ← word_and_rest words
  name ← name_of first.0
  keys ← keys_from kind.Reader [] first.1
  once ← refuse_if (is_some (actor_named s first.0)) why.NameTwice
  room ← refuse_if (nat_le 64 (length s.readers)) why.TooMany
  bindings ← bindings_where s.card.channels (word_after (codes "bindings") first.1)
  Ok (record {
    number = number;
    name = name;
    bindings = bindings;
    buffer = small_where (codes "buffer") first.1;
    period = small_where (codes "period") first.1;
    start = number_given (codes "start") 1 first.1;
    stop = stop_given first.1;
  })

-- `client NAME FILE KEYS`
unfoldable pub with_client : State → ℕ → List (List ℕ) → Result State ScriptWhy
with_client s number words = do
  order ← refuse_if (not (length s.body == 0)) why.Order
  client ← client_of s number words
  Ok (record s { clients = s.clients ++ client ∷ [] })

-- `reader NAME KEYS`
unfoldable pub with_reader : State → ℕ → List (List ℕ) → Result State ScriptWhy
with_reader s number words = do
  order ← refuse_if (not (length s.body == 0)) why.Order
  reader ← reader_of s number words
  Ok (record s { readers = s.readers ++ reader ∷ [] })

-- the actor of a line `open NAME` or `close NAME`
unfoldable pub border_of : State → List (List ℕ) → Result Actor ScriptWhy
border_of s words = do
  first ← word_and_rest words
  actor ← some_or why.Word (actor_named s first.0)
  end ← end_of first.1
  Ok actor

-- `open NAME`
unfoldable pub with_open : State → ℕ → List (List ℕ) → Result State ScriptWhy
with_open s number words = do
  actor ← border_of s words
  Ok (record s { body = s.body ++ item.Opens number actor ∷ [] })

-- `close NAME`
unfoldable pub with_close : State → ℕ → List (List ℕ) → Result State ScriptWhy
with_close s number words = do
  actor ← border_of s words
  Ok (record s { body = s.body ++ item.Closes number actor ∷ [] })

-- `phase`
unfoldable pub with_phase : State → ℕ → List (List ℕ) → Result State ScriptWhy
with_phase s number words = do
  end ← end_of words
  room ← refuse_if (nat_le 4096 s.phases) why.TooMany
  Ok (record s { phase = Some number; phases = s.phases + 1 })

-- `end`
unfoldable pub with_end : State → List (List ℕ) → Result State ScriptWhy
with_end s words = do
  end ← end_of words
  Ok (record s { body = s.body ++ item.Phase s.lines ∷ []; phase = None; lines = [] })

-- a line of a phase is not alone where the card is unplugged, after these lines
abbrev pub is_beside : List Line → Op → Bool
is_beside [] op = false
is_beside (first ∷ lines) op = is_unplug first.op || is_unplug op

-- so many frames from the first lap on don't leave a lap before the ring's last one
abbrev pub ends_lap : CardLine → ℕ → Bool
ends_lap card played = nat_lt (4294967295 * card.ring) (card.lap * card.ring + played + card.ring)

-- `ACTOR OP` in a phase, on the line of this number
unfoldable pub with_line : State → ℕ → Actor → List (List ℕ) → Result State ScriptWhy
with_line s number actor words = do
  asked ← op_of actor words
  let played = s.played + played_by asked
  alone ← refuse_if (is_beside s.lines asked) why.Alone
  plugged ← refuse_if (s.gone && is_of_card actor) why.Unplugged
  frames ← refuse_if (nat_lt 4194304 played) why.Frames
  laps ← refuse_if (ends_lap s.card played) why.LapEnd
  Ok (record s { lines = s.lines ++ (record { number = number; actor = actor; op = asked }) ∷ []; played = played; gone = s.gone || is_unplug asked })

-- a line that begins with no keyword, outside a phase
abbrev pub unknown_outside : Option Actor → Result State ScriptWhy
unknown_outside None = Err why.Word
unknown_outside (Some actor) = Err why.Order

-- the lines outside phases, by what they begin with
abbrev pub outside : State → ℕ → List ℕ → Option Keyword → List (List ℕ) → Result State ScriptWhy
outside s number word (Some keyword.Card) words = Err why.Order
outside s number word (Some keyword.Client) words = with_client s number words
outside s number word (Some keyword.Reader) words = with_reader s number words
outside s number word (Some keyword.Open) words = with_open s number words
outside s number word (Some keyword.Close) words = with_close s number words
outside s number word (Some keyword.Phase) words = with_phase s number words
outside s number word (Some keyword.End) words = Err why.Order
outside s number word None words = unknown_outside (actor_named s word)

-- a line that begins with no keyword, in a phase
abbrev pub unknown_inside : State → ℕ → Option Actor → List (List ℕ) → Result State ScriptWhy
unknown_inside s number None words = Err why.Word
unknown_inside s number (Some actor) words = with_line s number actor words

-- the lines of a phase, by what they begin with
abbrev pub inside : State → ℕ → List ℕ → Option Keyword → List (List ℕ) → Result State ScriptWhy
inside s number word (Some keyword.Card) words = with_line s number Card words
inside s number word (Some keyword.Client) words = Err why.Order
inside s number word (Some keyword.Reader) words = Err why.Order
inside s number word (Some keyword.Open) words = Err why.Order
inside s number word (Some keyword.Close) words = Err why.Order
inside s number word (Some keyword.Phase) words = Err why.Order
inside s number word (Some keyword.End) words = with_end s words
inside s number word None words = unknown_inside s number (actor_named s word) words

-- a line by whether a phase is open
abbrev pub line_at : Option ℕ → State → ℕ → List ℕ → List (List ℕ) → Result State ScriptWhy
line_at None s number word words = outside s number word (row_of keywords word) words
line_at (Some opened) s number word words = inside s number word (row_of keywords word) words

-- what a line after the card's makes of what is read before it
abbrev pub with_words : State → ℕ → List (List ℕ) → Result State ScriptWhy
with_words s number [] = Ok s
with_words s number (word ∷ words) = line_at s.phase s number word words
