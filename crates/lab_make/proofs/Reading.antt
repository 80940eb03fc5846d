-- The text of a workload spells its script: the reader of scripts goes through its lines.
use Rattle.lab_make.specs.Prelude.{add-zero, ap, arith, codes, false, is_none, length, List, map, nat_le, None, Ok, refl, Some, suc, sym, true, zero, zero-add}
use Rattle.lab_make.specs.Prelude.{ℕ, [], ◌*◌, ◌++◌, ◌+◌, ◌<◌, ◌∙◌, ◌∷◌, ◌≡◌, ◌≤◌, false≢true, le-leb, le-ltb, lt-leb, ne_eqb, Decides-eqb}
use Rattle.lab_make.specs.Prelude.{length-map-range_with_len, map-range_with_len_more, decimal, digits, enumerate_from, position, range_with_len, Option}
use Rattle.lab_make.specs.Prelude.{number_of_word-decimal, Actor, Card, Client, Reader, Item, Line, actor_named, ends_lap, inside, is_beside, is_client}
use Rattle.lab_make.specs.Prelude.{is_reader, keywords, or_else, State, unknown_inside, with_client, with_line, with_words, after, on_line, file_name}
use Rattle.lab_make.specs.Prelude.{client_name, client_words, frames_written, open_words, write_words, made_card, made_client, made_opening, turn_line}
use Rattle.lab_make.specs.Prelude.{write_line}
use Rattle.std.proofs.Common.{option_map}
use Rattle.text_words.specs.Table.{row_of}
use Rattle.lab_script.specs.Causes.{◌>>=◌}
use Rattle.lab_make.proofs.LineSteps.{IsTaken, client_of-plain, op_of-play, op_of-write, with_line-plain, with_open-plain, with_phase-plain}
use Rattle.lab_make.proofs.Names.{client_name-is_name, client_name-same, file_name-is_file, frames_written-lt}
use Rattle.lab_make.proofs.NumberTests.{below_test}
use Rattle.lab_make.proofs.Places.{position-first, position-none}
use Rattle.lab_lines.specs.declared.line.Op.TheVariants as op

-- outside a phase: so many clients are declared, these items are done, and so many turns
abbrev pub outside_of : ℕ → List Item → ℕ → State
outside_of clients body turns = record {
  card = made_card;
  clients = map made_client (range_with_len 0 clients);
  readers = [];
  body = body;
  phase = None;
  lines = [];
  phases = 2 * turns;
  played = 64 * turns;
  gone = false;
}

-- in a phase that began on this line and has these lines, after so many phases and frames
abbrev pub inside_of : ℕ → List Item → ℕ → List Line → ℕ → ℕ → State
inside_of clients body begin lines phases played = record {
  card = made_card;
  clients = map made_client (range_with_len 0 clients);
  readers = [];
  body = body;
  phase = Some begin;
  lines = lines;
  phases = phases;
  played = played;
  gone = false;
}

-- a line that is taken
pub after-step : (s t : State) (n : ℕ) (words : List (List ℕ)) (lines : List (ℕ × List (List ℕ))) → with_words s n words ≡ Ok t → after s ((n, words) ∷ lines) ≡ after t lines
after-step s t n words lines e = ap (λ r. on_line n r (λ next. after next lines)) e

none_is : {A : Type 0} (o : Option A) → is_none o ≡ true → o ≡ None
none_is None e = refl
none_is (Some x) e = absurd (false≢true e)

-- no client has the name of a later one
position-later : (k : ℕ) → k < 64 → position (is_client (client_name k)) (map made_client (range_with_len 0 k)) ≡ None
position-later k h =
    position-none (is_client (client_name k)) made_client k
    (λ j l. client_name-same j k (omega arith) h ∙ ne_eqb j k (λ e. omega arith))

-- the client of a name
position-own : (clients k : ℕ) → clients ≤ 64 → k < clients → position (is_client (client_name k)) (map made_client (range_with_len 0 clients)) ≡ Some k
position-own clients k few h =
    position-first (is_client (client_name k)) made_client clients k h
    (λ j l. client_name-same j k (omega arith) (omega arith) ∙ ne_eqb j k (λ e. omega arith))
    (client_name-same k k (omega arith) (omega arith) ∙ (Decides-eqb k k).1 refl)

-- a client by its place
abbrev pub by_place : Option ℕ → List ℕ → Option Actor
by_place place name = or_else (option_map Client place) (option_map Reader (position (is_reader name) []))

-- a client is declared
with_words-client : (k : ℕ) → k < 64 → with_words (outside_of k [] 0) (k + 2) (client_words k) ≡ Ok (outside_of (k + 1) [] 0)
unfolding with_client
with_words-client k h =
    let s = outside_of k [] 0 in
    let new : actor_named s (client_name k) ≡ None = ap (λ place. by_place place (client_name k)) (position-later k h) in
    let count = length-map-range_with_len made_client 0 k in
    let room : nat_le 64 (length s.clients) ≡ false = ap (nat_le 64) count ∙ lt-leb 64 k h in
    let client = client_of-plain s (k + 2) (client_name k) (file_name k) (client_name-is_name k h) (file_name-is_file k h) new room refl in
    ap (λ c. c >>= (λ client. Ok (record s { clients = s.clients ++ client ∷ [] }))) client
    ∙ ap (λ cs. Ok (record s { clients = cs })) (sym (map-range_with_len_more made_client 0 k k (zero-add k)))

-- lines that are taken one after the other
after-each : (state : ℕ → State) (line : ℕ → ℕ) (words : ℕ → List (List ℕ)) (limit : ℕ) (tail : List (List (List ℕ))) → ((k : ℕ) → line k + 1 ≡ line (k + 1))
    → ((k : ℕ) → k < limit → with_words (state k) (line k) (words k) ≡ Ok (state (k + 1))) → (j k m : ℕ) → m ≡ line k → k + j ≤ limit
    → after (state k) (enumerate_from m (map words (range_with_len k j) ++ tail)) ≡ after (state (k + j)) (enumerate_from (m + j) tail)
after-each state line words limit tail following taken zero k m at within =
    ap (λ n. after (state n) (enumerate_from m tail)) (sym (add-zero k)) ∙ ap (λ n. after (state (k + 0)) (enumerate_from n tail)) (sym (add-zero m))
after-each state line words limit tail following taken (suc j) k m at within =
    let rest = map words (range_with_len (k + 1) j) ++ tail in
    let here : with_words (state k) m (words k) ≡ Ok (state (k + 1)) = ap (λ n. with_words (state k) n (words k)) at ∙ taken k (omega arith) in
    let following_line : m + 1 ≡ line (k + 1) = ap (λ n. n + 1) at ∙ following k in
    let next = after-each state line words limit tail following taken j (k + 1) (m + 1) following_line (omega arith) in
    let states : k + 1 + j ≡ k + suc j = omega arith in
    let numbers : m + 1 + j ≡ m + suc j = omega arith in
    after-step (state k) (state (k + 1)) m (words k) (enumerate_from (m + 1) rest) here
    ∙ next
    ∙ ap (λ n. after (state n) (enumerate_from (m + 1 + j) tail)) states
    ∙ ap (λ n. after (state (k + suc j)) (enumerate_from n tail)) numbers

-- the lines of clients
pub after-clients : (j k m : ℕ) (tail : List (List (List ℕ))) → m ≡ k + 2 → k + j ≤ 64
    → after (outside_of k [] 0) (enumerate_from m (map client_words (range_with_len k j) ++ tail)) ≡ after (outside_of (k + j) [] 0) (enumerate_from (m + j) tail)
after-clients j k m tail at few = after-each (λ n. outside_of n [] 0) (λ n. n + 2) client_words 64 tail (λ n. omega arith) with_words-client j k m at few

-- the openings of the first clients
abbrev pub openings : ℕ → ℕ → List Item
openings clients k = map (made_opening clients) (range_with_len 0 k)

-- a client is opened
with_words-open : (clients k : ℕ) → clients ≤ 64 → k < clients
    → with_words (outside_of clients (openings clients k) 0) (clients + 2 + k) (open_words k) ≡ Ok (outside_of clients (openings clients (k + 1)) 0)
with_words-open clients k few h =
    let s = outside_of clients (openings clients k) 0 in
    let known : actor_named s (client_name k) ≡ Some (Client k) = ap (λ place. by_place place (client_name k)) (position-own clients k few h) in
    with_open-plain s (clients + 2 + k) (client_name k) (Client k) known
    ∙ ap (λ items. Ok (outside_of clients items 0)) (sym (map-range_with_len_more (made_opening clients) 0 k k (zero-add k)))

-- the lines that open clients
pub after-opens : (clients j k m : ℕ) (tail : List (List (List ℕ))) → m ≡ clients + 2 + k → clients ≤ 64 → k + j ≤ clients
    → after (outside_of clients (openings clients k) 0) (enumerate_from m (map open_words (range_with_len k j) ++ tail))
    ≡ after (outside_of clients (openings clients (k + j)) 0) (enumerate_from (m + j) tail)
after-opens clients j k m tail at few within =
    after-each (λ n. outside_of clients (openings clients n) 0) (λ n. clients + 2 + n) open_words clients tail (λ n. omega arith) (λ n l. with_words-open clients n few l) j k m at within

-- the lines of the first clients that write in a turn
abbrev pub written : ℕ → ℕ → ℕ → List Line
written clients turn k = map (write_line clients turn) (range_with_len 0 k)

-- no line of the clients is one that unplugs the card
is_beside-written : (clients turn k n : ℕ) → is_beside (written clients turn k) (op.Write n) ≡ false
is_beside-written clients turn zero n = refl
is_beside-written clients turn (suc k) n = refl

-- the card is far from the last lap of its ring
ends_lap-made : (played : ℕ) → played ≤ 64000 → ends_lap made_card played ≡ false
ends_lap-made played h = le-ltb (4294967295 * 1024) (0 * 1024 + played + 1024) (omega arith)

-- the name of a client is no keyword
keyword_of-name : (k : ℕ) → k < 64 → row_of keywords (client_name k) ≡ None
unfolding digits
keyword_of-name k h = none_is (row_of keywords (client_name k)) (below_test (λ j. is_none (row_of keywords (client_name j))) 64 k refl h)

-- in a phase a line of a client
with_words-inside : (clients k m : ℕ) (body : List Item) (begin phases played : ℕ) (lines : List Line) (words : List (List ℕ)) → clients ≤ 64 → k < clients
    → with_words (inside_of clients body begin lines phases played) m (client_name k ∷ words)
    ≡ with_line (inside_of clients body begin lines phases played) m (Client k) words
with_words-inside clients k m body begin phases played lines words few h =
    let s = inside_of clients body begin lines phases played in
    let known : actor_named s (client_name k) ≡ Some (Client k) = ap (λ place. by_place place (client_name k)) (position-own clients k few h) in
    ap (λ word. inside s m (client_name k) word words) (keyword_of-name k (omega arith)) ∙ ap (λ actor. unknown_inside s m actor words) known

-- a client writes
with_words-write : (clients turn k : ℕ) (body : List Item) (phases played : ℕ) → clients ≤ 64 → k < clients → played ≤ 64000
    → with_words (inside_of clients body (turn_line clients turn) (written clients turn k) phases played) (turn_line clients turn + 1 + k) (write_words turn k)
    ≡ Ok (inside_of clients body (turn_line clients turn) (written clients turn (k + 1)) phases played)
with_words-write clients turn k body phases played few h short =
    let begin = turn_line clients turn in
    let s = inside_of clients body begin (written clients turn k) phases played in
    let n = frames_written turn k in
    let small = frames_written-lt turn k in
    let asked = op_of-write k n (decimal n) (number_of_word-decimal n (omega (arith, small))) (le-leb n 4194304 (omega arith)) in
    let taken : IsTaken s (Client k) (op.Write n) = record {
      alone = is_beside-written clients turn k n;
      plugged = refl;
      frames = le-ltb 4194304 (played + 0) (omega arith);
      laps = ends_lap-made (played + 0) (omega arith);
    } in
    with_words-inside clients k (begin + 1 + k) body begin phases played (written clients turn k) (codes "write" ∷ decimal n ∷ []) few h
    ∙ with_line-plain s (begin + 1 + k) (Client k) (codes "write" ∷ decimal n ∷ []) (op.Write n) asked taken
    ∙ ap (λ lines. Ok (inside_of clients body begin lines phases (played + 0))) (sym (map-range_with_len_more (write_line clients turn) 0 k k (zero-add k)))
    ∙ ap (λ frames. Ok (inside_of clients body begin (written clients turn (k + 1)) phases frames)) (add-zero played)

-- the lines with which clients write
pub after-writes : (clients turn : ℕ) (body : List Item) (phases played j k m : ℕ) (tail : List (List (List ℕ))) → m ≡ turn_line clients turn + 1 + k
    → clients ≤ 64 → k + j ≤ clients → played ≤ 64000
    → after (inside_of clients body (turn_line clients turn) (written clients turn k) phases played) (enumerate_from m (map (write_words turn) (range_with_len k j) ++ tail))
    ≡ after (inside_of clients body (turn_line clients turn) (written clients turn (k + j)) phases played) (enumerate_from (m + j) tail)
after-writes clients turn body phases played j k m tail at few within short =
    after-each (λ n. inside_of clients body (turn_line clients turn) (written clients turn n) phases played) (λ n. turn_line clients turn + 1 + n) (write_words turn)
    clients tail (λ n. omega arith) (λ n l. with_words-write clients turn n body phases played few l short) j k m at within

-- a phase begins
pub with_words-phase : (clients : ℕ) (body : List Item) (phases played n : ℕ) (s : State) → s ≡ record (inside_of clients body 0 [] phases played) { phase = None } → phases < 4096
    → with_words s n (codes "phase" ∷ []) ≡ Ok (inside_of clients body n [] (phases + 1) played)
with_words-phase clients body phases played n s is h =
    let t = record (inside_of clients body 0 [] phases played) { phase = None } in
    ap (λ u. with_words u n (codes "phase" ∷ [])) is ∙ with_phase-plain t n (lt-leb 4096 phases h)

-- the card plays
pub with_words-play : (clients : ℕ) (body : List Item) (begin phases played n : ℕ) → played + 64 ≤ 64000
    → with_words (inside_of clients body begin [] phases played) n (codes "card" ∷ codes "play" ∷ codes "64" ∷ [])
    ≡ Ok (inside_of clients body begin ((record { number = n; actor = Card; op = op.Play 64 }) ∷ []) phases (played + 64))
with_words-play clients body begin phases played n short =
    let s = inside_of clients body begin [] phases played in
    let taken : IsTaken s Card (op.Play 64) = record {
      alone = refl;
      plugged = refl;
      frames = le-ltb 4194304 (played + 64) (omega arith);
      laps = ends_lap-made (played + 64) short;
    } in
    with_line-plain s n Card (codes "play" ∷ codes "64" ∷ []) (op.Play 64) op_of-play taken
