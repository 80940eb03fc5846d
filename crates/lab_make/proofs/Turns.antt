-- The turns of a workload, one after the other, and its whole text.
use Rattle.lab_make.specs.Prelude.{add-zero, ap, append_assoc, arith, codes, cond, false, length, List, map, nat_lt, None, Ok, refl, suc, sym, zero, zero-add}
use Rattle.lab_make.specs.Prelude.{ℕ, [], ◌*◌, ◌++◌, ◌+◌, ◌-◌, ◌<◌, ◌∙◌, ◌∷◌, ◌≡◌, ◌≤◌, le-ltb, append-nil, enumerate_from, flat_map, range_with_len, Err}
use Rattle.lab_make.specs.Prelude.{Result, word_lines, lines_from-lines_text, Card, Item, Line, ScriptError, card_alone, State, after, on_line, refusal_at}
use Rattle.lab_make.specs.Prelude.{script_at, script_of, script_of_lines, all_turn_lines, client_lines, made_lines, made_text, open_lines, play_lines}
use Rattle.lab_make.specs.Prelude.{turn_lines, write_lines, made_card, made_client, made_script, turn_items, turn_line}
use Rattle.lab_make.proofs.LineSteps.{card_line-made, with_end-plain}
use Rattle.lab_make.proofs.Reading.{after-clients, after-opens, after-step, after-writes, inside_of, openings, outside_of, with_words-phase, with_words-play, written}
use Rattle.lab_make.proofs.Sizes.{length-made_text, made_lines-plain}
use Rattle.lab_script.specs.declared.error.ScriptWhy.TheVariants as why
use Rattle.lab_lines.specs.declared.line.Item.TheVariants as item
use Rattle.lab_lines.specs.declared.line.Op.TheVariants as op

-- the state after a turn whose second phase has its line on this number
abbrev turned : ℕ → List Item → ℕ → ℕ → ℕ → ℕ → State
turned clients body turn number phases played = record {
  card = made_card;
  clients = map made_client (range_with_len 0 clients);
  readers = [];
  body = body ++ item.Phase (written clients turn clients) ∷ item.Phase ((record { number = number; actor = Card; op = op.Play 64 }) ∷ []) ∷ [];
  phase = None;
  lines = [];
  phases = phases;
  played = played;
  gone = false;
}

-- the lines after those that write
after-play : (clients turn begin phases played e : ℕ) (body : List Item) (tail : List (List (List ℕ))) → phases + 1 < 4096 → played + 64 ≤ 64000
    → after (inside_of clients body begin (written clients turn clients) phases played) (enumerate_from e ((codes "end" ∷ []) ∷ play_lines ++ tail))
    ≡ after (turned clients body turn (e + 1 + 1) (phases + 1) (played + 64)) (enumerate_from (e + 1 + 1 + 1 + 1) tail)
after-play clients turn begin phases played e body tail few short =
    let wrote = item.Phase (written clients turn clients) in
    let line : Line = record { number = e + 1 + 1; actor = Card; op = op.Play 64 } in
    let middle = body ++ wrote ∷ [] in
    let s1 = inside_of clients body begin (written clients turn clients) phases played in
    let s2 = record (inside_of clients middle 0 [] phases played) { phase = None } in
    let s3 = inside_of clients middle (e + 1) [] (phases + 1) played in
    let s4 = inside_of clients middle (e + 1) (line ∷ []) (phases + 1) (played + 64) in
    let s5 = record (inside_of clients (middle ++ item.Phase (line ∷ []) ∷ []) 0 [] (phases + 1) (played + 64)) { phase = None } in
    after-step s1 s2 e (codes "end" ∷ []) (enumerate_from (e + 1) (play_lines ++ tail)) (with_end-plain s1)
    ∙ after-step s2 s3 (e + 1) (codes "phase" ∷ []) (enumerate_from (e + 1 + 1) ((codes "card" ∷ codes "play" ∷ codes "64" ∷ []) ∷ (codes "end" ∷ []) ∷ tail)) (with_words-phase clients middle phases played (e + 1) s2 refl (omega arith))
    ∙ after-step s3 s4 (e + 1 + 1) (codes "card" ∷ codes "play" ∷ codes "64" ∷ []) (enumerate_from (e + 1 + 1 + 1) ((codes "end" ∷ []) ∷ tail)) (with_words-play clients middle (e + 1) (phases + 1) played (e + 1 + 1) short)
    ∙ after-step s4 s5 (e + 1 + 1 + 1) (codes "end" ∷ []) (enumerate_from (e + 1 + 1 + 1 + 1) tail) (with_end-plain s4)
    ∙ ap (λ items. after (record (inside_of clients items 0 [] (phases + 1) (played + 64)) { phase = None }) (enumerate_from (e + 1 + 1 + 1 + 1) tail)) (append_assoc body (wrote ∷ []) (item.Phase (line ∷ []) ∷ []))

-- the lines of a turn
after-turn : (clients t m : ℕ) (body : List Item) (tail : List (List (List ℕ))) → m ≡ turn_line clients (t + 1) → clients ≤ 64 → t < 1000
    → after (outside_of clients body t) (enumerate_from m (turn_lines clients (t + 1) ++ tail))
    ≡ after (outside_of clients (body ++ turn_items clients (t + 1)) (t + 1)) (enumerate_from (m + (clients + 5)) tail)
after-turn clients t m body tail at few early =
    let n = turn_line clients (t + 1) in
    let rest = (codes "end" ∷ []) ∷ play_lines ++ tail in
    let s0 = outside_of clients body t in
    let inner : ℕ → State = λ k. inside_of clients body n (written clients (t + 1) k) (2 * t + 1) (64 * t) in
    let e = n + 1 + clients in
    let begins = with_words-phase clients body (2 * t) (64 * t) n s0 refl (omega arith) in
    let writes = after-writes clients (t + 1) body (2 * t + 1) (64 * t) clients 0 (n + 1) rest (sym (add-zero (n + 1))) few (omega arith) (omega arith) in
    let number : e + 1 + 1 ≡ n + clients + 3 = omega arith in
    let phases : 2 * t + 1 + 1 ≡ 2 * (t + 1) = omega arith in
    let played : 64 * t + 64 ≡ 64 * (t + 1) = omega arith in
    let line : e + 1 + 1 + 1 + 1 ≡ n + (clients + 5) = omega arith in
    let end : ℕ → State → Result State ScriptError = λ k s. after s (enumerate_from k tail) in
    ap (λ k. after s0 (enumerate_from k (turn_lines clients (t + 1) ++ tail))) at
    ∙ ap (λ lines. after s0 (enumerate_from n ((codes "phase" ∷ []) ∷ lines))) (append_assoc (write_lines (t + 1) clients) ((codes "end" ∷ []) ∷ play_lines) tail)
    ∙ after-step s0 (inner 0) n (codes "phase" ∷ []) (enumerate_from (n + 1) (write_lines (t + 1) clients ++ rest)) begins
    ∙ writes
    ∙ ap (λ k. after (inner k) (enumerate_from e rest)) (zero-add clients)
    ∙ after-play clients (t + 1) n (2 * t + 1) (64 * t) e body tail (omega arith) (omega arith)
    ∙ ap (λ k. end (e + 1 + 1 + 1 + 1) (turned clients body (t + 1) k (2 * t + 1 + 1) (64 * t + 64))) number
    ∙ ap (λ k. end (e + 1 + 1 + 1 + 1) (turned clients body (t + 1) (n + clients + 3) k (64 * t + 64))) phases
    ∙ ap (λ k. end (e + 1 + 1 + 1 + 1) (turned clients body (t + 1) (n + clients + 3) (2 * (t + 1)) k)) played
    ∙ ap (λ k. end k (outside_of clients (body ++ turn_items clients (t + 1)) (t + 1))) (line ∙ ap (λ k. k + (clients + 5)) (sym at))

-- the first line of the next turn
turn_line-suc : (clients t : ℕ) → turn_line clients (t + 1) + (clients + 5) ≡ turn_line clients (t + 1 + 1)
turn_line-suc clients t =
    let before : t + 1 - 1 ≡ t = omega arith in
    let now : t + 1 + 1 - 1 ≡ t + 1 = omega arith in
    rw (before, now) (omega arith)

-- the lines of turns
after-turns : (clients j t m : ℕ) (body : List Item) → m ≡ turn_line clients (t + 1) → clients ≤ 64 → t + j ≤ 1000
    → after (outside_of clients body t) (enumerate_from m (flat_map (turn_lines clients) (range_with_len (t + 1) j)))
    ≡ Ok (outside_of clients (body ++ flat_map (turn_items clients) (range_with_len (t + 1) j)) (t + j))
after-turns clients zero t m body at few short =
    ap (λ items. Ok (outside_of clients items t)) (sym (append-nil body)) ∙ ap (λ n. Ok (outside_of clients (body ++ []) n)) (sym (add-zero t))
after-turns clients (suc j) t m body at few short =
    let items = turn_items clients (t + 1) in
    let others = flat_map (turn_items clients) (range_with_len (t + 1 + 1) j) in
    let next = after-turns clients j (t + 1) (m + (clients + 5)) (body ++ items) (ap (λ k. k + (clients + 5)) at ∙ turn_line-suc clients t) few (omega arith) in
    let turns : t + 1 + j ≡ t + suc j = omega arith in
    after-turn clients t m body (flat_map (turn_lines clients) (range_with_len (t + 1 + 1) j)) at few (omega arith)
    ∙ next
    ∙ ap (λ all. Ok (outside_of clients all (t + 1 + j))) (append_assoc body items others)
    ∙ ap (λ n. Ok (outside_of clients (body ++ (items ++ others)) n)) turns

-- the lines after the card's
after-made : (clients turns : ℕ) → clients ≤ 64 → turns ≤ 1000
    → after (outside_of 0 [] 0) (enumerate_from 2 (client_lines clients ++ (open_lines clients ++ all_turn_lines clients turns)))
    ≡ Ok (outside_of clients (openings clients clients ++ flat_map (turn_items clients) (range_with_len 1 turns)) turns)
after-made clients turns few short =
    let opens = open_lines clients ++ all_turn_lines clients turns in
    let declared = after-clients clients 0 2 opens refl (omega arith) in
    let opened = after-opens clients clients 0 (2 + clients) (all_turn_lines clients turns) (omega arith) few (omega arith) in
    let first : 2 + clients + clients ≡ turn_line clients (0 + 1) = omega arith in
    let done = after-turns clients turns 0 (2 + clients + clients) (openings clients clients) first few (omega arith) in
    declared
    ∙ ap (λ n. after (outside_of n [] 0) (enumerate_from (2 + clients) opens)) (zero-add clients)
    ∙ opened
    ∙ ap (λ n. after (outside_of clients (openings clients n) 0) (enumerate_from (2 + clients + clients) (all_turn_lines clients turns))) (zero-add clients)
    ∙ done
    ∙ ap (λ n. Ok (outside_of clients (openings clients clients ++ flat_map (turn_items clients) (range_with_len 1 turns)) n)) (zero-add turns)

-- the text of a workload spells its script
pub script_of-made_text : (clients turns : ℕ) → clients ≤ 64 → turns ≤ 1000 → script_of (made_text clients turns) ≡ Ok (made_script clients turns)
unfolding made_text
script_of-made_text clients turns few short =
    let text = made_text clients turns in
    let lines = client_lines clients ++ (open_lines clients ++ all_turn_lines clients turns) in
    let size = length-made_text clients turns few short in
    let fits : nat_lt 1048576 (length text) ≡ false = le-ltb 1048576 (length text) (omega (arith, size)) in
    ap (λ t. cond t (Err (refusal_at 0 why.TooLong)) (script_of_lines (word_lines text))) fits
    ∙ ap script_of_lines (lines_from-lines_text 1 (made_lines clients turns) (made_lines-plain clients turns few))
    ∙ ap (λ card. on_line 1 card (λ made. script_at (after (card_alone made) (enumerate_from 2 lines)))) card_line-made
    ∙ ap script_at (after-made clients turns few short)
