-- A workload's text isn't too long for a script, and its lines are plain.
use Rattle.lab_make.specs.Prelude.{add-zero, ap, arith, codes, length, length-append, List, map, nat_le, refl, suc, sym, true, zero, ℕ, [], ◌*◌, ◌++◌, ◌+◌, ◌<◌}
use Rattle.lab_make.specs.Prelude.{◌∙◌, ◌∷◌, ◌≡◌, ◌≤◌, leb-true, length-decimal-le, flat_map-append, decimal, digits, flat_map, list_all, range_with_len}
use Rattle.lab_make.specs.Prelude.{line_text, lines_text, is_plain_line, all_turn_lines, card_words, client_lines, client_name, client_words, frames_written}
use Rattle.lab_make.specs.Prelude.{made_lines, made_text, open_lines, open_words, play_lines, turn_lines, write_lines, write_words}
use Rattle.std.proofs.lemmas.List.Folds.{list_all-append, list_all-map}
use Rattle.lab_make.proofs.Names.{client_words-plain, frames_written-lt, open_words-plain, write_words-plain}
use Rattle.lab_make.proofs.NumberTests.{below_test, range_all}

-- lines of numbers in a row, each of which has a limit
length-lines_text-map : (f : ℕ → List (List ℕ)) (most a n : ℕ) → ((k : ℕ) → k < n → length (line_text (f (a + k))) ≤ most)
    → length (lines_text (map f (range_with_len a n))) ≤ n * most
length-lines_text-map f most a zero h = omega arith
length-lines_text-map f most a (suc n) h =
    let first : length (line_text (f a)) ≤ most = rw (sym (add-zero a)) (h 0 (omega arith)) in
    let next : (k : ℕ) → k < n → length (line_text (f (a + 1 + k))) ≤ most = λ k l.
    let place : a + 1 + k ≡ a + suc k = omega arith in
    rw place (h (suc k) (omega arith)) in
    let rest = length-lines_text-map f most (a + 1) n next in
    let all = length-append (line_text (f a)) (lines_text (map f (range_with_len (a + 1) n))) in
    omega (arith, first, rest, all)

-- the same, of several lines for each number
length-lines_text-flat_map : (f : ℕ → List (List (List ℕ))) (most a n : ℕ) → ((k : ℕ) → length (lines_text (f k)) ≤ most)
    → length (lines_text (flat_map f (range_with_len a n))) ≤ n * most
length-lines_text-flat_map f most a zero h = omega arith
length-lines_text-flat_map f most a (suc n) h =
    let rest = length-lines_text-flat_map f most (a + 1) n h in
    let first = h a in
    let text = ap length (flat_map-append line_text (f a) (flat_map f (range_with_len (a + 1) n))) in
    let all = length-append (lines_text (f a)) (lines_text (flat_map f (range_with_len (a + 1) n))) in
    omega (arith, first, rest, text, all)

length-client_words : (k : ℕ) → k < 64 → length (line_text (client_words k)) ≤ 23
unfolding digits
length-client_words k h = leb-true _ _ (below_test (λ j. nat_le (length (line_text (client_words j))) 23) 64 k refl h)

length-name : (k : ℕ) → k < 64 → length (client_name k) ≤ 3
unfolding digits
length-name k h = leb-true _ _ (below_test (λ j. nat_le (length (client_name j)) 3) 64 k refl h)

length-open_words : (k : ℕ) → k < 64 → length (line_text (open_words k)) ≤ 9
length-open_words k h =
    let name = length-name k h in
    simp length-append (omega (arith, name))

length-frames : (n : ℕ) → n < 97 → length (decimal n) ≤ 2
length-frames n h = length-decimal-le 2 n (omega arith) (omega arith) (omega arith)

length-write_words : (turn k : ℕ) → k < 64 → length (line_text (write_words turn k)) ≤ 13
length-write_words turn k h =
    let name = length-name k h in
    let frames = length-frames (frames_written turn k) (frames_written-lt turn k) in
    simp length-append (omega (arith, name, frames))

-- the lines of a phase around those that write
length-turn_lines : (clients turn : ℕ) → clients ≤ 64 → length (lines_text (turn_lines clients turn)) ≤ 865
length-turn_lines clients turn h =
    let begin = line_text (codes "phase" ∷ []) in
    let writes = lines_text (write_lines turn clients) in
    let end = lines_text ((codes "end" ∷ []) ∷ play_lines) in
    let parts = ap (λ z. length (begin ++ z)) (flat_map-append line_text (write_lines turn clients) ((codes "end" ∷ []) ∷ play_lines)) in
    let first : length begin ≡ 6 = refl in
    let last : length end ≡ 27 = refl in
    let middle = length-lines_text-map (write_words turn) 13 0 clients (λ k l. length-write_words turn (0 + k) (omega arith)) in
    let all = length-append begin (writes ++ end) in
    let rest = length-append writes end in
    omega (arith, parts, first, last, middle, all, rest)

-- the text of 64 clients and 1,000 turns isn't too long
pub length-made_text : (clients turns : ℕ) → clients ≤ 64 → turns ≤ 1000 → length (made_text clients turns) ≤ 900000
unfolding made_text
length-made_text clients turns few short =
    let card = line_text card_words in
    let declared = lines_text (client_lines clients) in
    let opened = lines_text (open_lines clients) in
    let played = lines_text (all_turn_lines clients turns) in
    let outer = ap (λ z. length (card ++ z)) (flat_map-append line_text (client_lines clients) (open_lines clients ++ all_turn_lines clients turns)) in
    let inner = ap (λ z. length (declared ++ z)) (flat_map-append line_text (open_lines clients) (all_turn_lines clients turns)) in
    let first : length card ≡ 57 = refl in
    let second = length-lines_text-map client_words 23 0 clients (λ k l. length-client_words (0 + k) (omega arith)) in
    let third = length-lines_text-map open_words 9 0 clients (λ k l. length-open_words (0 + k) (omega arith)) in
    let last = length-lines_text-flat_map (turn_lines clients) 865 1 turns (λ turn. length-turn_lines clients turn few) in
    let a = length-append card (declared ++ (opened ++ played)) in
    let b = length-append declared (opened ++ played) in
    let d = length-append opened played in
    let e = length-append card (declared ++ lines_text (open_lines clients ++ all_turn_lines clients turns)) in
    let f = length-append declared (lines_text (open_lines clients ++ all_turn_lines clients turns)) in
    omega (arith, outer, inner, first, second, third, last, a, b, d, e, f)

-- plain lines of numbers in a row
plain-map : (f : ℕ → List (List ℕ)) (a n : ℕ) → ((k : ℕ) → k < n → is_plain_line (f (a + k)) ≡ true) → list_all is_plain_line (map f (range_with_len a n)) ≡ true
plain-map f a n h = list_all-map is_plain_line f (range_with_len a n) ∙ range_all (λ k. is_plain_line (f k)) a n h

plain-append : (xs ys : List (List (List ℕ))) → list_all is_plain_line xs ≡ true → list_all is_plain_line ys ≡ true → list_all is_plain_line (xs ++ ys) ≡ true
plain-append xs ys h e = list_all-append is_plain_line xs ys ∙ rw (h, e) refl

plain-flat_map : (f : ℕ → List (List (List ℕ))) (a n : ℕ) → ((k : ℕ) → list_all is_plain_line (f k) ≡ true) → list_all is_plain_line (flat_map f (range_with_len a n)) ≡ true
plain-flat_map f a zero h = refl
plain-flat_map f a (suc n) h = plain-append (f a) (flat_map f (range_with_len (a + 1) n)) (h a) (plain-flat_map f (a + 1) n h)

turn_lines-plain : (clients turn : ℕ) → clients ≤ 64 → list_all is_plain_line (turn_lines clients turn) ≡ true
turn_lines-plain clients turn h =
    plain-append (write_lines turn clients) ((codes "end" ∷ []) ∷ play_lines)
    (plain-map (write_words turn) 0 clients (λ k l. write_words-plain turn (0 + k) (omega arith)))
    refl

-- each line of a workload's script is plain
pub made_lines-plain : (clients turns : ℕ) → clients ≤ 64 → list_all is_plain_line (made_lines clients turns) ≡ true
made_lines-plain clients turns few =
    plain-append (client_lines clients) (open_lines clients ++ all_turn_lines clients turns)
    (plain-map client_words 0 clients (λ k l. client_words-plain (0 + k) (omega arith)))
    (plain-append (open_lines clients) (all_turn_lines clients turns)
    (plain-map open_words 0 clients (λ k l. open_words-plain (0 + k) (omega arith)))
    (plain-flat_map (turn_lines clients) 1 turns (λ turn. turn_lines-plain clients turn few)))
