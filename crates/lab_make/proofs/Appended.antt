-- Lines are appended to a text one by one.
use Rattle.lab_make.specs.Prelude.{ap, append_assoc, arith, List, map, suc, sym, zero, zero-add, ℕ, [], ◌++◌, ◌+◌, ◌∙◌, ◌∷◌, ◌≡◌, flat_map-append, append-nil}
use Rattle.lab_make.specs.Prelude.{map-range_with_len_more, flat_map, range_with_len, line_text, lines_text, all_turn_lines, card_words, client_lines}
use Rattle.lab_make.specs.Prelude.{client_words, made_text, open_lines, open_words, turn_lines}

-- one line more
pub lines_text-push : (f : ℕ → List (List ℕ)) (i : ℕ) (first old new : List ℕ) → old ≡ first ++ lines_text (map f (range_with_len 0 i))
    → new ≡ old ++ line_text (f i) → new ≡ first ++ lines_text (map f (range_with_len 0 (i + 1)))
lines_text-push f i first old new before line =
    let lines = map f (range_with_len 0 i) in
    let more : lines_text (map f (range_with_len 0 (i + 1))) ≡ lines_text lines ++ line_text (f i) =
    ap lines_text (map-range_with_len_more f 0 i i (zero-add i))
    ∙ flat_map-append line_text lines (f i ∷ [])
    ∙ ap (λ t. lines_text lines ++ t) (append-nil (line_text (f i))) in
    line ∙ ap (λ t. t ++ line_text (f i)) before ∙ append_assoc first (lines_text lines) (line_text (f i)) ∙ ap (λ t. first ++ t) (sym more)

-- numbers in a row, and one more
range_with_len-suc : (a i : ℕ) → range_with_len a (suc i) ≡ range_with_len a i ++ (a + i) ∷ []
range_with_len-suc a zero = ap (λ n. n ∷ []) (omega arith)
range_with_len-suc a (suc i) =
    let last : a + 1 + i ≡ a + suc i = omega arith in
    ap (λ ns. a ∷ ns) (range_with_len-suc (a + 1) i ∙ ap (λ n. range_with_len (a + 1) i ++ n ∷ []) last)

-- the lines of one number more, counted from 1
pub lines_text-push_all : (f : ℕ → List (List (List ℕ))) (i : ℕ) (first old new : List ℕ) → old ≡ first ++ lines_text (flat_map f (range_with_len 1 i))
    → new ≡ old ++ lines_text (f (i + 1)) → new ≡ first ++ lines_text (flat_map f (range_with_len 1 (i + 1)))
lines_text-push_all f i first old new before lines =
    let all = flat_map f (range_with_len 1 i) in
    let next : i + 1 ≡ suc i = omega arith in
    let last : 1 + i ≡ i + 1 = omega arith in
    let more : lines_text (flat_map f (range_with_len 1 (i + 1))) ≡ lines_text all ++ lines_text (f (i + 1)) =
    ap (λ n. lines_text (flat_map f (range_with_len 1 n))) next
    ∙ ap (λ ns. lines_text (flat_map f ns)) (range_with_len-suc 1 i ∙ ap (λ n. range_with_len 1 i ++ n ∷ []) last)
    ∙ ap lines_text (flat_map-append f (range_with_len 1 i) ((i + 1) ∷ []))
    ∙ ap (λ ls. lines_text (all ++ ls)) (append-nil (f (i + 1)))
    ∙ flat_map-append line_text all (f (i + 1)) in
    lines ∙ ap (λ t. t ++ lines_text (f (i + 1))) before ∙ append_assoc first (lines_text all) (lines_text (f (i + 1))) ∙ ap (λ t. first ++ t) (sym more)

-- the card's line, those of the clients, of their openings and of the turns are the whole text
pub made_text-parts : (clients turns i j k : ℕ) → i ≡ clients → j ≡ clients → k ≡ turns → (first second third whole : List ℕ) → first ≡ line_text card_words
    → second ≡ first ++ lines_text (map client_words (range_with_len 0 i)) → third ≡ second ++ lines_text (map open_words (range_with_len 0 j))
    → whole ≡ third ++ lines_text (flat_map (turn_lines clients) (range_with_len 1 k)) → whole ≡ made_text clients turns
unfolding made_text
made_text-parts clients turns i j k all_declared all_opened all_played first second third whole card declared opened played =
    let a = line_text card_words in
    let b = lines_text (client_lines clients) in
    let d = lines_text (open_lines clients) in
    let e = lines_text (all_turn_lines clients turns) in
    let third_is : third ≡ (a ++ b) ++ d =
    opened ∙ ap (λ n. second ++ lines_text (map open_words (range_with_len 0 n))) all_opened
    ∙ ap (λ t. t ++ d) (declared ∙ ap (λ n. first ++ lines_text (map client_words (range_with_len 0 n))) all_declared ∙ ap (λ t. t ++ b) card) in
    let tail = flat_map-append line_text (client_lines clients) (open_lines clients ++ all_turn_lines clients turns)
    ∙ ap (λ t. b ++ t) (flat_map-append line_text (open_lines clients) (all_turn_lines clients turns)) in
    played
    ∙ ap (λ n. third ++ lines_text (flat_map (turn_lines clients) (range_with_len 1 n))) all_played
    ∙ ap (λ t. t ++ e) third_is
    ∙ append_assoc (a ++ b) d e
    ∙ append_assoc a b (d ++ e)
    ∙ ap (λ t. a ++ t) (sym tail)
