-- The tokens of a text, one after another.
use Rattle.asound_conf.specs.Prelude.{ap, arith, cond, drop, false, length, List, refl, suc, sym, true, zero, ℕ, [], ◌-◌, ◌<◌, ◌∙◌, ◌∷◌, ◌≡◌, nat_tests}
use Rattle.asound_conf.specs.Prelude.{slice_index, is_skipped, line_after, LineToken, token_at, token_end, tokens}

-- the tokens of a text after what was taken
pub tokens-taken : (taken line : ℕ) (text : List ℕ) → tokens taken line text ≡ tokens 0 line (drop taken text)
unfolding tokens
tokens-taken zero line text = refl
tokens-taken (suc taken) line [] = refl
tokens-taken (suc taken) line (b ∷ text) = tokens-taken taken line text

-- the first token of a text, or what comes before it
tokens-first : (line : ℕ) (text : List ℕ) → 0 < length text → 0 < token_end text → tokens 0 line text ≡ (let rest = tokens 0 (line_after line (slice_index text 0)) (drop (token_end text) text) in cond (is_skipped (slice_index text 0)) rest (record { line = line; token = token_at text } ∷ rest))
unfolding tokens
tokens-first line [] some moves = absurd (omega arith)
tokens-first line (b ∷ text) some moves =
    let end : token_end (b ∷ text) ≡ suc (token_end (b ∷ text) - 1) = omega arith in
    let rest : tokens (token_end (b ∷ text) - 1) (line_after line b) text ≡ tokens 0 (line_after line b) (drop (token_end (b ∷ text)) (b ∷ text)) =
    tokens-taken (token_end (b ∷ text) - 1) (line_after line b) text ∙ ap (λ k. tokens 0 (line_after line b) (drop k (b ∷ text))) (sym end) in
    ap (λ (r : List LineToken). cond (is_skipped b) r (record { line = line; token = token_at (b ∷ text) } ∷ r)) rest

-- a blank or a comment is skipped
pub tokens-skipped : (line : ℕ) (text : List ℕ) → 0 < length text → 0 < token_end text → is_skipped (slice_index text 0) ≡ true → tokens 0 line text ≡ tokens 0 (line_after line (slice_index text 0)) (drop (token_end text) text)
tokens-skipped line text some moves skipped = rw (tokens-first line text some moves, skipped) refl

-- no line ends with what isn't skipped
line_after-same : (line b : ℕ) → is_skipped b ≡ false → line_after line b ≡ line
line_after-same line b kept = grind (arith, nat_tests)

-- a token, and those that follow
pub tokens-token : (line : ℕ) (text : List ℕ) → 0 < length text → 0 < token_end text → is_skipped (slice_index text 0) ≡ false → tokens 0 line text ≡ record { line = line; token = token_at text } ∷ tokens 0 line (drop (token_end text) text)
tokens-token line text some moves kept = rw (tokens-first line text some moves, kept, line_after-same line (slice_index text 0) kept) refl

-- nothing has no tokens
pub tokens-none : (taken line : ℕ) (text : List ℕ) → length text ≡ 0 → tokens taken line text ≡ []
unfolding tokens
tokens-none zero line [] none = refl
tokens-none (suc taken) line [] none = refl
tokens-none taken line (b ∷ text) none = absurd (omega arith)
