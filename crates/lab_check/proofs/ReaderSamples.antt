-- What was recorded, frame by frame and run by run.
use Rattle.lab_check.specs.Prelude.{ap, append_assoc, arith, List, Option, Some, sym, ℕ, [], ◌++◌, ◌+◌, ◌∙◌, ◌∷◌, ◌≡◌, flat_map-append, append-nil, flat_map}
use Rattle.lab_check.specs.Prelude.{range_with_len, slice_get, slice_index_or, suc, zero, ℤ, range_with_len-append, Sound, Report, CardLine, ReaderLine}
use Rattle.lab_check.specs.Prelude.{reader_samples, readers_samples}

-- one frame more
pub frame-more : (of : ℕ → List ℤ) (first n : ℕ) (before : List ℤ)
    → (before ++ flat_map of (range_with_len first n)) ++ of (first + n) ≡ before ++ flat_map of (range_with_len first (n + 1))
frame-more of first n before =
    append_assoc before (flat_map of (range_with_len first n)) (of (first + n))
    ∙ ap (λ (l : List ℤ). before ++ l)
    (ap (λ (l : List ℤ). flat_map of (range_with_len first n) ++ l) (sym (append-nil (of (first + n))))
    ∙ sym (flat_map-append of (range_with_len first n) (range_with_len (first + n) 1))
    ∙ ap (flat_map of) (sym (range_with_len-append first n 1)))

-- ---- one of the readers

recorded-of : (card : CardLine) (capture : Option Sound) (report : Report) (first k : ℕ) (lines : List ReaderLine) (line : ReaderLine) → slice_get lines k ≡ Some line
    → slice_index_or (readers_samples card capture report first lines) k [] ≡ reader_samples card capture report (first + k) line
recorded-of card capture report first k [] line is = absurd cc
recorded-of card capture report first zero (one ∷ lines) line is =
    let same : one ≡ line = cc in
    ap (λ (l : ReaderLine). reader_samples card capture report first l) same
    ∙ (let more : first ≡ first + zero = omega arith in ap (λ n. reader_samples card capture report n line) more)
recorded-of card capture report first (suc k) (one ∷ lines) line is =
    recorded-of card capture report (first + 1) k lines line is
    ∙ (let more : (first + 1) + k ≡ first + suc k = omega arith in ap (λ n. reader_samples card capture report n line) more)

pub recorded-at : (card : CardLine) (capture : Option Sound) (report : Report) (number : ℕ) (lines : List ReaderLine) (line : ReaderLine) → slice_get lines number ≡ Some line
    → slice_index_or (readers_samples card capture report 0 lines) number [] ≡ reader_samples card capture report number line
recorded-at card capture report number lines line is =
    let same : 0 + number ≡ number = omega arith in
    recorded-of card capture report 0 number lines line is ∙ ap (λ n. reader_samples card capture report n line) same
