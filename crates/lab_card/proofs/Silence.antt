-- What a card captures where there is no file.
use Rattle.lab_card.specs.Prelude.{ap, arith, List, map, None, refl, ℕ, ℤ, ◌*◌, ◌++◌, ◌+◌, ◌∙◌, ◌≡◌, replicate-append-replicate, range_with_len, pos, replicate}
use Rattle.lab_card.specs.Prelude.{suc, zero, ◌∷◌, captured_at, captured_frames}

-- so many channels of silence
captured_at-none : (frame from n : ℕ) → map (captured_at None frame) (range_with_len from n) ≡ replicate n (pos 0)
captured_at-none frame from zero = refl
captured_at-none frame from (suc n) = ap (λ (xs : List ℤ). pos 0 ∷ xs) (captured_at-none frame (from + 1) n)

-- so many frames of silence
pub captured_frames-none : (channels from n : ℕ) → captured_frames None channels from n ≡ replicate (n * channels) (pos 0)
captured_frames-none channels from zero = ap (λ (k : ℕ). replicate k (pos 0)) (let e : 0 ≡ 0 * channels = omega arith in e)
captured_frames-none channels from (suc n) =
    let all : channels + n * channels ≡ suc n * channels = omega arith in
    ap (λ (xs : List ℤ). xs ++ captured_frames None channels (from + 1) n) (captured_at-none from 0 channels)
    ∙ (ap (λ (xs : List ℤ). replicate channels (pos 0) ++ xs) (captured_frames-none channels (from + 1) n)
    ∙ (replicate-append-replicate channels (n * channels) (pos 0) ∙ ap (λ (k : ℕ). replicate k (pos 0)) all))
