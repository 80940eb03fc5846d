-- A file is cut into its chunks one by one.
use Rattle.wav_io.specs.Prelude.{ap, arith, drop, inl, inr, length, List, ltb, Option, refl, suc, sym, take, zero, ℕ, [], ◌%◌, ◌++◌, ◌+◌, ◌<◌, ◌∙◌, ◌∷◌, ◌≡◌}
use Rattle.wav_io.specs.Prelude.{◌≤◌, cases_lt, cond-false, cond-true, le-ltb, lt-ltb, length-drop, w32, Depths, Format, after_chunk, Chunk, chunks, chunks_in}
use Rattle.wav_io.specs.Prelude.{first_chunk, size_at, number_at, bytes_after, chunk_of_size, finding_after, scan_of, Verdict, verdict_of}

pub length-after_chunk : (bytes : List ℕ) → 8 ≤ length bytes → length (after_chunk bytes) + 8 ≤ length bytes
length-after_chunk bytes long = omega (arith, length-drop (size_at bytes + size_at bytes % 2) (drop 8 bytes), length-drop 8 bytes)

chunks_in-some : (n : ℕ) (bytes : List ℕ) → 8 ≤ length bytes → chunks_in (suc n) bytes ≡ first_chunk bytes ∷ chunks_in n (after_chunk bytes)
unfolding chunks_in
chunks_in-some n bytes long = cond-false (ltb (length bytes) 8) [] (first_chunk bytes ∷ chunks_in n (after_chunk bytes)) (le-ltb _ _ long)

chunks_in-none : (n : ℕ) (bytes : List ℕ) → length bytes < 8 → chunks_in n bytes ≡ []
unfolding chunks_in
chunks_in-none zero bytes short = refl
chunks_in-none (suc n) bytes short = cond-true (ltb (length bytes) 8) [] (first_chunk bytes ∷ chunks_in n (after_chunk bytes)) (lt-ltb _ _ short)

-- as many chunks as bytes are enough
chunks_in-enough : (n m : ℕ) (bytes : List ℕ) → length bytes ≤ n → length bytes ≤ m → chunks_in n bytes ≡ chunks_in m bytes
chunks_in-enough zero m bytes p q = chunks_in-none zero bytes (omega arith) ∙ sym (chunks_in-none m bytes (omega arith))
chunks_in-enough (suc n) zero bytes p q = chunks_in-none (suc n) bytes (omega arith) ∙ sym (chunks_in-none zero bytes (omega arith))
chunks_in-enough (suc n) (suc m) bytes p q =
    elim (cases_lt (length bytes) 8) [
      | inl short ↦ chunks_in-none (suc n) bytes short ∙ sym (chunks_in-none (suc m) bytes short)
      | inr long ↦ chunks_in-some n bytes long ∙ ap (λ (behind : List Chunk). first_chunk bytes ∷ behind) (chunks_in-enough n m (after_chunk bytes) (omega (arith, length-after_chunk bytes long)) (omega (arith, length-after_chunk bytes long))) ∙ sym (chunks_in-some m bytes long)
    ]

pub chunks-some : (bytes : List ℕ) → 8 ≤ length bytes → chunks bytes ≡ first_chunk bytes ∷ chunks (after_chunk bytes)
unfolding chunks
chunks-some bytes long =
    chunks_in-enough (length bytes) (suc (length bytes)) bytes (omega arith) (omega arith)
    ∙ chunks_in-some (length bytes) bytes long
    ∙ ap (λ (behind : List Chunk). first_chunk bytes ∷ behind) (chunks_in-enough (length bytes) (length (after_chunk bytes)) (after_chunk bytes) (omega (arith, length-after_chunk bytes long)) (omega arith))

pub chunks-none : (bytes : List ℕ) → length bytes < 8 → chunks bytes ≡ []
unfolding chunks
chunks-none bytes short = chunks_in-none (length bytes) bytes short

-- ---- the walk over the chunks

pub verdict_of-first : (depths : Depths) (format : Option Format) (bytes : List ℕ) (v : Verdict) → 8 ≤ length bytes → verdict_of depths format (first_chunk bytes) ≡ v → scan_of depths format (chunks bytes) ≡ finding_after v (λ kept. scan_of depths kept (chunks (after_chunk bytes)))
verdict_of-first depths format bytes v long e =
    ap (scan_of depths format) (chunks-some bytes long) ∙ ap (λ (w : Verdict). finding_after w (λ kept. scan_of depths kept (chunks (after_chunk bytes)))) e

-- ---- a head of eight bytes, and what follows it

-- the chunk of a head, and the bytes after it
abbrev pub headed : List ℕ → List ℕ → Chunk
headed head bytes = chunk_of_size (take 4 head) (number_at w32 4 head) bytes

pub scan_of-headed : (depths : Depths) (format : Option Format) (head bytes : List ℕ) → length head ≡ 8
    → scan_of depths format (chunks (head ++ bytes)) ≡ finding_after (verdict_of depths format (headed head bytes)) (λ kept. scan_of depths kept (chunks (bytes_after (number_at w32 4 head) bytes)))
scan_of-headed depths format (a ∷ b ∷ c ∷ d ∷ e ∷ f ∷ g ∷ h ∷ []) bytes eight = verdict_of-first depths format (a ∷ b ∷ c ∷ d ∷ e ∷ f ∷ g ∷ h ∷ bytes) _ (omega arith) refl
scan_of-headed depths format _ bytes eight = absurd (omega arith)
