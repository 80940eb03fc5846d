-- The data of a file has no more bytes than a file may have.
use Rattle.wav_io.specs.Prelude.{ap, arith, Bool, cond, drop, Err, false, inl, inr, length, List, ltb, None, Ok, Option, refl, Result, Some, suc, sym, take}
use Rattle.wav_io.specs.Prelude.{true, zero, ℕ, [], ◌%◌, ◌*◌, ◌+◌, ◌-◌, ◌/◌, ◌∙◌, ◌≡◌, ◌≤◌, cases_lt, nat_tests, length-drop, length-take, codes, bytes_eq}
use Rattle.wav_io.specs.Prelude.{WavError, Depths, UpTo32, Format, after_chunk, Chunk, chunks, chunks_in, first_chunk, size_at, whole, Raw, raw_file, raw_frame}
use Rattle.wav_io.specs.Prelude.{raws, at_end, before_end, body_found, Contents, contents, ended, Finding, finding_after, format_cut, found_in, most_bytes}
use Rattle.wav_io.specs.Prelude.{refused, scan_of, verdict_of}
use Rattle.wav_io.proofs.Limits.{limited-long, limited-short}

-- what is found has at most so many bytes of data
abbrev HasAtMost : ℕ → Finding → Type 0
HasAtMost n (refused e) = Unit {0}
HasAtMost n (body_found f body) = length body ≤ n
HasAtMost n format_cut = Unit {0}
HasAtMost n (ended format) = Unit {0}

HasAtMost-more : (n m : ℕ) (f : Finding) → n ≤ m → HasAtMost n f → HasAtMost m f
HasAtMost-more n m (refused e) low few = tt
HasAtMost-more n m (body_found f body) low few = omega (arith, low, few)
HasAtMost-more n m format_cut low few = tt
HasAtMost-more n m (ended format) low few = tt

-- what holds of two values holds of the one that a test chooses
either : {A : Type 0} (P : A → Type 0) (b : Bool) (x y : A) → P x → P y → P (cond b x y)
either P true x y p q = p
either P false x y p q = q

-- ---- one chunk

verdict_of-few : (n : ℕ) (depths : Depths) (format : Option Format) (chunk : Chunk) (next : Option Format → Finding) → length chunk.body ≤ n → ((kept : Option Format) → HasAtMost n (next kept))
    → HasAtMost n (finding_after (verdict_of depths format chunk) next)
unfolding verdict_of
verdict_of-few n depths format chunk next low few = grind (arith, nat_tests)

-- ---- all chunks

length-after_chunk : (bytes : List ℕ) → length (after_chunk bytes) ≤ length bytes
length-after_chunk bytes = omega (arith, length-drop (size_at bytes + size_at bytes % 2) (drop 8 bytes), length-drop 8 bytes)

chunks_in-few : (n : ℕ) (bytes : List ℕ) (depths : Depths) (format : Option Format) → HasAtMost (length bytes) (scan_of depths format (chunks_in n bytes))
unfolding chunks_in
chunks_in-few zero bytes depths format = tt
chunks_in-few (suc n) bytes depths format =
    either (λ cs. HasAtMost (length bytes) (scan_of depths format cs)) (ltb (length bytes) 8) _ _ tt
    (verdict_of-few (length bytes) depths format (first_chunk bytes) (λ kept. scan_of depths kept (chunks_in n (after_chunk bytes))) (omega (arith, length-take (size_at bytes) (drop 8 bytes), length-drop 8 bytes))
    (λ kept. HasAtMost-more (length (after_chunk bytes)) (length bytes) (scan_of depths kept (chunks_in n (after_chunk bytes))) (length-after_chunk bytes)
    (chunks_in-few n (after_chunk bytes) depths kept)))

found_in-few : (depths : Depths) (bytes : List ℕ) → HasAtMost (length bytes) (found_in depths bytes)
unfolding found_in chunks
found_in-few depths bytes =
    either (HasAtMost (length bytes)) (bytes_eq (take 4 bytes) (codes "RIFF")) _ _
    (either (HasAtMost (length bytes)) (bytes_eq (take 4 (drop 8 bytes)) (codes "WAVE")) _ _
    (HasAtMost-more (length (drop 12 bytes)) (length bytes) (scan_of depths None (chunks (drop 12 bytes))) (omega (arith, length-drop 12 bytes))
    (chunks_in-few (length (drop 12 bytes)) (drop 12 bytes) depths None)) tt) tt

-- ---- a file

at_end-few : (n : ℕ) (f : Finding) (c : Contents) → HasAtMost n f → at_end f ≡ Ok c → length c.body ≤ n
at_end-few n (refused e) c few is = absurd (cc)
at_end-few n (body_found f body) c few is =
    let same : record { format = f; body = body } ≡ c = cc in
    omega (arith, few, ap (λ (d : Contents). length d.body) same)
at_end-few n format_cut c few is = absurd (cc)
at_end-few n (ended None) c few is = absurd (cc)
at_end-few n (ended (Some f)) c few is = absurd (cc)

before_end-none : (f : Finding) (c : Contents) → before_end f ≡ Ok c → ⊥
before_end-none format_cut c is = cc
before_end-none other c is = cc

contents-few : (depths : Depths) (bytes : List ℕ) (c : Contents) → contents depths bytes ≡ Ok c → length c.body ≤ most_bytes
contents-few depths bytes c is =
    elim (cases_lt most_bytes (0 + length bytes)) [
      | inl long ↦ absurd (before_end-none (found_in depths (take (most_bytes - 0) bytes)) c (sym (limited-long 0 (found_in depths) bytes long) ∙ is))
      | inr short ↦
          let few : length c.body ≤ length bytes = at_end-few (length bytes) (found_in depths bytes) c (found_in-few depths bytes) (sym (limited-short 0 (found_in depths) bytes short) ∙ is) in
          omega (arith, few, short)
    ]

raws-few : (n : ℕ) (r : Result Contents WavError) (s : Raw) → ((c : Contents) → r ≡ Ok c → length c.body ≤ n) → raws r ≡ Ok s → length s.body ≤ n
raws-few n (Ok c) s few is =
    let size = raw_frame c.format in
    let same : record { channels = c.format.channels; rate = c.format.rate; bits = c.format.bits; body = whole size c.body } ≡ s = cc in
    omega (arith, few c refl, length-take (length c.body / size * size) c.body, ap (λ (t : Raw). length t.body) same)
raws-few n (Err e) s few is = absurd (cc)

-- the samples of a file that is read have at most as many bytes as a file may have
pub length-raw_file : (bytes : List ℕ) (s : Raw) → raw_file bytes ≡ Ok s → length s.body ≤ most_bytes
length-raw_file bytes s is = raws-few most_bytes (contents UpTo32 bytes) s (contents-few UpTo32 bytes) is
