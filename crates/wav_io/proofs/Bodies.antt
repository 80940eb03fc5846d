-- Samples, two bytes each.
use Rattle.wav_io.specs.Prelude.{ap, append-nil, append_assoc, arith, drop, false, get_or, length, length-set, List, refl, set, suc, sym, take, zero, ℕ, ℤ, []}
use Rattle.wav_io.specs.Prelude.{◌%◌, ◌*◌, ◌++◌, ◌+◌, ◌/◌, ◌<◌, ◌∙◌, ◌∷◌, ◌≡◌, ◌≤◌, div-mul-le_self, mul-mod_left, false_from_ne_true, nat_tests, to_z-of_z}
use Rattle.wav_io.specs.Prelude.{drop_more, length-drop, length-take, length-take-le, take_more_set, from_le_bytes-to_le_bytes_2, cast_signed, cast_unsigned}
use Rattle.wav_io.specs.Prelude.{from_le_bytes, to_le_bytes, w16, AllByRecursion, flat_map, FitsSigned, bytes_eq, sample_bytes, samples_of_bytes, whole_frames}
use Rattle.std.proofs.Math.Facts.{Fits-of_z}
use Rattle.std.proofs.lemmas.Slice.Eq.{bytes_eq-Decides}

abbrev pair : ℕ → ℕ → ℤ
pair low high = cast_signed w16 (from_le_bytes w16 (low ∷ high ∷ []))

-- what is left of bytes after whole samples begins with the next one's two
pub drop-two : (bytes : List ℕ) (i : ℕ) → 2 * i + 1 < length bytes → drop (2 * i) bytes ≡ get_or bytes (2 * i) 0 ∷ get_or bytes (2 * i + 1) 0 ∷ drop (2 * (i + 1)) bytes
drop-two bytes i inside =
    let here : 2 * i < length bytes = omega arith in
    let after : (2 * i + 1) + 1 ≡ 2 * (i + 1) = omega arith in
    drop_more bytes (2 * i) 0 here ∙ ap (λ (rest : List ℕ). get_or bytes (2 * i) 0 ∷ rest) (drop_more bytes (2 * i + 1) 0 inside ∙ ap (λ (n : ℕ). get_or bytes (2 * i + 1) 0 ∷ drop n bytes) after)

samples_of_bytes-short : (bytes : List ℕ) → length bytes < 2 → samples_of_bytes bytes ≡ []
samples_of_bytes-short bytes short = grind (arith, nat_tests)

-- one more sample is read
pub goes_on : (front : List ℤ) (bytes : List ℕ) (i : ℕ) (whole : List ℤ) → 2 * i + 1 < length bytes → front ++ samples_of_bytes (drop (2 * i) bytes) ≡ whole
    → (front ++ pair (get_or bytes (2 * i) 0) (get_or bytes (2 * i + 1) 0) ∷ []) ++ samples_of_bytes (drop (2 * (i + 1)) bytes) ≡ whole
goes_on front bytes i whole inside so_far =
    append_assoc front (pair (get_or bytes (2 * i) 0) (get_or bytes (2 * i + 1) 0) ∷ []) (samples_of_bytes (drop (2 * (i + 1)) bytes))
    ∙ ap (λ (rest : List ℕ). front ++ samples_of_bytes rest) (sym (drop-two bytes i inside)) ∙ so_far

-- all samples are read
pub ends : (front : List ℤ) (bytes : List ℕ) (i : ℕ) (whole : List ℤ) → length bytes < 2 * i + 2 → front ++ samples_of_bytes (drop (2 * i) bytes) ≡ whole → front ≡ whole
ends front bytes i whole past so_far =
    sym (append-nil front) ∙ ap (λ (rest : List ℤ). front ++ rest) (sym (samples_of_bytes-short (drop (2 * i) bytes) (omega (arith, length-drop (2 * i) bytes)))) ∙ so_far

two : (low high i : ℕ) → low < 256 → high < 256 → get_or (low ∷ high ∷ []) i 0 < 256
two low high i l h = grind (arith, nat_tests)

pub length-samples_of_bytes : (n : ℕ) (bytes : List ℕ) → length bytes ≡ 2 * n → length (samples_of_bytes bytes) ≡ n
length-samples_of_bytes n [] even = omega arith
length-samples_of_bytes n (low ∷ []) even = absurd (omega arith)
length-samples_of_bytes zero (low ∷ high ∷ rest) even = absurd (omega arith)
length-samples_of_bytes (suc n) (low ∷ high ∷ rest) even = ap suc (length-samples_of_bytes n rest (omega arith))

-- the samples that the bytes of samples hold are these samples
pub samples_of_bytes-sample_bytes : (zs : List ℤ) → AllByRecursion (FitsSigned w16) zs → samples_of_bytes (flat_map sample_bytes zs) ≡ zs
samples_of_bytes-sample_bytes [] fit = refl
samples_of_bytes-sample_bytes (z ∷ zs) fit =
    let number : from_le_bytes w16 (to_le_bytes w16 (cast_unsigned w16 z)) ≡ cast_unsigned w16 z = from_le_bytes-to_le_bytes_2 (cast_unsigned w16 z) (omega (arith, Fits-of_z fit.0)) in
    let here : cast_signed w16 (from_le_bytes w16 (to_le_bytes w16 (cast_unsigned w16 z))) ≡ z = ap (cast_signed w16) number ∙ to_z-of_z w16 z fit.0 in
    ap (λ (first : ℤ). first ∷ samples_of_bytes (flat_map sample_bytes zs)) here ∙ ap (λ (others : List ℤ). z ∷ others) (samples_of_bytes-sample_bytes zs fit.1)

pub length-sample_bytes : (zs : List ℤ) → length (flat_map sample_bytes zs) ≡ 2 * length zs
length-sample_bytes [] = refl
length-sample_bytes (z ∷ zs) = ap (λ (n : ℕ). suc (suc n)) (length-sample_bytes zs) ∙ omega arith

-- ---- whole frames

pub whole_frames-whole : (channels : ℕ) (body : List ℕ) → length (samples_of_bytes (whole_frames channels body)) % channels ≡ 0
whole_frames-whole channels body =
    let frames = length body / (2 * channels) in
    let inside : frames * (2 * channels) ≤ length body = div-mul-le_self (length body) (2 * channels) in
    let even : length (whole_frames channels body) ≡ 2 * (frames * channels) = omega (arith, length-take-le (frames * (2 * channels)) body inside) in
    ap (λ (n : ℕ). n % channels) (length-samples_of_bytes (frames * channels) (whole_frames channels body) even) ∙ mul-mod_left frames channels

-- four bytes aren't there where fewer are left
pub no_room : (place : ℕ) (bytes name : List ℕ) → length name ≡ 4 → length bytes < place + 4 → bytes_eq (take 4 (drop place bytes)) name ≡ false
no_room place bytes name four short =
    false_from_ne_true _ (λ same. omega (arith, four, ap length ((bytes_eq-Decides (take 4 (drop place bytes)) name).0 same), length-take 4 (drop place bytes), length-drop place bytes))

-- two bytes after those that were put
pub pair_put : (i : ℕ) (out : List ℕ) (low high : ℕ) → 2 * i + 1 < length out → take (2 * (i + 1)) (set (set out (2 * i) low) (2 * i + 1) high) ≡ take (2 * i) out ++ (low ∷ high ∷ [])
pair_put i out low high inside =
    let next : 2 * (i + 1) ≡ (2 * i + 1) + 1 = omega arith in
    rw (next, take_more_set (set out (2 * i) low) (2 * i + 1) high (omega (arith, length-set out (2 * i) low)), take_more_set out (2 * i) low (omega arith))
    (append_assoc (take (2 * i) out) (low ∷ []) (high ∷ []))
