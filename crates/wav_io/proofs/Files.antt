-- A canonical file is read as what it was written from.
use Rattle.wav_io.specs.Prelude.{ap, arith, cond, drop, eqb, Err, length, List, ltb, None, Ok, refl, Result, Some, subst, sym, take, ℕ, ℤ, ◌*◌, ◌++◌, ◌+◌, ◌/◌}
use Rattle.wav_io.specs.Prelude.{◌<◌, ◌^◌, ◌||◌, ◌∙◌, ◌≡◌, ◌≤◌, mul-div_cancel, nat_tests, take_all, recursion_from_All, div-add-mod'}
use Rattle.wav_io.specs.Prelude.{from_le_bytes-to_le_bytes_2, from_le_bytes-to_le_bytes_4, from_le_bytes, to_le_bytes, w16, w32, flat_map, All, codes}
use Rattle.wav_io.specs.Prelude.{FitsSigned, IfOk, OnOk, WavError, Bits, Channels, RateZero, Sixteen, Format, canonical, HasFile, open_head, sample_bytes}
use Rattle.wav_io.specs.Prelude.{Chunk, chunks, number_at, samples_of_bytes, whole_frames, format_of, terms_of, at_end, body_found, decides, found_in, goes_on}
use Rattle.wav_io.specs.Prelude.{most_bytes, scan_of, sound_of, sounds, verdict_of, verdict_of_format, wav_file, IsWholeSound, Sound}
use Rattle.std.specs.Global.{Vec}
use Rattle.wav_io.proofs.Bodies.{samples_of_bytes-sample_bytes, length-sample_bytes}
use Rattle.wav_io.proofs.Cutting.{verdict_of-first}
use Rattle.wav_io.proofs.Limits.{limited-short}

abbrev sound : ℕ → ℕ → List ℤ → Sound
sound channels rate samples = record { channels = channels; rate = rate; samples = samples }

same_sound : (a b : ℕ) (c : List ℤ) (s : Sound) → a ≡ s.channels → b ≡ s.rate → c ≡ s.samples → sound a b c ≡ s
same_sound a b c s p q r = ap (λ (n : ℕ). sound n b c) p ∙ ap (λ (n : ℕ). sound s.channels n c) q ∙ ap (λ (zs : List ℤ). sound s.channels s.rate zs) r

-- ---- two sounds with one canonical file are one

shown : List ℕ → Sound
shown bytes = sound (number_at w16 22 bytes) (number_at w32 24 bytes) (samples_of_bytes (drop 44 bytes))

shown-canonical : (s : Sound) → HasFile s → shown (canonical s) ≡ s
unfolding shown
shown-canonical s file =
    same_sound _ _ _ s
    (from_le_bytes-to_le_bytes_2 s.channels (omega (arith, file.sound.few_channels)))
    (from_le_bytes-to_le_bytes_4 s.rate (omega (arith, file.low_rate)))
    (samples_of_bytes-sample_bytes s.samples (recursion_from_All (FitsSigned w16) s.samples file.fits))

-- ---- the format chunk

abbrev format : ℕ → ℕ → Format
format channels rate = record { channels = channels; rate = rate; bits = 16 }

abbrev terms : ℕ → ℕ → ℕ → Result Format WavError
terms channels rate bits = cond (ltb channels 1 || ltb 8 channels) (Err (Channels channels)) (cond (eqb rate 0) (Err RateZero) (cond (eqb bits 16) (Ok (format channels rate)) (Err (Bits bits))))

terms-in_order : (channels rate : ℕ) → 1 ≤ channels → channels ≤ 8 → 1 ≤ rate → terms channels rate 16 ≡ Ok (format channels rate)
terms-in_order channels rate some few rated = grind (arith, nat_tests)

-- the body of the canonical format chunk
abbrev format_body : ℕ → ℕ → List ℕ
format_body channels rate =
    to_le_bytes w16 1 ++ to_le_bytes w16 channels ++ to_le_bytes w32 rate ++ to_le_bytes w32 (rate * (channels * 2)) ++ to_le_bytes w16 (channels * 2) ++ to_le_bytes w16 16

format_of-body : (channels rate : ℕ) → 1 ≤ channels → channels ≤ 8 → 1 ≤ rate → rate < 2 ^ 32 → format_of Sixteen (format_body channels rate) ≡ Ok (format channels rate)
unfolding format_of terms_of
format_of-body channels rate some few rated fits =
    rw (from_le_bytes-to_le_bytes_2 channels (omega arith), from_le_bytes-to_le_bytes_4 rate fits) (terms-in_order channels rate some few rated)

abbrev format_part : ℕ → ℕ → Chunk
format_part channels rate = record { name = codes "fmt "; size = 16; body = format_body channels rate }

verdict_of-format : (channels rate : ℕ) → 1 ≤ channels → channels ≤ 8 → 1 ≤ rate → rate < 2 ^ 32 → verdict_of Sixteen None (format_part channels rate) ≡ goes_on (Some (format channels rate))
unfolding verdict_of
verdict_of-format channels rate some few rated fits = ap verdict_of_format (format_of-body channels rate some few rated fits)

-- ---- the data chunk

abbrev data_part : ℕ → List ℕ → Chunk
data_part size body = record { name = codes "data"; size = size; body = body }

verdict_of-data : (f : Format) (size : ℕ) (body : List ℕ) → verdict_of Sixteen (Some f) (data_part size body) ≡ decides (body_found f body)
unfolding verdict_of
verdict_of-data f size body = refl

-- ---- the whole file

length-body : (s : Sound) → HasFile s → length (flat_map sample_bytes s.samples) ≡ (length s.samples / s.channels) * s.channels * 2
length-body s file = omega (arith, length-sample_bytes s.samples, div-add-mod' (length s.samples) s.channels, file.sound.whole)

whole_frames-body : (s : Sound) → HasFile s → whole_frames s.channels (flat_map sample_bytes s.samples) ≡ flat_map sample_bytes s.samples
whole_frames-body s file =
    let body = flat_map sample_bytes s.samples in
    let frames = length s.samples / s.channels in
    let count : length body ≡ frames * (2 * s.channels) = omega (arith, length-body s file) in
    let positive : 0 < 2 * s.channels = omega (arith, file.sound.some_channel) in
    let quotient : length body / (2 * s.channels) ≡ frames = ap (λ (n : ℕ). n / (2 * s.channels)) count ∙ mul-div_cancel frames positive in
    take_all (length body / (2 * s.channels) * (2 * s.channels)) body (omega (arith, count, ap (λ (n : ℕ). n * (2 * s.channels)) quotient))

-- the bytes from the format chunk on, and from the data chunk on
abbrev from_data : ℕ → List ℕ → List ℕ
from_data size body = codes "data" ++ to_le_bytes w32 size ++ body

abbrev from_format : ℕ → ℕ → ℕ → List ℕ → List ℕ
from_format channels rate size body = codes "fmt " ++ to_le_bytes w32 16 ++ format_body channels rate ++ from_data size body

scan_of-data : (f : Format) (size : ℕ) (body : List ℕ) → size < 2 ^ 32 → length body ≤ size → scan_of Sixteen (Some f) (chunks (from_data size body)) ≡ body_found f body
scan_of-data f size body fits len =
    let all : take (from_le_bytes w32 (to_le_bytes w32 size)) body ≡ body = ap (λ (n : ℕ). take n body) (from_le_bytes-to_le_bytes_4 size fits) ∙ take_all size body len in
    verdict_of-first Sixteen (Some f) (from_data size body) (decides (body_found f (take (from_le_bytes w32 (to_le_bytes w32 size)) body))) (omega arith) (verdict_of-data f _ _)
    ∙ ap (body_found f) all

scan_of-format : (channels rate size : ℕ) (body : List ℕ) → 1 ≤ channels → channels ≤ 8 → 1 ≤ rate → rate < 2 ^ 32 → size < 2 ^ 32 → length body ≤ size → scan_of Sixteen None (chunks (from_format channels rate size body)) ≡ body_found (format channels rate) body
scan_of-format channels rate size body some few rated low fits len =
    verdict_of-first Sixteen None (from_format channels rate size body) (goes_on (Some (format channels rate))) (omega arith) (verdict_of-format channels rate some few rated low)
    ∙ scan_of-data (format channels rate) size body fits len

found_in-canonical : (s : Sound) → HasFile s → found_in Sixteen (canonical s) ≡ body_found (format s.channels s.rate) (flat_map sample_bytes s.samples)
unfolding found_in
found_in-canonical s file =
    let body = flat_map sample_bytes s.samples in
    let count = length-body s file in
    let fits : (length s.samples / s.channels) * s.channels * 2 < 2 ^ 32 = omega (arith, count, length-sample_bytes s.samples, file.size) in
    scan_of-format s.channels s.rate ((length s.samples / s.channels) * s.channels * 2) body file.sound.some_channel file.sound.few_channels file.sound.some_rate (omega (arith, file.low_rate)) fits (omega (arith, count))

found_in-open : (s : Sound) → HasFile s → length (flat_map sample_bytes s.samples) ≤ 4294967295 → found_in Sixteen (open_head s.channels s.rate ++ flat_map sample_bytes s.samples) ≡ body_found (format s.channels s.rate) (flat_map sample_bytes s.samples)
unfolding found_in
found_in-open s file fits =
    scan_of-format s.channels s.rate 4294967295 (flat_map sample_bytes s.samples) file.sound.some_channel file.sound.few_channels file.sound.some_rate (omega (arith, file.low_rate)) (omega arith) fits

sound_of-body : (s : Sound) → HasFile s → sound_of (format s.channels s.rate) (flat_map sample_bytes s.samples) ≡ s
sound_of-body s file =
    same_sound s.channels s.rate _ s refl refl (ap samples_of_bytes (whole_frames-body s file) ∙ samples_of_bytes-sample_bytes s.samples (recursion_from_All (FitsSigned w16) s.samples file.fits))

-- a canonical file that isn't too long is read as what it was written from
pub wav_file-canonical : (s : Sound) → HasFile s → length (canonical s) ≤ most_bytes → wav_file (canonical s) ≡ Ok s
wav_file-canonical s file short =
    ap sounds (limited-short 0 (found_in Sixteen) (canonical s) (omega (arith, short)) ∙ ap at_end (found_in-canonical s file))
    ∙ ap (λ (t : Sound). Ok t) (sound_of-body s file)

-- a file that isn't finished is read as the frames that are there
pub wav_file-open : (channels rate : ℕ) (s : Sound) → HasFile s → s.channels ≡ channels → s.rate ≡ rate → length s.samples * 2 + 44 ≤ most_bytes → wav_file (open_head channels rate ++ flat_map sample_bytes s.samples) ≡ Ok s
wav_file-open channels rate s file same_channels same_rate short =
    rw (← same_channels, ← same_rate)
    (ap sounds (limited-short 0 (found_in Sixteen) (open_head s.channels s.rate ++ flat_map sample_bytes s.samples)
    (omega (arith, short, length-sample_bytes s.samples)) ∙ ap at_end (found_in-open s file (omega (arith, short, length-sample_bytes s.samples))))
    ∙ ap (λ (t : Sound). Ok t) (sound_of-body s file))

pub file_from : (s : Sound) (samples : List ℤ) → IsWholeSound s → s.rate < 2 ^ 28 → length s.samples * 2 + 36 < 2 ^ 32 → samples ≡ s.samples → All (FitsSigned w16) samples → HasFile s
file_from s samples sound low size same fit = record { sound = sound; low_rate = low; size = size; fits = subst (All (FitsSigned w16)) same fit }

-- ---- what is written

pub one_content : (s : Sound) (r : Result (Vec ℕ) WavError) → IfOk r (λ bytes. bytes.items ≡ canonical s) → OnOk r (HasFile s) → IfOk r (λ bytes. (t : Sound) → HasFile t → bytes.items ≡ canonical t → t ≡ s)
one_content s (Ok bytes) same file = λ t other e. sym (shown-canonical t other) ∙ ap shown (sym e ∙ same) ∙ shown-canonical s file
one_content s (Err e) same file = tt

pub read_back : (s : Sound) (r : Result (Vec ℕ) WavError) → IfOk r (λ bytes. bytes.items ≡ canonical s) → OnOk r (HasFile s) → IfOk r (λ bytes. length bytes.items ≤ most_bytes → wav_file bytes.items ≡ Ok s)
read_back s (Ok bytes) same file = λ short. ap wav_file same ∙ wav_file-canonical s file (omega (arith, short, ap length same))
read_back s (Err e) same file = tt
