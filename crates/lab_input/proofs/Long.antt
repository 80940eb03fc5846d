-- A file that has more bytes than a WAV file may have, of which the first show what it is.
use Rattle.lab_input.specs.Prelude.{ap, arith, leb, length, List, refl, sym, take, ℕ, ◌++◌, ◌+◌, ◌-◌, ◌<◌, ◌∙◌, ◌≡◌, cond-false, lt-leb, length-append}
use Rattle.lab_input.specs.Prelude.{take-append-le, Err, None, Option, Result, Some, WavError, TooLong, raws, before_end, body_found, Contents, contents, ended}
use Rattle.lab_input.specs.Prelude.{Finding, format_cut, found_in, most_bytes, refused, sounds, within_limit, Shape, converted_file, sound_file}
use Rattle.wav_io.specs.declared.format.Depths.{Depths}
use Rattle.wav_io.specs.declared.format.Depths.TheVariants.{Sixteen, UpTo32}

-- what such a file is, by its first bytes
contents-long : (depths : Depths) (bytes : List ℕ) → most_bytes < length bytes
    → contents depths bytes ≡ before_end (found_in depths (take most_bytes bytes))
unfolding within_limit
contents-long depths bytes long =
    cond-false (leb (0 + length bytes) most_bytes) _ _ (lt-leb (0 + length bytes) most_bytes (omega (arith, long)))

contents-append : (depths : Depths) (bytes more : List ℕ) → most_bytes < length bytes → contents depths (bytes ++ more) ≡ contents depths bytes
contents-append depths bytes more long =
    contents-long depths (bytes ++ more) (omega (arith, length-append bytes more, long))
    ∙ ap (λ (b : List ℕ). before_end (found_in depths b)) (take-append-le most_bytes bytes more (omega (arith, long)))
    ∙ sym (contents-long depths bytes long)

-- whatever follows, it is the same
pub sound_file-long : (shape : Option Shape) (bytes more : List ℕ) → most_bytes < length bytes → sound_file shape (bytes ++ more) ≡ sound_file shape bytes
sound_file-long None bytes more long = ap sounds (contents-append Sixteen bytes more long)
sound_file-long (Some s) bytes more long = ap (λ (r : Result Contents WavError). converted_file s (raws r)) (contents-append UpTo32 bytes more long)

refused_before : (f : Finding) → (e : WavError) × (before_end f ≡ Err e)
refused_before (refused e) = (e, refl)
refused_before (body_found f body) = (TooLong, refl)
refused_before format_cut = (TooLong, refl)
refused_before (ended format) = (TooLong, refl)

-- it is refused
pub sound_file-refused : (shape : Option Shape) (bytes : List ℕ) → most_bytes < length bytes → (e : WavError) × (sound_file shape bytes ≡ Err e)
sound_file-refused None bytes long =
    let is = refused_before (found_in Sixteen (take most_bytes bytes)) in
    (is.0, ap sounds (contents-long Sixteen bytes long ∙ is.1))
sound_file-refused (Some s) bytes long =
    let is = refused_before (found_in UpTo32 (take most_bytes bytes)) in
    (is.0, ap (λ (r : Result Contents WavError). converted_file s (raws r)) (contents-long UpTo32 bytes long ∙ is.1))
