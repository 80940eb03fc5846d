-- A file in pieces: what was read so far and what the pieces to come give are the whole file's sound.
use Rattle.examples.specs.Prelude.{ap, append-nil, Err, List, Ok, refl, Result, sym, ℕ, [], ◌++◌, ◌∙◌, ◌∷◌, ◌≡◌, ◌≢◌, IsErrAnd, ℤ, Reader, sound_to_come}
use Rattle.examples.specs.Prelude.{with_samples, IsRefusal, Reads, wav_file, bytes_of_pieces}
use Rattle.std.specs.Borrow.{Bor}
use Rattle.wav_io.specs.declared.error.WavError.{WavError}
use Rattle.wav_io.specs.declared.error.WavError.TheVariants.{Memory}
use Rattle.wav_io.specs.Sound.{Sound}

with_samples-nil : (r : Result Sound WavError) → with_samples [] r ≡ r
with_samples-nil (Ok s) = refl
with_samples-nil (Err e) = refl

-- before the first piece
pub begins : (r : Reader) (items : List ℤ) (bytes : List ℕ) → ((more : List ℕ) → sound_to_come r more ≡ wav_file more) → items ≡ []
    → with_samples items (sound_to_come r bytes) ≡ wav_file bytes
begins r items bytes file none = ap (λ (zs : List ℤ). with_samples zs (sound_to_come r bytes)) none ∙ with_samples-nil (sound_to_come r bytes) ∙ file bytes

-- with the next piece
pub goes_on : (r s : Reader) (items after : List ℤ) (pieces more : List (Bor (List ℕ))) (piece : Bor (List ℕ)) (file : Result Sound WavError)
    → pieces ≡ piece ∷ more
    → with_samples items (sound_to_come r (bytes_of_pieces pieces)) ≡ file
    → ((bytes : List ℕ) → with_samples items (sound_to_come r (piece.now ++ bytes)) ≡ with_samples after (sound_to_come s bytes))
    → with_samples after (sound_to_come s (bytes_of_pieces more)) ≡ file
goes_on r s items after pieces more piece file next same step =
    sym (step (bytes_of_pieces more)) ∙ ap (λ (ps : List (Bor (List ℕ))). with_samples items (sound_to_come r (bytes_of_pieces ps))) (sym next) ∙ same

-- where a piece is refused, so is the file
pub refused : (s : Reader) (after : List ℤ) (more : List ℕ) (e : WavError) (file : Result Sound WavError)
    → with_samples after (sound_to_come s more) ≡ file → sound_to_come s more ≡ Err e → file ≡ Err e
refused s after more e file same is = sym same ∙ ap (with_samples after) is

-- after the last piece
pub ends : (s : Reader) (after : List ℤ) (channels rate : ℕ) (file : Result Sound WavError)
    → with_samples after (sound_to_come s []) ≡ file → sound_to_come s [] ≡ Ok (record { channels = channels; rate = rate; samples = [] })
    → file ≡ Ok (record { channels = channels; rate = rate; samples = after })
ends s after channels rate file same is =
    sym same ∙ ap (with_samples after) is ∙ ap (λ (zs : List ℤ). Ok (record { channels = channels; rate = rate; samples = zs })) (append-nil after)

-- an error that comes where the file is refused so, but for want of memory
pub refusal_from : (e : WavError) (file : Result Sound WavError) → (e ≢ Memory → file ≡ Err e) → IsRefusal e file
refusal_from Memory file h = tt
refusal_from other file h = h (λ is. cc)

-- a call that hands on a refusal
pub Reads-refused : (r : Result Sound WavError) (e : WavError) (file : Result Sound WavError)
    → IsErrAnd r (λ (x : WavError). x ≡ e) → (e ≢ Memory → file ≡ Err e) → Reads r file
Reads-refused (Ok s) e file is h = absurd is
Reads-refused (Err x) e file is h = refusal_from x file (λ other. h (λ same. other (is ∙ same)) ∙ ap Err (sym is))

-- the next piece is refused
pub refused_next : (r s : Reader) (items after : List ℤ) (pieces more : List (Bor (List ℕ))) (piece : Bor (List ℕ)) (file : Result Sound WavError) (e : WavError)
    → pieces ≡ piece ∷ more
    → with_samples items (sound_to_come r (bytes_of_pieces pieces)) ≡ file
    → ((bytes : List ℕ) → with_samples items (sound_to_come r (piece.now ++ bytes)) ≡ with_samples after (sound_to_come s bytes))
    → ((bytes : List ℕ) → sound_to_come s bytes ≡ Err e)
    → file ≡ Err e
refused_next r s items after pieces more piece file e next same step err =
    refused s after (bytes_of_pieces more) e file (goes_on r s items after pieces more piece file next same step) (err (bytes_of_pieces more))

-- no piece is left
pub ends_whole : (s : Reader) (after : List ℤ) (pieces : List (Bor (List ℕ))) (channels rate : ℕ) (file : Result Sound WavError)
    → pieces ≡ []
    → with_samples after (sound_to_come s (bytes_of_pieces pieces)) ≡ file
    → sound_to_come s [] ≡ Ok (record { channels = channels; rate = rate; samples = [] })
    → file ≡ Ok (record { channels = channels; rate = rate; samples = after })
ends_whole s after pieces channels rate file none same is =
    ends s after channels rate file (ap (λ (ps : List (Bor (List ℕ))). with_samples after (sound_to_come s (bytes_of_pieces ps))) (sym none) ∙ same) is
