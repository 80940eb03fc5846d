-- A reader of a WAV file that comes in pieces, as it is or converted.
use Rattle.lab_input.specs.Prelude.{ap, append-nil, arith, List, subst, sym, ℕ, ℤ, [], ◌++◌, ◌∙◌, ◌≡◌, nat_tests, IfErr, None, Ok, OnOk, Option, Result, Some}
use Rattle.lab_input.specs.Prelude.{WavError, sound_to_come, with_samples, IsRefusal, wav_file, PlugReader, Shape, IsConverting, plug_file, sound_file, IsAfter}
use Rattle.lab_input.specs.Prelude.{IsPlainAfter, IsPlainOfFile}
use Rattle.lab_input.specs.declared.sound.FileReader.TheVariants.{Plain, Plugged}
use Rattle.lab_input.specs.declared.sound.SoundReader.{SoundReader}

-- the file ends, and is a sound
pub wav_file-ended : (r : SoundReader) (seen : List ℕ) (channels rate : ℕ) → IsPlainAfter r seen
    → sound_to_come r.reader [] ≡ Ok (record { channels = channels; rate = rate; samples = [] })
    → wav_file seen ≡ Ok (record { channels = channels; rate = rate; samples = r.samples.items })
wav_file-ended r seen channels rate after ok =
    ap wav_file (sym (append-nil seen)) ∙ sym (after.same []) ∙ ap (with_samples r.samples.items) ok
    ∙ ap (λ (samples : List ℤ). Ok (record { channels = channels; rate = rate; samples = samples })) (append-nil r.samples.items)

-- ---- a file that is taken as it is

pub IsRefusal-plain : {U : Type 0} (r : SoundReader) (shape : Option Shape) (seen piece rest : List ℕ) (result : Result U WavError)
    → ((front behind : List ℕ) → IsPlainAfter r front → IfErr result (λ e. IsRefusal e (wav_file ((front ++ piece) ++ behind))))
    → IsAfter (Plain r) shape seen → IfErr result (λ e. IsRefusal e (sound_file shape ((seen ++ piece) ++ rest)))
IsRefusal-plain r None seen piece rest result refused is = refused seen rest is.reading
IsRefusal-plain r (Some s) seen piece rest result refused is = absurd is.reading

plain_by : (r : SoundReader) (shape : Option Shape) (seen : List ℕ) → IsAfter (Plain r) shape seen → IsPlainOfFile r
plain_by r None seen is = record { seen = seen; after = is.reading }
plain_by r (Some s) seen is = absurd is.reading

-- ---- a file that is converted

pub IsAfter-plugged : {U : Type 0} (r new : PlugReader) (shape : Option Shape) (seen piece : List ℕ) (result : Result U WavError) → new.shape ≡ r.shape
    → ((front : List ℕ) → IsConverting r front → OnOk result (IsConverting new (front ++ piece)))
    → IsAfter (Plugged r) shape seen → OnOk result (IsAfter (Plugged new) shape (seen ++ piece))
IsAfter-plugged r new shape seen piece result still more is = grind (arith, nat_tests)

pub IsRefusal-plugged : {U : Type 0} (r : PlugReader) (shape : Option Shape) (seen piece rest : List ℕ) (result : Result U WavError)
    → ((front behind : List ℕ) → IsConverting r front → IfErr result (λ e. IsRefusal e (plug_file r.shape ((front ++ piece) ++ behind))))
    → IsAfter (Plugged r) shape seen → IfErr result (λ e. IsRefusal e (sound_file shape ((seen ++ piece) ++ rest)))
IsRefusal-plugged r None seen piece rest result refused is = absurd is.reading
IsRefusal-plugged r (Some s) seen piece rest result refused is =
    subst (λ (t : Shape). IfErr result (λ e. IsRefusal e (plug_file t ((seen ++ piece) ++ rest)))) is.reading.0 (refused seen rest is.reading.1)
