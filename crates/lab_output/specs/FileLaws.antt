-- What the files of a run are like: their heads can be written, and how many bytes they have.
--     IsOutputFile-played, IsOutputFile-recorded      a head can hold the channels and the rate of a file with what was played, or recorded
--     length-canonical      how many bytes the canonical file of a sound has
use Rattle.std.proofs.Common.{◌≡◌, ℕ, suc, ◌+◌, ◌*◌, ◌/◌, ◌≤◌, true, false, List, [], ◌∷◌, length, length-append, ℤ, arith, refl, ap, ◌∙◌, Some, None}
use Rattle.std.specs.Prelude.{◌==◌, Bool, Option, Result, Ok, Err, nat_lt, if◌then◌else◌}
use Rattle.std.specs.List.{flat_map}
use Rattle.std.proofs.lemmas.Bool.{eqb-false, ltb-false}
use Rattle.snd_base.specs.declared.errors.Why.{Why}
use Rattle.snd_base.specs.declared.errors.Why.TheVariants.{BindingsEmpty, BindingsTooMany}
use Rattle.bindings.specs.Answers.{or_first, entry_defects}
use Rattle.lab_lines.specs.declared.script.CardLine.{CardLine}
use Rattle.lab_lines.specs.declared.script.ReaderLine.{ReaderLine}
use Rattle.lab_lines.specs.Limits.{IsCardLine, IsReaderLine, IsBoundWhere}
use Rattle.wav_io.specs.Canonical.{canonical, head, sample_bytes}
use Rattle.wav_io.specs.Sound.{Sound}
use Rattle.lab_output.specs.Files.{IsOutputFile, played_file, recorded_file, reader_channels}

-- bindings that are answered are neither none nor too many
few_bound : (list : List ℕ) (a b : Bool) (r : Result (List ℕ) Why) → (length list == 0) ≡ a → nat_lt 8 (length list) ≡ b
    → (if a then Err BindingsEmpty else (if b then Err BindingsTooMany else r)) ≡ Ok list → (1 ≤ length list) × (length list ≤ 8)
few_bound list true b r none many is = absurd cc
few_bound list false true r none many is = absurd cc
few_bound list false false r none many is =
    (omega (arith, eqb-false (length list) 0 none), ltb-false 8 (length list) many)

-- a reader has 1 to 8 channels
few_channels : (card : CardLine) (bindings : Option (List ℕ)) → IsCardLine card → IsBoundWhere card.channels bindings
    → (1 ≤ reader_channels card bindings) × (reader_channels card bindings ≤ 8)
few_channels card None is bound = (is.channels.low, is.channels.high)
few_channels card (Some list) is bound =
    few_bound list (length list == 0) (nat_lt 8 (length list)) (or_first list (entry_defects list card.channels)) refl refl bound

-- a head can hold the card's channels and rate
pub IsOutputFile-played : (card : CardLine) (out : List ℕ) → IsCardLine card → IsOutputFile (played_file card out)
IsOutputFile-played card out is = record {
  some_channel = is.channels.low;
  few_channels = is.channels.high;
  some_rate = omega (arith, is.rate.low);
  low_rate = omega (arith, is.rate.high);
}

-- a head can hold a reader's channels and the card's rate
pub IsOutputFile-recorded : (card : CardLine) (out : List ℕ) (reader : ReaderLine) → IsCardLine card → IsReaderLine card reader
    → IsOutputFile (recorded_file card out reader)
IsOutputFile-recorded card out reader is line =
    let few = few_channels card reader.bindings is line.bindings in
    record {
      some_channel = few.0;
      few_channels = few.1;
      some_rate = omega (arith, is.rate.low);
      low_rate = omega (arith, is.rate.high);
    }

-- ---- sizes

length-sample_bytes : (zs : List ℤ) → length (flat_map sample_bytes zs) ≡ 2 * length zs
length-sample_bytes [] = refl
length-sample_bytes (z ∷ zs) = ap (λ (n : ℕ). suc (suc n)) (length-sample_bytes zs) ∙ omega arith

-- 44 bytes, and two for each sample
pub length-canonical : (s : Sound) → length (canonical s) ≡ 44 + 2 * length s.samples
length-canonical s =
    let first : List ℕ = head s.channels s.rate (length s.samples / s.channels) in
    let front : length first ≡ 44 = refl in
    length-append first (flat_map sample_bytes s.samples)
    ∙ ap (λ (n : ℕ). n + length (flat_map sample_bytes s.samples)) front
    ∙ ap (λ (n : ℕ). 44 + n) (length-sample_bytes s.samples)
