-- Outputs that have more samples than they had.
use Rattle.lab_output.specs.Prelude.{ap, arith, drop, get_or, inl, length, List, refl, suc, sym, take, zero, ℕ, [], ◌∙◌, ◌∷◌, ◌≡◌, set, take-append_seam}
use Rattle.lab_output.specs.Prelude.{length-take, take-take, take_min, flat_map, min, ℤ, sample_bytes, OutputFile, IsFormOf, open_file, AreLonger, IsPartOf}
use Rattle.lab_output.specs.Prelude.{open_file-more}
use Rattle.std.proofs.Math.Nat.{min-le_left, min-le_right}

-- the first of the first of a list are some first of it
take-twice : {A : Type 0} (k j : ℕ) (xs : List A) → (n : ℕ) × (take k (take j xs) ≡ take n xs)
take-twice k j xs = (
  min k (length (take j xs)),
  sym (take_min k (take j xs))
      ∙ take-take (min k (length (take j xs))) j xs
      (omega (arith, min-le_right k (length (take j xs)), length-take j xs, min-le_left j (length xs))),
)

-- the first of samples that are the first of others are the first of these
part-shorter : (sound other target : List ℤ) (k : ℕ) → sound ≡ take k other → IsPartOf other target → IsPartOf sound target
part-shorter sound other target k is (j, part) =
    let both : (n : ℕ) × (take k (take j target) ≡ take n target) = take-twice k j target in
    (both.0, is ∙ ap (take k) part ∙ both.1)

-- there are as many outputs
pub longer-length : (sounds targets : List (List ℤ)) → AreLonger sounds targets → length targets ≡ length sounds
longer-length [] [] longer = refl
longer-length (sound ∷ sounds) (target ∷ targets) longer = ap suc (longer-length sounds targets longer.1)
longer-length sounds targets longer = absurd longer

-- the samples of one of them
pub longer-at : (sounds targets : List (List ℤ)) (n : ℕ) → AreLonger sounds targets
    → IsPartOf (get_or sounds n []) (get_or targets n [])
longer-at [] [] n longer = (0, refl)
longer-at (sound ∷ sounds) (target ∷ targets) zero longer = longer.0
longer-at (sound ∷ sounds) (target ∷ targets) (suc n) longer = longer-at sounds targets n longer.1
longer-at sounds targets n longer = absurd longer

-- outputs of which one had fewer samples
pub longer-before : (sounds targets : List (List ℤ)) (n : ℕ) (samples : List ℤ) (k : ℕ) → get_or sounds n [] ≡ take k samples
    → AreLonger (set sounds n samples) targets → AreLonger sounds targets
longer-before [] targets n samples k is longer = longer
longer-before (sound ∷ sounds) (target ∷ targets) zero samples k is longer =
    (part-shorter sound samples target k is longer.0, longer.1)
longer-before (sound ∷ sounds) (target ∷ targets) (suc n) samples k is longer =
    (longer.0, longer-before sounds targets n samples k is longer.1)
longer-before (sound ∷ sounds) [] zero samples k is longer = absurd longer
longer-before (sound ∷ sounds) [] (suc n) samples k is longer = absurd longer

-- the first of an output's bytes are one of the forms of the output with more samples
pub longer-form : (output : OutputFile) (samples target : List ℤ) (j : ℕ) → IsPartOf samples target
    → IsFormOf output target (take j (open_file output samples))
longer-form output samples target j (k, part) =
    let bytes : List ℕ = open_file output samples in
    let whole : bytes ≡ take (length bytes) (open_file output target) =
    sym (take-append_seam bytes (flat_map sample_bytes (drop k target)))
    ∙ ap (take (length bytes)) (open_file-more output target samples k part) in
    let both : (n : ℕ) × (take j (take (length bytes) (open_file output target)) ≡ take n (open_file output target)) =
    take-twice j (length bytes) (open_file output target) in
    (both.0, inl (ap (take j) whole ∙ both.1))
