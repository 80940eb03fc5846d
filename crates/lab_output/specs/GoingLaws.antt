-- Laws on a run's files while it goes on, by which a caller joins the clauses of its calls.
--     AreLonger-same      outputs have their own samples, and no more of them
--     IsGoingOn-Changes      what the files of a run that goes on have changed, whatever more its outputs are to have
--     AllForms      each output has one of the forms that it may have
--     written-Changes      what outputs that are written so have changed
use Rattle.std.specs.Prelude.{◌≡◌, ◌++◌, ℕ, ℤ, List, [], ◌∷◌, length, take, drop, Option, Some, None, refl, ⊤}
use Rattle.std.specs.List.{flat_map}
use Rattle.std.specs.Option.{option_map}
use Rattle.std.proofs.Common.{inl, inr, sym, ap, subst, ◌∙◌, append_assoc}
use Rattle.std.proofs.Math.Seq.{take-length, take-append_seam}
use Rattle.std.proofs.lemmas.List.{take-append-drop}
use Rattle.std.proofs.lemmas.Grind.{flat_map-append}
use Rattle.wav_io.specs.Canonical.{sample_bytes}
use Rattle.lab_shelf.specs.Changes.{Changes, Changes-nothing, Changes-then, Changes-with_file}
use Rattle.lab_shelf.specs.Files.{Files, with_file}
use Rattle.lab_output.specs.declared.file.OutputFile.{OutputFile}
use Rattle.lab_output.specs.Files.{IsFormOf, MayHold, open_file, open_head_of, with_outputs}
use Rattle.lab_output.specs.Going.{AreLonger, IsGoingOn}

-- outputs have their own samples, and no more of them
pub AreLonger-same : (sounds : List (List ℤ)) → AreLonger sounds sounds
AreLonger-same [] = tt
AreLonger-same (sound ∷ sounds) = ((length sound, sym (take-length sound)), AreLonger-same sounds)

-- an output with the samples so far and those after them is one with all of them
pub open_file-more : (output : OutputFile) (samples : List ℤ) (sound : List ℤ) (k : ℕ) → sound ≡ take k samples
    → open_file output sound ++ flat_map sample_bytes (drop k samples) ≡ open_file output samples
open_file-more output samples sound k is =
    ap (λ (s : List ℤ). open_file output s ++ flat_map sample_bytes (drop k samples)) is
    ∙ append_assoc (open_head_of output) (flat_map sample_bytes (take k samples)) (flat_map sample_bytes (drop k samples))
    ∙ ap (λ (bytes : List ℕ). open_head_of output ++ bytes)
    (sym (flat_map-append sample_bytes (take k samples) (drop k samples))
    ∙ ap (flat_map sample_bytes) (take-append-drop k samples))

-- an output with fewer samples has one of the forms
pub IsFormOf-fewer : (output : OutputFile) (samples sound : List ℤ) (k : ℕ) → sound ≡ take k samples
    → IsFormOf output samples (open_file output sound)
IsFormOf-fewer output samples sound k is = (
  length (open_file output sound),
  inl (sym (take-append_seam (open_file output sound) (flat_map sample_bytes (drop k samples)))
      ∙ ap (take (length (open_file output sound))) (open_file-more output samples sound k is)),
)

-- each output may be held as a run's outputs may
abbrev pub AllForms : (OutputFile → List ℤ → List ℕ) → List OutputFile → List (List ℤ) → List (List ℤ) → Type 0
AllForms form [] sounds targets = ⊤
AllForms form (output ∷ outputs) [] targets = ⊤
AllForms form (output ∷ outputs) (samples ∷ sounds) [] = ⊥
AllForms form (output ∷ outputs) (samples ∷ sounds) (target ∷ targets) =
    IsFormOf output target (form output samples) × AllForms form outputs sounds targets

-- outputs have forms of those that have more samples
pub AreLonger-forms : (outputs : List OutputFile) (sounds targets : List (List ℤ)) → AreLonger sounds targets
    → AllForms open_file outputs sounds targets
AreLonger-forms [] sounds targets longer = tt
AreLonger-forms (output ∷ outputs) [] targets longer = tt
AreLonger-forms (output ∷ outputs) (sound ∷ sounds) [] longer = absurd longer
AreLonger-forms (output ∷ outputs) (sound ∷ sounds) (target ∷ targets) longer =
    (IsFormOf-fewer output target sound longer.0.0 longer.0.1, AreLonger-forms outputs sounds targets longer.1)

-- what a file of the outputs may hold, it may hold by another word
abbrev pub Into : List OutputFile → List (List ℤ) → (List ℕ → List ℕ → Type 0) → Type 0
Into outputs sounds may_hold = (name bytes : List ℕ) → MayHold outputs sounds name bytes → may_hold name bytes

-- outputs that are written change the files so
pub with_outputs-Changes : (may_hold : List ℕ → List ℕ → Type 0) (form : OutputFile → List ℤ → List ℕ) (outputs : List OutputFile)
    (sounds targets : List (List ℤ)) (m : Files) → AllForms form outputs sounds targets → Into outputs targets may_hold
    → Changes may_hold (Some m) (Some (with_outputs form outputs sounds m))
with_outputs-Changes may_hold form [] sounds targets m forms into = Changes-nothing may_hold (Some m)
with_outputs-Changes may_hold form (output ∷ outputs) [] targets m forms into = Changes-nothing may_hold (Some m)
with_outputs-Changes may_hold form (output ∷ outputs) (samples ∷ sounds) [] m forms into = absurd forms
with_outputs-Changes may_hold form (output ∷ outputs) (samples ∷ sounds) (target ∷ targets) m forms into =
    Changes-then may_hold (Some m) (Some (with_file m output.name (form output samples)))
    (Some (with_outputs form outputs sounds (with_file m output.name (form output samples))))
    (Changes-with_file may_hold (Some m) output.name (form output samples) (into output.name (form output samples) (inl (refl, forms.0))))
    (with_outputs-Changes may_hold form outputs sounds targets (with_file m output.name (form output samples)) forms.1
    (λ name bytes may. into name bytes (inr may)))

-- the same of files that may not be known
pub written-Changes : (form : OutputFile → List ℤ → List ℕ) (outputs : List OutputFile) (sounds targets : List (List ℤ)) (before : Option Files)
    → AllForms form outputs sounds targets
    → Changes (MayHold outputs targets) before (option_map (with_outputs form outputs sounds) before)
written-Changes form outputs sounds targets None forms = Changes-nothing (MayHold outputs targets) None
written-Changes form outputs sounds targets (Some m) forms =
    with_outputs-Changes (MayHold outputs targets) form outputs sounds targets m forms (λ name bytes may. may)

-- the files of a run that goes on are as they were before, or such as outputs may have that have more samples at last
pub IsGoingOn-Changes : (outputs : List OutputFile) (counts : List ℕ) (sounds targets : List (List ℤ)) (before now : Option Files)
    → IsGoingOn outputs counts sounds before now → AreLonger sounds targets → Changes (MayHold outputs targets) before now
IsGoingOn-Changes outputs counts sounds targets before now going longer =
    subst (λ (f : Option Files). Changes (MayHold outputs targets) before f) (sym going.files)
    (written-Changes open_file outputs sounds targets before (AreLonger-forms outputs sounds targets longer))
