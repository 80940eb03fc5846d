-- The forms of an output's bytes: how they become one another, and which of them a run that stopped may leave.
use Rattle.lab_output.specs.Prelude.{ap, arith, drop, get_or, inl, inr, length, List, refl, subst, suc, sym, take, zero, ℕ, [], ◌++◌, ◌<◌, ◌∷◌, ◌≡◌, ◌≤◌}
use Rattle.lab_output.specs.Prelude.{take-length, length-take-le, ℤ, with_first_bytes, OutputFile, finished_file, head_of, IsFormOf, MayHold, open_file}
use Rattle.lab_output.specs.Prelude.{open_head_of, AllForms}

-- an output in the middle of a run has one of the forms
pub IsFormOf-open : (output : OutputFile) (samples : List ℤ) → IsFormOf output samples (open_file output samples)
IsFormOf-open output samples = (length (open_file output samples), inl (sym (take-length (open_file output samples))))

-- an output with the first bytes of its open head has one of the forms
pub IsFormOf-head : (output : OutputFile) (k : ℕ) → IsFormOf output [] (take k (open_head_of output))
IsFormOf-head output k = (k, inl refl)

-- an output with the first bytes of its true head has one of the forms
pub IsFormOf-closing : (output : OutputFile) (samples : List ℤ) (k : ℕ) → k ≤ length (head_of output (length samples))
    → IsFormOf output samples (with_first_bytes (take k (head_of output (length samples))) (open_file output samples))
IsFormOf-closing output samples k few = (
  k,
  inr (
    few,
    ap (λ (n : ℕ). take k (head_of output (length samples)) ++ drop n (open_file output samples))
        (length-take-le k (head_of output (length samples)) few),
  ),
)

-- an output that is finished has one of the forms
pub IsFormOf-finished : (output : OutputFile) (samples : List ℤ) → IsFormOf output samples (finished_file output samples)
IsFormOf-finished output samples = (44, inr (omega arith, refl))

-- an output at its place may hold its forms
pub MayHold-at : (outputs : List OutputFile) (sounds : List (List ℤ)) (n : ℕ) (output : OutputFile) (bytes : List ℕ)
    → length sounds ≡ length outputs → n < length outputs → output ≡ get_or outputs n output
    → IsFormOf output (get_or sounds n []) bytes → MayHold outputs sounds output.name bytes
MayHold-at (first ∷ outputs) (sound ∷ sounds) zero output bytes even within is form =
    inl (ap (λ (o : OutputFile). o.name) is, subst (λ (o : OutputFile). IsFormOf o sound bytes) is form)
MayHold-at (first ∷ outputs) (sound ∷ sounds) (suc n) output bytes even within is form =
    inr (MayHold-at outputs sounds n output bytes (omega (arith, even)) (omega (arith, within)) is form)
MayHold-at outputs sounds n output bytes even within is form = absurd (omega (arith, within, even))

-- outputs in the middle of a run have forms of theirs
pub AllForms-open : (outputs : List OutputFile) (sounds : List (List ℤ)) → AllForms open_file outputs sounds sounds
AllForms-open (output ∷ outputs) (samples ∷ sounds) = (IsFormOf-open output samples, AllForms-open outputs sounds)
AllForms-open outputs sounds = tt

-- finished outputs have forms of theirs
pub AllForms-finished : (outputs : List OutputFile) (sounds : List (List ℤ)) → AllForms finished_file outputs sounds sounds
AllForms-finished (output ∷ outputs) (samples ∷ sounds) = (IsFormOf-finished output samples, AllForms-finished outputs sounds)
AllForms-finished outputs sounds = tt
