-- What writes to a run's files leave: of the files as they were before, and of each output its samples.
use Rattle.lab_output.specs.Prelude.{ap, arith, Bool, cond, false, get_or, length, List, None, option_map, refl, Some, subst, suc, sym, true, zero, ℕ, [], ◌++◌}
use Rattle.lab_output.specs.Prelude.{◌<◌, ◌∙◌, ◌∷◌, ◌≡◌, ◌≢◌, set, nat_tests, append-nil, AllByRecursion, option_map_or, Option, ℤ, bytes_under}
use Rattle.lab_output.specs.Prelude.{bytes_under-with_file_other, bytes_under-with_file_same, Files, name_test-Decides, with_change, with_file, OutputFile}
use Rattle.lab_output.specs.Prelude.{AreApart, with_outputs}
use Rattle.std.specs.Cmp.Lexicographic.{slice_cmp, nat_list_cmp_total}
use Rattle.std.specs.FinMap.{same_map, get-insert, nat_cmp-IsAntisymmetric, slice_cmp-IsAntisymmetric}
use Rattle.std.specs.Ordering.{nat_cmp, eq_by_cmp}

-- whether two names are one, as the map tests it
abbrev pub test : List ℕ → List ℕ → Bool
test q name = eq_by_cmp (slice_cmp nat_cmp) q name

-- files that hold the same are the same
same_files : (a b : Files) → ((q : List ℕ) → bytes_under a q ≡ bytes_under b q) → a ≡ b
same_files a b at = same_map nat_list_cmp_total (slice_cmp-IsAntisymmetric nat_cmp-IsAntisymmetric) a b at

-- what is held of a name once a file was written
pub bytes_under-with_file_at : (m : Files) (name bytes q : List ℕ) → bytes_under (with_file m name bytes) q ≡ cond (test q name) (Some bytes) (bytes_under m q)
bytes_under-with_file_at m name bytes q = get-insert nat_list_cmp_total m name bytes q

-- the later of two answers
later : {X : Type 0} (b : Bool) (x y z : X) → cond b x (cond b y z) ≡ cond b x z
later true x y z = refl
later false x y z = refl

-- answers of which at most one is given
either : {X : Type 0} (a b : Bool) (x y z : X) → (a ≡ true → b ≡ true → ⊥) → cond b y (cond a x z) ≡ cond a x (cond b y z)
either a b x y z never = grind (arith, nat_tests)

-- a file that is written twice holds what was written last
twice : (m : Files) (name a b : List ℕ) → with_file (with_file m name a) name b ≡ with_file m name b
twice m name a b = same_files _ _ (λ q.
    bytes_under-with_file_at (with_file m name a) name b q
    ∙ ap (cond (test q name) (Some b)) (bytes_under-with_file_at m name a q)
    ∙ later (test q name) (Some b) (Some a) (bytes_under m q)
    ∙ sym (bytes_under-with_file_at m name b q))

-- files of two names may be written in either order
swapped : (m : Files) (name other a b : List ℕ) → name ≢ other
    → with_file (with_file m other b) name a ≡ with_file (with_file m name a) other b
swapped m name other a b apart = same_files _ _ (λ q.
    bytes_under-with_file_at (with_file m other b) name a q
    ∙ ap (cond (test q name) (Some a)) (bytes_under-with_file_at m other b q)
    ∙ either (test q other) (test q name) (Some b) (Some a) (bytes_under m q)
    (λ is_other is_name. apart (sym ((name_test-Decides q name).0 is_name) ∙ (name_test-Decides q other).0 is_other))
    ∙ ap (cond (test q other) (Some b)) (sym (bytes_under-with_file_at m name a q))
    ∙ sym (bytes_under-with_file_at (with_file m name a) other b q))

-- a change of a file that was just written
changed-written : (make : List ℕ → List ℕ) (m : Files) (name bytes : List ℕ)
    → with_change make (with_file m name bytes) name ≡ with_file m name (make bytes)
changed-written make m name bytes =
    ap (λ o. option_map_or (λ c. with_file (with_file m name bytes) name (make c)) o (with_file m name bytes)) (bytes_under-with_file_same m name bytes)
    ∙ twice m name bytes (make bytes)

-- a change of a file before another is written
changed-other : (make : List ℕ → List ℕ) (m : Files) (name other bytes : List ℕ) → name ≢ other
    → with_change make (with_file m other bytes) name ≡ with_file (with_change make m name) other bytes
changed-other make m name other bytes apart =
    ap (λ o. option_map_or (λ c. with_file (with_file m other bytes) name (make c)) o (with_file m other bytes)) (bytes_under-with_file_other m other bytes name apart)
    ∙ by_cases (bytes_under m name)
  where
    by_cases : (o : Option (List ℕ)) → option_map_or (λ c. with_file (with_file m other bytes) name (make c)) o (with_file m other bytes)
        ≡ with_file (option_map_or (λ c. with_file m name (make c)) o m) other bytes
    by_cases None = refl
    by_cases (Some c) = swapped m name other (make c) bytes apart

-- a change of a file that is none of the outputs
changed-outside : (form : OutputFile → List ℤ → List ℕ) (make : List ℕ → List ℕ) (outputs : List OutputFile) (sounds : List (List ℤ)) (m : Files) (name : List ℕ)
    → AllByRecursion (λ (other : OutputFile). name ≢ other.name) outputs
    → with_change make (with_outputs form outputs sounds m) name ≡ with_outputs form outputs sounds (with_change make m name)
changed-outside form make (output ∷ outputs) (samples ∷ sounds) m name apart =
    changed-outside form make outputs sounds (with_file m output.name (form output samples)) name apart.1
    ∙ ap (with_outputs form outputs sounds) (changed-other make m name output.name (form output samples) apart.0)
changed-outside form make outputs sounds m name apart = refl

-- a change of the first output
pub changed-first : (form : OutputFile → List ℤ → List ℕ) (make : List ℕ → List ℕ) (output : OutputFile) (outputs : List OutputFile)
    (samples : List ℤ) (sounds : List (List ℤ)) (m : Files) → AreApart (output ∷ outputs)
    → with_change make (with_outputs form (output ∷ outputs) (samples ∷ sounds) m) output.name
    ≡ with_outputs form outputs sounds (with_file m output.name (make (form output samples)))
changed-first form make output outputs samples sounds m apart =
    changed-outside form make outputs sounds (with_file m output.name (form output samples)) output.name apart.0
    ∙ ap (with_outputs form outputs sounds) (changed-written make m output.name (form output samples))

-- a change of an output by which it has other samples
pub changed-output : (form : OutputFile → List ℤ → List ℕ) (make : List ℕ → List ℕ) (outputs : List OutputFile) (sounds : List (List ℤ)) (m : Files)
    (n : ℕ) (output : OutputFile) (samples : List ℤ) → AreApart outputs → length sounds ≡ length outputs → n < length outputs
    → output ≡ get_or outputs n output → make (form output (get_or sounds n [])) ≡ form output samples
    → with_change make (with_outputs form outputs sounds m) output.name ≡ with_outputs form outputs (set sounds n samples) m
changed-output form make (first ∷ outputs) (sound ∷ sounds) m zero output samples apart even within is makes =
    ap (λ (o : OutputFile). with_change make (with_outputs form (first ∷ outputs) (sound ∷ sounds) m) o.name) is
    ∙ changed-first form make first outputs sound sounds m apart
    ∙ ap (λ (bytes : List ℕ). with_outputs form outputs sounds (with_file m first.name bytes))
    (subst (λ (o : OutputFile). make (form o sound) ≡ form o samples) is makes)
changed-output form make (first ∷ outputs) (sound ∷ sounds) m (suc n) output samples apart even within is makes =
    changed-output form make outputs sounds (with_file m first.name (form first sound)) n output samples apart.1
    (omega (arith, even)) (omega (arith, within)) is makes
changed-output form make outputs sounds m n output samples apart even within is makes = absurd (omega (arith, within, even))

-- a name that is none of the outputs' holds what it held
bytes_under-with_outputs_apart : (form : OutputFile → List ℤ → List ℕ) (outputs : List OutputFile) (sounds : List (List ℤ)) (m : Files) (name : List ℕ)
    → AllByRecursion (λ (other : OutputFile). name ≢ other.name) outputs
    → bytes_under (with_outputs form outputs sounds m) name ≡ bytes_under m name
bytes_under-with_outputs_apart form (output ∷ outputs) (samples ∷ sounds) m name apart =
    bytes_under-with_outputs_apart form outputs sounds (with_file m output.name (form output samples)) name apart.1
    ∙ bytes_under-with_file_other m output.name (form output samples) name apart.0
bytes_under-with_outputs_apart form outputs sounds m name apart = refl

-- what is held of an output
pub bytes_under-with_outputs : (form : OutputFile → List ℤ → List ℕ) (outputs : List OutputFile) (sounds : List (List ℤ)) (m : Files)
    (n : ℕ) (output : OutputFile) → AreApart outputs → length sounds ≡ length outputs → n < length outputs
    → output ≡ get_or outputs n output
    → bytes_under (with_outputs form outputs sounds m) output.name ≡ Some (form output (get_or sounds n []))
bytes_under-with_outputs form (first ∷ outputs) (sound ∷ sounds) m zero output apart even within is =
    ap (λ (o : OutputFile). bytes_under (with_outputs form (first ∷ outputs) (sound ∷ sounds) m) o.name) is
    ∙ bytes_under-with_outputs_apart form outputs sounds (with_file m first.name (form first sound)) first.name apart.0
    ∙ bytes_under-with_file_same m first.name (form first sound)
    ∙ ap (λ (o : OutputFile). Some (form o sound)) (sym is)
bytes_under-with_outputs form (first ∷ outputs) (sound ∷ sounds) m (suc n) output apart even within is =
    bytes_under-with_outputs form outputs sounds (with_file m first.name (form first sound)) n output apart.1
    (omega (arith, even)) (omega (arith, within)) is
bytes_under-with_outputs form outputs sounds m n output apart even within is = absurd (omega (arith, within, even))

-- a file to which nothing is appended holds what it held
same-written : (m : Files) (name content : List ℕ) → bytes_under m name ≡ Some content → with_file m name (content ++ []) ≡ m
same-written m name content is = same_files _ _ (λ q. bytes_under-with_file_at m name (content ++ []) q ∙ at q (test q name) refl)
  where
    at : (q : List ℕ) (b : Bool) → test q name ≡ b → cond b (Some (content ++ [])) (bytes_under m q) ≡ bytes_under m q
    at q true is_name = ap Some (append-nil content) ∙ sym is ∙ ap (bytes_under m) (sym ((name_test-Decides q name).0 is_name))
    at q false other = refl

-- the same of a file that may not be there
same-changed : (m : Files) (name : List ℕ) → with_change (λ content. content ++ []) m name ≡ m
same-changed m name = of (bytes_under m name) refl
  where
    of : (o : Option (List ℕ)) → bytes_under m name ≡ o → option_map_or (λ content. with_file m name (content ++ [])) o m ≡ m
    of None is = refl
    of (Some content) is = same-written m name content is

-- files of which nothing is appended to one are as they were
pub appended-nothing : (now : Option Files) (name bytes : List ℕ) → bytes ≡ []
    → now ≡ option_map (λ files. with_change (λ content. content ++ bytes) files name) now
appended-nothing None name bytes is = refl
appended-nothing (Some m) name bytes is =
    ap Some (sym (same-changed m name)) ∙ ap (λ (b : List ℕ). Some (with_change (λ content. content ++ b) m name)) (sym is)
