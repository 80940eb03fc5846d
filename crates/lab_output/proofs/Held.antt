-- The outputs of a run that goes on are held, so that over a reliable shelf no call finds one missing.
use Rattle.lab_output.specs.Prelude.{ap, arith, Bool, cond, drop, false, get_or, length, length-append, List, None, option_map, refl, Some, subst, sym, true, ℕ}
use Rattle.lab_output.specs.Prelude.{[], ◌<◌, ◌∙◌, ◌∷◌, ◌≡◌, ◌≢◌, ◌≤◌, nat_tests, length-drop, All-from_recursion, AllByRecursion, option_map_or, Err, IfSome}
use Rattle.lab_output.specs.Prelude.{IsErrAnd, IsErrOf, IsSome, Ok, Option, Result, bytes_under, Files, name_test-Decides, with_change, with_file}
use Rattle.lab_output.specs.Prelude.{with_first_bytes, OutputFile, HasFile, HasHeadRoom, HaveFiles, HaveHeadRoom}
use Rattle.lab_shelf.specs.declared.fault.ShelfFault.{ShelfFault}
use Rattle.lab_shelf.specs.declared.fault.ShelfFault.TheVariants.{Failed}
use Rattle.lab_stop.specs.declared.stop.Stop.{Stop}
use Rattle.lab_stop.specs.declared.stop.Stop.TheVariants.{Write}
use Rattle.lab_output.proofs.Shelves.{bytes_under-with_file_at, test}

-- what holds of what is held of a name holds after a change of a file that keeps it
pub changed-holds : (Q : Option (List ℕ) → Type 0) (make : List ℕ → List ℕ) → ((content : List ℕ) → Q (Some content) → Q (Some (make content)))
    → (m : Files) (name q : List ℕ) → Q (bytes_under m q) → Q (bytes_under (with_change make m name) q)
changed-holds Q make keeps m name q has = of (bytes_under m name) refl
  where
    chosen : (content : List ℕ) → bytes_under m name ≡ Some content → (b : Bool) → test q name ≡ b → Q (cond b (Some (make content)) (bytes_under m q))
    chosen content is true same = keeps content (subst Q (ap (bytes_under m) ((name_test-Decides q name).0 same) ∙ is) has)
    chosen content is false other = has

    of : (o : Option (List ℕ)) → bytes_under m name ≡ o → Q (bytes_under (option_map_or (λ c. with_file m name (make c)) o m) q)
    of None is = has
    of (Some content) is = subst Q (sym (bytes_under-with_file_at m name (make content) q)) (chosen content is (test q name) refl)

-- the same of each output, where the files may not be known
each-changed : (H : Option Files → List ℕ → Type 0) (make : List ℕ → List ℕ) (name : List ℕ)
    → ((m : Files) (q : List ℕ) → H (Some m) q → H (Some (with_change make m name)) q) → (outputs : List OutputFile) (now : Option Files)
    → AllByRecursion (λ (o : OutputFile). H now o.name) outputs → AllByRecursion (λ (o : OutputFile). H (option_map (λ files. with_change make files name) now) o.name) outputs
each-changed H make name keeps outputs None has = has
each-changed H make name keeps [] (Some m) has = tt
each-changed H make name keeps (output ∷ outputs) (Some m) has = (keeps m output.name has.0, each-changed H make name keeps outputs (Some m) has.1)

-- each output that is there stays there
pub changed-files : (make : List ℕ → List ℕ) (outputs : List OutputFile) (now : Option Files) (name : List ℕ) → HaveFiles now outputs
    → HaveFiles (option_map (λ files. with_change make files name) now) outputs
changed-files make outputs now name there =
    each-changed HasFile make name (λ m q. changed-holds (λ (o : Option (List ℕ)). IsSome o) make (λ content is. refl) m name q) outputs now there

-- room for a head in each output stays
pub changed-rooms : (head : List ℕ) (outputs : List OutputFile) (now : Option Files) (name : List ℕ) → HaveHeadRoom now outputs
    → HaveHeadRoom (option_map (λ files. with_change (with_first_bytes head) files name) now) outputs
changed-rooms head outputs now name rooms =
    each-changed HasHeadRoom (with_first_bytes head) name
    (λ m q. changed-holds (λ (o : Option (List ℕ)). IfSome o (λ content. 44 ≤ length content)) (with_first_bytes head)
    (λ content room. omega (arith, room, length-append head (drop (length head) content), length-drop (length head) content)) m name q) outputs now rooms

-- what holds of each output holds of the one at a place
pub output-at : (H : OutputFile → Type 0) (outputs : List OutputFile) (n : ℕ) (output : OutputFile) → AllByRecursion H outputs
    → n < length outputs → output ≡ get_or outputs n output → H output
output-at H outputs n output each within is = subst H (sym is) (All-from_recursion H outputs each n output within)

-- a call is no failed write
abbrev NoWrite : (X : Type 0) → Result X Stop → Type 0
NoWrite X result = result ≢ Err Write

-- a stop that is passed on is no failed write, where the call was none
pub no-write : {X : Type 0} (Y : Type 0) (result : Result X Stop) (stop : Stop) → IsErrAnd result (λ e. e ≡ stop)
    → NoWrite Y (Err stop) → NoWrite X result
no-write Y (Ok x) stop passed other is = absurd passed
no-write Y (Err e) stop passed other is = other (let write : e ≡ Write = cc in ap Err (sym passed ∙ write))

-- a call that fails only where a file is missing doesn't fail where it is there
pub no-failure : (files : Option Files) (name : List ℕ) (end : Result (Unit {0}) ShelfFault)
    → (IsErrOf end Failed → IfSome files (λ m. bytes_under m name ≡ None)) → HasFile files name → end ≢ Err Failed
no-failure files name end missing there failed = grind (arith, nat_tests)
