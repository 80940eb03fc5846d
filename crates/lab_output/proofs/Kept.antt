-- Outputs have their samples still, whatever a finish answers.
use Rattle.lab_output.specs.Prelude.{ap, append_assoc, arith, drop, inl, inr, length, length-append, List, None, option_map, refl, Some, subst, sym, take, zero}
use Rattle.lab_output.specs.Prelude.{ℕ, [], ◌++◌, ◌∙◌, ◌∷◌, ◌≡◌, ◌≤◌, append-nil, drop-append-le, length-drop, length-take-le, AllByRecursion, flat_map, Err}
use Rattle.lab_output.specs.Prelude.{IfSome, IsSome, IsSomeAnd, Ok, OnErr, OnOk, Option, Result, ℤ, sample_bytes, bytes_under, Files, IsPartFinished}
use Rattle.lab_output.specs.Prelude.{with_change, with_file, with_first_bytes, OutputFile, AreApart, head_of, open_file, open_head_of, unfinished_files}
use Rattle.lab_output.specs.Prelude.{closed_files, ClosedInPart, HasFile, HasHeadRoom, HasSamples, HaveFiles, HaveHeadRoom, HaveSamples, IsGoingOn, KeepSamples}
use Rattle.lab_output.proofs.Held.{changed-holds}
use Rattle.lab_output.proofs.Shelves.{bytes_under-with_outputs}

-- ---- one file

-- an output in the middle of a run has its samples
HasSamples-open : (output : OutputFile) (samples : List ℤ) → HasSamples samples (open_file output samples)
HasSamples-open output samples = record {
  head = open_head_of output;
  more = [];
  head_length = refl;
  content_is = ap (λ (bytes : List ℕ). open_head_of output ++ bytes) (sym (append-nil (flat_map sample_bytes samples)));
}

-- whatever samples a file has, it has them after this change
abbrev Leaves : (List ℕ → List ℕ) → Type 0
Leaves make = (samples : List ℤ) (content : List ℕ) → HasSamples samples content → HasSamples samples (make content)

-- other first bytes in its head leave them
Leaves-head : (first : List ℕ) → length first ≤ 44 → Leaves (with_first_bytes first)
Leaves-head first few samples content has =
    let rest : List ℕ = flat_map sample_bytes samples ++ has.more in
    let last : List ℕ = drop (length first) has.head in
    record {
      head = first ++ last;
      more = has.more;
      head_length = omega (arith, length-append first last, length-drop (length first) has.head, has.head_length, few);
      content_is = ap (λ (all : List ℕ). first ++ drop (length first) all) has.content_is
          ∙ ap (λ (all : List ℕ). first ++ all) (drop-append-le (length first) has.head rest (omega (arith, has.head_length, few)))
          ∙ sym (append_assoc first last rest);
    }

-- ---- each output

HaveSamples-changed : (make : List ℕ → List ℕ) → Leaves make → (outputs : List OutputFile) (sounds : List (List ℤ)) (m : Files) (name : List ℕ)
    → HaveSamples outputs sounds m → HaveSamples outputs sounds (with_change make m name)
HaveSamples-changed make leaves (output ∷ outputs) (samples ∷ sounds) m name have =
    (changed-holds (λ (o : Option (List ℕ)). IsSomeAnd o (HasSamples samples)) make (leaves samples) m name output.name have.0, HaveSamples-changed make leaves outputs sounds m name have.1)
HaveSamples-changed make leaves outputs sounds m name have = tt

-- the same of files that may not be known
KeepSamples-changed : (make : List ℕ → List ℕ) → Leaves make → (outputs : List OutputFile) (sounds : List (List ℤ)) (now : Option Files) (name : List ℕ)
    → KeepSamples outputs sounds now → KeepSamples outputs sounds (option_map (λ files. with_change make files name) now)
KeepSamples-changed make leaves outputs sounds None name keep = tt
KeepSamples-changed make leaves outputs sounds (Some m) name keep = HaveSamples-changed make leaves outputs sounds m name keep

-- each output has its samples while a run goes on
unfinished_files-samples : (outputs : List OutputFile) (sounds : List (List ℤ)) (m : Files) → AreApart outputs → length sounds ≡ length outputs
    → HaveSamples outputs sounds (unfinished_files outputs sounds m)
unfinished_files-samples (output ∷ outputs) (samples ∷ sounds) m apart even = (
  subst (λ (o : Option (List ℕ)). IsSomeAnd o (HasSamples samples))
      (sym (bytes_under-with_outputs open_file (output ∷ outputs) (samples ∷ sounds) m zero output apart even (omega arith) refl))
      (HasSamples-open output samples),
  unfinished_files-samples outputs sounds (with_file m output.name (open_file output samples)) apart.1 (omega (arith, even)),
)
unfinished_files-samples outputs sounds m apart even = tt

IsGoingOn-samples : (outputs : List OutputFile) (counts : List ℕ) (sounds : List (List ℤ)) (before now : Option Files)
    → AreApart outputs → IsGoingOn outputs counts sounds before now → KeepSamples outputs sounds now
IsGoingOn-samples outputs counts sounds None now apart going = rw going.files tt
IsGoingOn-samples outputs counts sounds (Some m) now apart going = rw going.files (unfinished_files-samples outputs sounds m apart going.number)

-- what holds of a file that has samples holds of each output
each-held : (H : Option Files → List ℕ → Type 0) (m : Files) → ((q : List ℕ) (samples : List ℤ) → IsSomeAnd (bytes_under m q) (HasSamples samples) → H (Some m) q)
    → (outputs : List OutputFile) (sounds : List (List ℤ)) → length sounds ≡ length outputs → HaveSamples outputs sounds m → AllByRecursion (λ (o : OutputFile). H (Some m) o.name) outputs
each-held H m held [] sounds even have = tt
each-held H m held (output ∷ outputs) [] even have = absurd (omega (arith, even))
each-held H m held (output ∷ outputs) (samples ∷ sounds) even have = (held output.name samples have.0, each-held H m held outputs sounds (omega (arith, even)) have.1)

-- no room is asked of files that aren't known
untold-rooms : (outputs : List OutputFile) → HaveHeadRoom None outputs
untold-rooms [] = tt
untold-rooms (output ∷ outputs) = (tt, untold-rooms outputs)

-- while a run goes on, each output has room for a head
pub IsGoingOn-rooms : (outputs : List OutputFile) (counts : List ℕ) (sounds : List (List ℤ)) (before now : Option Files)
    → AreApart outputs → IsGoingOn outputs counts sounds before now → HaveHeadRoom now outputs
IsGoingOn-rooms outputs counts sounds None now apart going = rw going.files (untold-rooms outputs)
IsGoingOn-rooms outputs counts sounds (Some m) now apart going =
    rw going.files
    (each-held HasHeadRoom (unfinished_files outputs sounds m) (λ q samples. room samples (bytes_under (unfinished_files outputs sounds m) q)) outputs sounds going.number
    (unfinished_files-samples outputs sounds m apart going.number))
  where
    room : (samples : List ℤ) (o : Option (List ℕ)) → IsSomeAnd o (HasSamples samples) → IfSome o (λ content. 44 ≤ length content)
    room samples None has = tt
    room samples (Some content) has = omega (arith, ap length has.content_is, length-append has.head (flat_map sample_bytes samples ++ has.more), has.head_length)

-- while a run goes on whose files are known, each output is there
pub IsGoingOn-there : (outputs : List OutputFile) (counts : List ℕ) (sounds : List (List ℤ)) (before now : Option Files)
    → AreApart outputs → IsGoingOn outputs counts sounds before now → IsSome before → HaveFiles now outputs
IsGoingOn-there outputs counts sounds None now apart going told = absurd cc
IsGoingOn-there outputs counts sounds (Some m) now apart going told =
    rw going.files
    (each-held HasFile (unfinished_files outputs sounds m) (λ q samples. there samples (bytes_under (unfinished_files outputs sounds m) q)) outputs sounds going.number
    (unfinished_files-samples outputs sounds m apart going.number))
  where
    there : (samples : List ℤ) (o : Option (List ℕ)) → IsSomeAnd o (HasSamples samples) → IsSome o
    there samples None has = absurd has
    there samples (Some content) has = refl

-- ---- a finish

-- the head of an output has 44 bytes
Leaves-head_of : (output : OutputFile) (count : ℕ) → Leaves (with_first_bytes (head_of output count))
Leaves-head_of output count = Leaves-head (head_of output count) (omega arith)

-- true heads leave each output its samples
closed_files-samples : (all : List OutputFile) (sounds : List (List ℤ)) (outputs : List OutputFile) (counts : List ℕ) (m : Files)
    → HaveSamples all sounds m → HaveSamples all sounds (closed_files outputs counts m)
closed_files-samples all sounds (output ∷ outputs) (count ∷ counts) m have =
    closed_files-samples all sounds outputs counts (with_change (with_first_bytes (head_of output count)) m output.name)
    (HaveSamples-changed (with_first_bytes (head_of output count)) (Leaves-head_of output count) all sounds m output.name have)
closed_files-samples all sounds outputs counts m have = have

closed_where-samples : (all : List OutputFile) (sounds : List (List ℤ)) (outputs : List OutputFile) (counts : List ℕ) (now : Option Files)
    → KeepSamples all sounds now → KeepSamples all sounds (option_map (closed_files outputs counts) now)
closed_where-samples all sounds outputs counts None keep = tt
closed_where-samples all sounds outputs counts (Some m) keep = closed_files-samples all sounds outputs counts m keep

-- a true head that is there in part leaves them
head_part-samples : (all : List OutputFile) (sounds : List (List ℤ)) (output : OutputFile) (count : ℕ) (now after : Option Files)
    → KeepSamples all sounds now → IsPartFinished now after output.name (head_of output count) → KeepSamples all sounds after
head_part-samples all sounds output count now after keep (inl same) = rw same keep
head_part-samples all sounds output count now after keep (inr part) =
    let first : List ℕ = take part.0 (head_of output count) in
    rw part.2
    (KeepSamples-changed (with_first_bytes first) (Leaves-head first (omega (arith, length-take-le part.0 (head_of output count) part.1, part.1))) all sounds now output.name keep)

ClosedInPart-samples : (all : List OutputFile) (sounds : List (List ℤ)) (outputs : List OutputFile) (counts : List ℕ) (now after : Option Files)
    → KeepSamples all sounds now → ClosedInPart outputs counts now after → KeepSamples all sounds after
ClosedInPart-samples all sounds (output ∷ outputs) (count ∷ counts) now after keep (inl part) =
    head_part-samples all sounds output count now after keep part
ClosedInPart-samples all sounds (output ∷ outputs) (count ∷ counts) now after keep (inr rest) =
    ClosedInPart-samples all sounds outputs counts
    (option_map (λ files. with_change (with_first_bytes (head_of output count)) files output.name) now) after
    (KeepSamples-changed (with_first_bytes (head_of output count)) (Leaves-head_of output count) all sounds now output.name keep) rest
ClosedInPart-samples all sounds outputs counts now after keep is = rw is keep

-- whatever finishes answer
pub finish-samples : {T E : Type 0} (result : Result T E) (files outputs : List OutputFile) (numbers counts : List ℕ) (sounds : List (List ℤ))
    (before now after : Option Files) → AreApart outputs → IsGoingOn outputs counts sounds before now
    → OnOk result (after ≡ option_map (closed_files files numbers) now) → OnErr result (ClosedInPart files numbers now after)
    → KeepSamples outputs sounds after
finish-samples (Ok x) files outputs numbers counts sounds before now after apart going closed part =
    rw closed (closed_where-samples outputs sounds files numbers now (IsGoingOn-samples outputs counts sounds before now apart going))
finish-samples (Err e) files outputs numbers counts sounds before now after apart going closed part =
    ClosedInPart-samples outputs sounds files numbers now after (IsGoingOn-samples outputs counts sounds before now apart going) part
