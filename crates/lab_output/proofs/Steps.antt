-- A run's files one after the other.
use Rattle.lab_output.specs.Prelude.{add-one, ap, arith, drop, get_or, inl, inr, length, List, None, option_map, refl, Some, subst, suc, sym, ℕ, [], ◌+◌, ◌<◌}
use Rattle.lab_output.specs.Prelude.{◌∙◌, ◌∷◌, ◌≡◌, ◌≤◌, drop_of_length-le, drop-cons, Option, Files, IsPartFinished, IsPartWritten, with_change, with_file}
use Rattle.lab_output.specs.Prelude.{with_first_bytes, CountsNoFault-then, OutputFile, head_of, open_head_of, closed_files, ClosedInPart, HaveFiles}
use Rattle.lab_output.specs.Prelude.{HaveHeadRoom, opened_files, OpenedInPart}
use Rattle.lab_stop.specs.Effects.{CountsNoFault}
use Rattle.lab_output.proofs.Held.{changed-files, changed-rooms}
use Rattle.lab_shelf.specs.declared.traits.Shelf as shelves

-- the first files are begun, and what is left to do does all
pub record Opening {S : Type 0} (H : shelves.Ghosts S) (before now : S) (outputs : List OutputFile) (n : ℕ) : Type 0 where
  pub rest : option_map (opened_files (drop n outputs)) (H.files now) ≡ option_map (opened_files outputs) (H.files before)
  pub part : (after : Option Files) → OpenedInPart (drop n outputs) (H.files now) after → OpenedInPart outputs (H.files before) after
  pub counts : CountsNoFault H before now

-- what is left begins with the file at its place
left : (outputs : List OutputFile) (n : ℕ) (output : OutputFile) → n < length outputs → output ≡ get_or outputs n output
    → drop n outputs ≡ output ∷ drop (n + 1) outputs
left outputs n output within is =
    drop-cons outputs n output within
    ∙ ap (λ (o : OutputFile). o ∷ drop (suc n) outputs) (sym is)
    ∙ ap (λ (k : ℕ). output ∷ drop k outputs) (sym (add-one n))

-- a file is begun, and then those after it
opened_files-joined : (output : OutputFile) (outputs : List OutputFile) (now : Option Files)
    → option_map (opened_files outputs) (option_map (λ files. with_file files output.name (open_head_of output)) now)
    ≡ option_map (opened_files (output ∷ outputs)) now
opened_files-joined output outputs None = refl
opened_files-joined output outputs (Some m) = refl

-- no file is left to begin
opened_files-none : (now : Option Files) → option_map (opened_files []) now ≡ now
opened_files-none None = refl
opened_files-none (Some m) = refl

-- the next file is begun
pub Opening-next : {S : Type 0} (H : shelves.Ghosts S) (before now then : S) (outputs : List OutputFile) (n : ℕ) (output : OutputFile)
    → Opening H before now outputs n → n < length outputs → output ≡ get_or outputs n output
    → H.files then ≡ option_map (λ files. with_file files output.name (open_head_of output)) (H.files now)
    → CountsNoFault H now then → Opening H before then outputs (n + 1)
Opening-next H before now then outputs n output so_far within is begun counts = record {
  rest =
      ap (option_map (opened_files (drop (n + 1) outputs))) begun
      ∙ opened_files-joined output (drop (n + 1) outputs) (H.files now)
      ∙ ap (λ (os : List OutputFile). option_map (opened_files os) (H.files now)) (sym (left outputs n output within is))
      ∙ so_far.rest;
  part = λ after part. so_far.part after
      (subst (λ (os : List OutputFile). OpenedInPart os (H.files now) after) (sym (left outputs n output within is))
      (inr (subst (λ (f : Option Files). OpenedInPart (drop (n + 1) outputs) f after) begun part)));
  counts = CountsNoFault-then H before now then so_far.counts counts;
}

-- the next file is begun in part
pub Opening-stop : {S : Type 0} (H : shelves.Ghosts S) (before now : S) (after : Option Files) (outputs : List OutputFile) (n : ℕ)
    (output : OutputFile) → Opening H before now outputs n → n < length outputs → output ≡ get_or outputs n output
    → IsPartWritten (H.files now) after output.name (open_head_of output) → OpenedInPart outputs (H.files before) after
Opening-stop H before now after outputs n output so_far within is part =
    so_far.part after
    (subst (λ (os : List OutputFile). OpenedInPart os (H.files now) after) (sym (left outputs n output within is)) (inl part))

-- all files are begun
pub Opening-all : {S : Type 0} (H : shelves.Ghosts S) (before now : S) (outputs : List OutputFile) (n : ℕ)
    → Opening H before now outputs n → length outputs ≤ n → H.files now ≡ option_map (opened_files outputs) (H.files before)
Opening-all H before now outputs n so_far all =
    sym (opened_files-none (H.files now))
    ∙ ap (λ (os : List OutputFile). option_map (opened_files os) (H.files now)) (sym (drop_of_length-le outputs all))
    ∙ so_far.rest

-- the first files have their true heads, what is left to do does all, there is room for each head, and each file stays there
pub record Closing {S : Type 0} (H : shelves.Ghosts S) (before now : S) (outputs : List OutputFile) (samples : List ℕ) (n : ℕ) : Type 0 where
  pub rest : option_map (closed_files (drop n outputs) (drop n samples)) (H.files now)
      ≡ option_map (closed_files outputs samples) (H.files before)
  pub part : (after : Option Files) → ClosedInPart (drop n outputs) (drop n samples) (H.files now) after
      → ClosedInPart outputs samples (H.files before) after
  pub rooms : HaveHeadRoom (H.files now) outputs
  pub there : HaveFiles (H.files before) outputs → HaveFiles (H.files now) outputs
  pub counts : CountsNoFault H before now

-- what is left begins with the number at its place
left_counts : (counts : List ℕ) (n count : ℕ) → n < length counts → count ≡ get_or counts n 0 → drop n counts ≡ count ∷ drop (n + 1) counts
left_counts counts n count within is =
    drop-cons counts n 0 within
    ∙ ap (λ (c : ℕ). c ∷ drop (suc n) counts) (sym is)
    ∙ ap (λ (k : ℕ). count ∷ drop k counts) (sym (add-one n))

-- a file gets its true head, and then those after it
closed_files-joined : (output : OutputFile) (outputs : List OutputFile) (count : ℕ) (counts : List ℕ) (now : Option Files)
    → option_map (closed_files outputs counts) (option_map (λ files. with_change (with_first_bytes (head_of output count)) files output.name) now)
    ≡ option_map (closed_files (output ∷ outputs) (count ∷ counts)) now
closed_files-joined output outputs count counts None = refl
closed_files-joined output outputs count counts (Some m) = refl

-- no file is left to finish
closed_files-none : (counts : List ℕ) (now : Option Files) → option_map (closed_files [] counts) now ≡ now
closed_files-none counts None = refl
closed_files-none counts (Some m) = refl

-- the next file gets its true head
pub Closing-next : {S : Type 0} (H : shelves.Ghosts S) (before now then : S) (outputs : List OutputFile) (samples : List ℕ) (n : ℕ)
    (output : OutputFile) (count : ℕ) → Closing H before now outputs samples n
    → n < length outputs → length samples ≡ length outputs → output ≡ get_or outputs n output → count ≡ get_or samples n 0
    → H.files then ≡ option_map (λ files. with_change (with_first_bytes (head_of output count)) files output.name) (H.files now)
    → CountsNoFault H now then → Closing H before then outputs samples (n + 1)
Closing-next H before now then outputs samples n output count so_far within even is counted closes counts =
    let here : drop n outputs ≡ output ∷ drop (n + 1) outputs = left outputs n output within is in
    let count_here : drop n samples ≡ count ∷ drop (n + 1) samples = left_counts samples n count (omega (arith, even, within)) counted in
    record {
      rest =
          ap (option_map (closed_files (drop (n + 1) outputs) (drop (n + 1) samples))) closes
          ∙ closed_files-joined output (drop (n + 1) outputs) count (drop (n + 1) samples) (H.files now)
          ∙ ap (λ (os : List OutputFile). option_map (closed_files os (count ∷ drop (n + 1) samples)) (H.files now)) (sym here)
          ∙ ap (λ (cs : List ℕ). option_map (closed_files (drop n outputs) cs) (H.files now)) (sym count_here)
          ∙ so_far.rest;
      part = λ after part. so_far.part after
          (subst (λ (os : List OutputFile). ClosedInPart os (drop n samples) (H.files now) after) (sym here)
          (subst (λ (cs : List ℕ). ClosedInPart (output ∷ drop (n + 1) outputs) cs (H.files now) after) (sym count_here)
          (inr (subst (λ (f : Option Files). ClosedInPart (drop (n + 1) outputs) (drop (n + 1) samples) f after) closes part))));
      rooms = rw closes (changed-rooms (head_of output count) outputs (H.files now) output.name so_far.rooms);
      there = λ there. rw closes (changed-files (with_first_bytes (head_of output count)) outputs (H.files now) output.name (so_far.there there));
      counts = CountsNoFault-then H before now then so_far.counts counts;
    }

-- the next file gets its true head in part
pub Closing-stop : {S : Type 0} (H : shelves.Ghosts S) (before now : S) (after : Option Files) (outputs : List OutputFile) (samples : List ℕ)
    (n : ℕ) (output : OutputFile) (count : ℕ) → Closing H before now outputs samples n
    → n < length outputs → length samples ≡ length outputs → output ≡ get_or outputs n output → count ≡ get_or samples n 0
    → IsPartFinished (H.files now) after output.name (head_of output count) → ClosedInPart outputs samples (H.files before) after
Closing-stop H before now after outputs samples n output count so_far within even is counted part =
    so_far.part after
    (subst (λ (os : List OutputFile). ClosedInPart os (drop n samples) (H.files now) after) (sym (left outputs n output within is))
    (subst (λ (cs : List ℕ). ClosedInPart (output ∷ drop (n + 1) outputs) cs (H.files now) after)
    (sym (left_counts samples n count (omega (arith, even, within)) counted)) (inl part)))

-- all files have their true heads
pub Closing-all : {S : Type 0} (H : shelves.Ghosts S) (before now : S) (outputs : List OutputFile) (samples : List ℕ) (n : ℕ)
    → Closing H before now outputs samples n → length outputs ≤ n
    → H.files now ≡ option_map (closed_files outputs samples) (H.files before)
Closing-all H before now outputs samples n so_far all =
    sym (closed_files-none (drop n samples) (H.files now))
    ∙ ap (λ (os : List OutputFile). option_map (closed_files os (drop n samples)) (H.files now)) (sym (drop_of_length-le outputs all))
    ∙ so_far.rest
