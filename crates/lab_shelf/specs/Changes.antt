-- Changes of files that compose.
--     ChangesOnly may_hold before after      each file is as it was, or holds bytes that it may hold
--     Changes may_hold before after      the same of files that are known, and stay known
--     PartOf name bytes      the named file may hold the first of these bytes
--     Changes-nothing, Changes-then, Changes-wider      no change, two changes, more that a file may hold
--     Changes-with_file, Changes-part      a file that was written, or written in part
--     Changes-stored, Changes-part_stored, Changes-store      the same, with what the file may hold by `PartOf`
--     TookPart-nothing, TookPart-all, TookPart-first, TookPart-then      what a sink took, put by put
use Rattle.std.specs.Prelude.{◌≡◌, ◌⊎◌, ◌++◌, ◌+◌, ℕ, min, List, take, length, Option, Some, None, Result, Ok, Err, OnOk, OnErr, refl}
use Rattle.std.specs.Option.{ForSome, option_map}
use Rattle.std.proofs.Common.{sym, ap, subst, inl, inr, append_assoc, append-nil, ◌∙◌}
use Rattle.std.proofs.Math.Nat.{min-le_right}
use Rattle.std.proofs.Math.Seq.{take-length, take-append-add}
use Rattle.std.proofs.lemmas.List.{take-append-le, take_min}
use Rattle.lab_shelf.specs.Files.{Files, bytes_under, with_file, bytes_under-with_file, bytes_under-with_file_same, IsPartWritten, TookPart}

-- each file is as it was, or holds bytes that it may hold
abbrev pub ChangesOnly : (List ℕ → List ℕ → Type 0) → Files → Files → Type 0
ChangesOnly may_hold before after =
    (name : List ℕ) → (bytes_under after name ≡ bytes_under before name) ⊎ ((bytes : List ℕ) × ((bytes_under after name ≡ Some bytes) × may_hold name bytes))

-- the same of files that are known, and stay known
abbrev pub Changes : (List ℕ → List ℕ → Type 0) → Option Files → Option Files → Type 0
Changes may_hold before after = ForSome before (λ m. (n : Files) × ((after ≡ Some n) × ChangesOnly may_hold m n))

-- the named file may hold the first of these bytes
abbrev pub PartOf : List ℕ → List ℕ → List ℕ → List ℕ → Type 0
PartOf name bytes q content = (q ≡ name) × ((k : ℕ) × (content ≡ take k bytes))

-- what stays as it is has changed in no way
pub Changes-nothing : (may_hold : List ℕ → List ℕ → Type 0) (files : Option Files) → Changes may_hold files files
Changes-nothing may_hold files m is = (m, (is, λ name. inl refl))

-- one file over two changes
file_then : (may_hold : List ℕ → List ℕ → Type 0) (a b c : Files) (name : List ℕ)
    → (bytes_under b name ≡ bytes_under a name) ⊎ ((bytes : List ℕ) × ((bytes_under b name ≡ Some bytes) × may_hold name bytes))
    → (bytes_under c name ≡ bytes_under b name) ⊎ ((bytes : List ℕ) × ((bytes_under c name ≡ Some bytes) × may_hold name bytes))
    → (bytes_under c name ≡ bytes_under a name) ⊎ ((bytes : List ℕ) × ((bytes_under c name ≡ Some bytes) × may_hold name bytes))
file_then may_hold a b c name first (inr new) = inr new
file_then may_hold a b c name (inl kept) (inl same) = inl (same ∙ kept)
file_then may_hold a b c name (inr new) (inl same) = inr (new.0, (same ∙ new.1.0, new.1.1))

-- two changes are one
pub Changes-then : (may_hold : List ℕ → List ℕ → Type 0) (before between after : Option Files)
    → Changes may_hold before between → Changes may_hold between after → Changes may_hold before after
Changes-then may_hold before between after first second m is =
    let n = (first m is).0 in
    let on = second n (first m is).1.0 in
    (on.0, (on.1.0, λ name. file_then may_hold m n on.0 name ((first m is).1.1 name) (on.1.1 name)))

-- one file, which may hold more
file_wider : (may_hold may_also : List ℕ → List ℕ → Type 0) (a b : Files) (name : List ℕ)
    → ((bytes : List ℕ) → may_hold name bytes → may_also name bytes)
    → (bytes_under b name ≡ bytes_under a name) ⊎ ((bytes : List ℕ) × ((bytes_under b name ≡ Some bytes) × may_hold name bytes))
    → (bytes_under b name ≡ bytes_under a name) ⊎ ((bytes : List ℕ) × ((bytes_under b name ≡ Some bytes) × may_also name bytes))
file_wider may_hold may_also a b name wider (inl kept) = inl kept
file_wider may_hold may_also a b name wider (inr new) = inr (new.0, (new.1.0, wider new.0 new.1.1))

-- a file may hold more
pub Changes-wider : (may_hold may_also : List ℕ → List ℕ → Type 0) (before after : Option Files)
    → ((name bytes : List ℕ) → may_hold name bytes → may_also name bytes)
    → Changes may_hold before after → Changes may_also before after
Changes-wider may_hold may_also before after wider changes m is =
    let on = changes m is in
    (on.0, (on.1.0, λ name. file_wider may_hold may_also m on.0 name (wider name) (on.1.1 name)))

-- one file once another, or itself, was written
file_written : (may_hold : List ℕ → List ℕ → Type 0) (files : Files) (name bytes q : List ℕ) → may_hold name bytes
    → (q ≡ name) ⊎ (bytes_under (with_file files name bytes) q ≡ bytes_under files q)
    → (bytes_under (with_file files name bytes) q ≡ bytes_under files q) ⊎ ((content : List ℕ) × ((bytes_under (with_file files name bytes) q ≡ Some content) × may_hold q content))
file_written may_hold files name bytes q may (inr other) = inl other
file_written may_hold files name bytes q may (inl same) =
    inr (
      bytes,
      (
        ap (λ other. bytes_under (with_file files name bytes) other) same ∙ bytes_under-with_file_same files name bytes,
        subst (λ other. may_hold other bytes) (sym same) may,
      ),
    )

-- a file that was written
pub Changes-with_file : (may_hold : List ℕ → List ℕ → Type 0) (before : Option Files) (name bytes : List ℕ) → may_hold name bytes
    → Changes may_hold before (option_map (λ files. with_file files name bytes) before)
Changes-with_file may_hold before name bytes may m is = (
  with_file m name bytes,
  (
    ap (option_map (λ files. with_file files name bytes)) is,
    λ q. file_written may_hold m name bytes q may (bytes_under-with_file m name bytes q),
  ),
)

-- a file that was written in part
pub Changes-part : (may_hold : List ℕ → List ℕ → Type 0) (before after : Option Files) (name bytes : List ℕ)
    → ((k : ℕ) → may_hold name (take k bytes)) → IsPartWritten before after name bytes → Changes may_hold before after
Changes-part may_hold before after name bytes may (inl same) =
    subst (λ files. Changes may_hold before files) (sym same) (Changes-nothing may_hold before)
Changes-part may_hold before after name bytes may (inr part) =
    subst (λ files. Changes may_hold before files) (sym part.1)
    (Changes-with_file may_hold before name (take part.0 bytes) (may part.0))

-- a file that was stored holds all of the bytes
pub Changes-stored : (before after : Option Files) (name bytes : List ℕ)
    → after ≡ option_map (λ files. with_file files name bytes) before → Changes (PartOf name bytes) before after
Changes-stored before after name bytes stored =
    subst (λ files. Changes (PartOf name bytes) before files) (sym stored)
    (Changes-with_file (PartOf name bytes) before name bytes (refl, (length bytes, sym (take-length bytes))))

-- a file that was stored in part holds the first of the bytes
pub Changes-part_stored : (before after : Option Files) (name bytes : List ℕ)
    → IsPartWritten before after name bytes → Changes (PartOf name bytes) before after
Changes-part_stored before after name bytes part =
    Changes-part (PartOf name bytes) before after name bytes (λ k. (refl, (k, refl))) part

-- what a store leaves, whatever it answers
pub Changes-store : {T E : Type 0} (result : Result T E) (before after : Option Files) (name bytes : List ℕ)
    → OnOk result (after ≡ option_map (λ files. with_file files name bytes) before)
    → OnErr result (IsPartWritten before after name bytes) → Changes (PartOf name bytes) before after
Changes-store (Ok x) before after name bytes stored part = Changes-stored before after name bytes stored
Changes-store (Err e) before after name bytes stored part = Changes-part_stored before after name bytes part

-- a sink that took nothing
pub TookPart-nothing : (taken : Option (List ℕ)) (bytes : List ℕ) → TookPart taken taken bytes
TookPart-nothing None bytes = (0, refl)
TookPart-nothing (Some taken) bytes = (0, ap Some (sym (append-nil taken)))

-- a sink that took all of the bytes
pub TookPart-all : (before after : Option (List ℕ)) (bytes : List ℕ)
    → after ≡ option_map (λ taken. taken ++ bytes) before → TookPart before after bytes
TookPart-all before after bytes is =
    (length bytes, is ∙ ap (λ all. option_map (λ taken. taken ++ all) before) (sym (take-length bytes)))

-- a sink that took the first of some bytes took the first of more
pub TookPart-first : (before after : Option (List ℕ)) (bytes more : List ℕ) → TookPart before after bytes → TookPart before after (bytes ++ more)
TookPart-first before after bytes more part = (
  min part.0 (length bytes),
  part.1 ∙ ap (λ some. option_map (λ taken. taken ++ some) before) (sym (
      take-append-le (min part.0 (length bytes)) bytes more (min-le_right part.0 (length bytes)) ∙ take_min part.0 bytes
      )),
)

-- a sink that took some bytes, and then the first of more
pub TookPart-then : (before between after : Option (List ℕ)) (bytes more : List ℕ)
    → between ≡ option_map (λ taken. taken ++ bytes) before → TookPart between after more → TookPart before after (bytes ++ more)
TookPart-then before between after bytes more is part =
    (length bytes + part.0, part.1 ∙ ap (option_map (λ taken. taken ++ take part.0 more)) is ∙ joined before)
  where
    joined : (o : Option (List ℕ)) → option_map (λ taken. taken ++ take part.0 more) (option_map (λ taken. taken ++ bytes) o)
        ≡ option_map (λ taken. taken ++ take (length bytes + part.0) (bytes ++ more)) o
    joined None = refl
    joined (Some taken) =
        ap Some (append_assoc taken bytes (take part.0 more) ∙ ap (λ some. taken ++ some) (sym (take-append-add bytes more part.0)))
