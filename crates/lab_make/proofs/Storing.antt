-- The clients' files are stored one after the other.
use Rattle.lab_make.specs.Prelude.{add-one, ap, drop, get_or, inl, inr, length, List, None, refl, Some, subst, suc, sym, take, ℕ, [], ◌+◌, ◌<◌, ◌∙◌, ◌∷◌, ◌≡◌}
use Rattle.lab_make.specs.Prelude.{◌≤◌, take_all, All-more, All, Option, canonical, Sound, Files, IsPartWritten, with_file, CountsNoFault-then, file_name}
use Rattle.lab_make.specs.Prelude.{IsReadBack, NamedFile, script_name, sound_files, StoredInPart, with_files, with_input}
use Rattle.std.proofs.Common.{option_map}
use Rattle.std.proofs.Math.ListN.{drop_of_length-le}
use Rattle.std.proofs.Math.Seq.{drop-cons}
use Rattle.lab_stop.specs.Effects.{CountsNoFault}
use Rattle.lab_shelf.specs.declared.traits.Shelf as shelves

-- the first files are stored, and what is left to do does all
pub record Storing {S : Type 0} (H : shelves.Ghosts S) (before now : S) (sounds : List Sound) (n : ℕ) : Type 0 where
  pub more : option_map (with_files (sound_files n (drop n sounds))) (H.files now) ≡ option_map (with_files (sound_files 0 sounds)) (H.files before)
  pub part : (after : Option Files) → StoredInPart (sound_files n (drop n sounds)) (H.files now) after
      → StoredInPart (sound_files 0 sounds) (H.files before) after
  pub read : All IsReadBack (take n sounds)
  pub counts : CountsNoFault H before now

-- what is left begins with the file of the next client
left : (sounds : List Sound) (n : ℕ) (sound : Sound) → n < length sounds → sound ≡ get_or sounds n sound
    → sound_files n (drop n sounds) ≡ record { name = file_name n; bytes = canonical sound } ∷ sound_files (n + 1) (drop (n + 1) sounds)
left sounds n sound within is =
    ap (sound_files n) (drop-cons sounds n sound within)
    ∙ ap (λ (s : Sound). sound_files n (s ∷ drop (suc n) sounds)) (sym is)
    ∙ ap (λ (k : ℕ). sound_files n (sound ∷ drop k sounds)) (sym (add-one n))

-- a file is stored, and then those after it
with_files-joined : (file : NamedFile) (files : List NamedFile) (now : Option Files)
    → option_map (with_files files) (option_map (λ m. with_file m file.name file.bytes) now) ≡ option_map (with_files (file ∷ files)) now
with_files-joined file files None = refl
with_files-joined file files (Some m) = refl

-- the files of the sounds are stored, and then the script
pub with_input-joined : (sounds : List Sound) (text : List ℕ) (now : Option Files)
    → option_map (λ files. with_file files script_name text) (option_map (with_files (sound_files 0 sounds)) now)
    ≡ option_map (with_input sounds text) now
with_input-joined sounds text None = refl
with_input-joined sounds text (Some m) = refl

-- no file is left to store
with_files-none : (now : Option Files) → option_map (with_files []) now ≡ now
with_files-none None = refl
with_files-none (Some m) = refl

-- the next file is stored
pub Storing-next : {S : Type 0} (H : shelves.Ghosts S) (before now then : S) (sounds : List Sound) (n : ℕ) (sound : Sound)
    → Storing H before now sounds n → n < length sounds → sound ≡ get_or sounds n sound
    → H.files then ≡ option_map (λ files. with_file files (file_name n) (canonical sound)) (H.files now) → IsReadBack sound
    → CountsNoFault H now then → Storing H before then sounds (n + 1)
Storing-next H before now then sounds n sound so_far within is stored back counts = record {
  more =
      ap (option_map (with_files (sound_files (n + 1) (drop (n + 1) sounds)))) stored
      ∙ with_files-joined (record { name = file_name n; bytes = canonical sound }) (sound_files (n + 1) (drop (n + 1) sounds)) (H.files now)
      ∙ ap (λ (files : List NamedFile). option_map (with_files files) (H.files now)) (sym (left sounds n sound within is))
      ∙ so_far.more;
  part = λ after part. so_far.part after
      (subst (λ (files : List NamedFile). StoredInPart files (H.files now) after) (sym (left sounds n sound within is))
      (inr (subst (λ (f : Option Files). StoredInPart (sound_files (n + 1) (drop (n + 1) sounds)) f after) stored part)));
  read = All-more IsReadBack sounds n sound within so_far.read (subst IsReadBack is back);
  counts = CountsNoFault-then H before now then so_far.counts counts;
}

-- the next file is stored in part
pub Storing-stop : {S : Type 0} (H : shelves.Ghosts S) (before now : S) (after : Option Files) (sounds : List Sound) (n : ℕ) (sound : Sound)
    → Storing H before now sounds n → n < length sounds → sound ≡ get_or sounds n sound
    → IsPartWritten (H.files now) after (file_name n) (canonical sound) → StoredInPart (sound_files 0 sounds) (H.files before) after
Storing-stop H before now after sounds n sound so_far within is part =
    so_far.part after
    (subst (λ (files : List NamedFile). StoredInPart files (H.files now) after) (sym (left sounds n sound within is)) (inl part))

module _ {S : Type 0} (H : shelves.Ghosts S) (before now : S) (sounds : List Sound) (n : ℕ) (so_far : Storing H before now sounds n)
    (all : length sounds ≤ n) where
  -- all files are stored
  pub Storing-all : H.files now ≡ option_map (with_files (sound_files 0 sounds)) (H.files before)
  Storing-all =
      sym (with_files-none (H.files now))
      ∙ ap (λ (more : List Sound). option_map (with_files (sound_files n more)) (H.files now)) (sym (drop_of_length-le sounds all))
      ∙ so_far.more

  -- and each is read as its sound
  pub Storing-read : All IsReadBack sounds
  Storing-read = subst (All IsReadBack) (take_all n sounds all) so_far.read
