-- Lists of entries, each with a name and its bytes, as the files that they are.
use Rattle.std.proofs.Common.{◌≡◌, ℕ, Bool, true, false, cond, List, [], ◌∷◌, ◌++◌, map, get_or, bytes_eq, Some, None, option_map, refl, sym, ap, ◌∙◌}
use Rattle.std.proofs.Math.ListN.{set}
use Rattle.std.proofs.Math.Seq.{map-set_same}
use Rattle.std.proofs.lemmas.Bool.{ltb-false}
use Rattle.std.proofs.lemmas.List.{map-append}
use Rattle.std.proofs.lemmas.List.Folds.{find_at, find-set, find_past}
use Rattle.std.proofs.lemmas.List.Quantifiers.{position-Some}
use Rattle.std.proofs.lemmas.Map.Text.{is_eq-slice_cmp}
use Rattle.std.proofs.lemmas.Option.{slice_get-get_or, slice_get_past}
use Rattle.std.proofs.lemmas.Slice.Eq.{bytes_eq-Decides}
use Rattle.std.specs.Cmp.Lexicographic.{slice_cmp, nat_list_cmp_total}
use Rattle.std.specs.FinMap.{from_entries, find, get-from_entries, from_entries_push, same_map, nat_cmp-IsAntisymmetric, slice_cmp-IsAntisymmetric}
use Rattle.std.specs.Global.{Vec}
use Rattle.std.specs.List as list
use Rattle.std.specs.Option.{option_map_or}
use Rattle.std.specs.Ordering.{nat_cmp}
use Rattle.lab_shelf.specs.Files.{bytes_under, with_file, with_change, bytes_under-with_file_same, bytes_under-with_file_other}
use Rattle.lab_shelf.specs.States.{files_of}

abbrev pub Entry : Type 0
Entry = Vec ℕ × Vec ℕ

abbrev pub has_name : List ℕ → Entry → Bool
has_name q e = bytes_eq q e.0.items

-- the map's look-up is that of the list
find-pairs : (q : List ℕ) (es : List Entry)
    → find (slice_cmp nat_cmp) q (map (λ (e : Entry). (e.0.items, e.1.items)) es) ≡ option_map (λ (e : Entry). e.1.items) (list.find (has_name q) es)
find-pairs q [] = refl
find-pairs q (e ∷ es) =
    ap (λ b. cond b (Some e.1.items) (find (slice_cmp nat_cmp) q (map (λ (e : Entry). (e.0.items, e.1.items)) es))) (is_eq-slice_cmp q e.0.items)
    ∙ elim (bytes_eq q e.0.items) as
    (λ b. cond b (Some e.1.items) (find (slice_cmp nat_cmp) q (map (λ (e : Entry). (e.0.items, e.1.items)) es))
    ≡ option_map (λ (e : Entry). e.1.items) (cond b (Some e) (list.find (has_name q) es))) [
      | true ↦ refl
      | false ↦ find-pairs q es
    ]

-- what the files hold is what the look-up of the list finds
bytes_under-files_of : (q : List ℕ) (es : List Entry) → bytes_under (files_of es) q ≡ option_map (λ (e : Entry). e.1.items) (list.find (has_name q) es)
bytes_under-files_of q es = get-from_entries nat_list_cmp_total (map (λ (e : Entry). (e.0.items, e.1.items)) es) q ∙ find-pairs q es

-- a place that is given is the place that is counted
place_is : (b : Bool) (n i : ℕ) → cond b (Some n) None ≡ Some i → n ≡ i
place_is true n i is = cc
place_is false n i is = cc

-- no place is given where none is within the list
not_within : (b : Bool) (n : ℕ) → cond b (Some n) None ≡ None → b ≡ false
not_within true n is = cc
not_within false n is = refl

-- the entry at the first place that passes is the one that is found
find_position : (p : Entry → Bool) (es : List Entry) (i : ℕ) (d : Entry) → list.position p es ≡ Some i → list.find p es ≡ Some (get_or es i d)
find_position p es i d is = find_at p es ∙ ap (list.slice_get es) (place_is _ _ _ is) ∙ slice_get-get_or es i d (position-Some p es i d is).0

-- where no place passes nothing is found
find_nowhere : (p : Entry → Bool) (es : List Entry) → list.position p es ≡ None → list.find p es ≡ None
find_nowhere p es is = find_at p es ∙ slice_get_past es (list.position_or_len p es) (ltb-false _ _ (not_within _ _ is))

-- what the files hold of a name with a place
pub held_found : (q : List ℕ) (es : List Entry) (i : ℕ) (d : Entry)
    → list.position (has_name q) es ≡ Some i → bytes_under (files_of es) q ≡ Some (get_or es i d).1.items
held_found q es i d is = bytes_under-files_of q es ∙ ap (option_map (λ (e : Entry). e.1.items)) (find_position (has_name q) es i d is)

-- the files have no name without a place
pub held_nowhere : (q : List ℕ) (es : List Entry) → list.position (has_name q) es ≡ None → bytes_under (files_of es) q ≡ None
held_nowhere q es is = bytes_under-files_of q es ∙ ap (option_map (λ (e : Entry). e.1.items)) (find_nowhere (has_name q) es is)

-- a write at a name's place, which keeps the name, makes its file hold the new bytes
pub set_is_with_file : (es : List Entry) (i : ℕ) (y d : Entry) (name bytes : List ℕ)
    → list.position (has_name name) es ≡ Some i → y.0.items ≡ (get_or es i d).0.items → y.1.items ≡ bytes
    → files_of (set es i y) ≡ with_file (files_of es) name bytes
set_is_with_file es i y d name bytes is same holds =
    same_map nat_list_cmp_total (slice_cmp-IsAntisymmetric nat_cmp-IsAntisymmetric) _ _
    (λ q. elim (bytes_eq q name) as (λ b. bytes_eq q name ≡ b → IsAlike q) [
      | true ↦ λ e. rw ((bytes_eq-Decides q name).0 e) named
      | false ↦ λ e. unnamed q e
    ] refl)
  where
    passes : has_name name (get_or es i d) ≡ true
    passes = (position-Some (has_name name) es i d is).1

    IsAlike : List ℕ → Type 0
    IsAlike q = bytes_under (files_of (set es i y)) q ≡ bytes_under (with_file (files_of es) name bytes) q

    named : IsAlike name
    named =
        bytes_under-files_of name (set es i y)
        ∙ ap (option_map (λ (e : Entry). e.1.items)) (find-set (has_name name) es i y (sym (place_is _ _ _ is))
        (position-Some (has_name name) es i d is).0 (ap (bytes_eq name) same ∙ passes))
        ∙ ap Some holds
        ∙ sym (bytes_under-with_file_same (files_of es) name bytes)

    -- another name is neither that of the entry nor that of the one before it
    unnamed : (q : List ℕ) → bytes_eq q name ≡ false → IsAlike q
    unnamed q other =
        let is_named : name ≡ (get_or es i d).0.items = (bytes_eq-Decides name (get_or es i d).0.items).0 passes in
        bytes_under-files_of q (set es i y)
        ∙ ap (option_map (λ (e : Entry). e.1.items))
        (find_past (has_name q) es i y d (ap (bytes_eq q) (sym is_named) ∙ other) (ap (bytes_eq q) (same ∙ sym is_named) ∙ other))
        ∙ sym (bytes_under-files_of q es)
        ∙ sym (bytes_under-with_file_other (files_of es) name bytes q (λ e. absurd (let t : bytes_eq q name ≡ true = (bytes_eq-Decides q name).1 e in cc)))

-- an entry at the end with a new name adds its file
pub push_is_with_file : (es : List Entry) (y : Entry) (name bytes : List ℕ)
    → list.position (has_name name) es ≡ None → y.0.items ≡ name → y.1.items ≡ bytes → files_of (es ++ y ∷ []) ≡ with_file (files_of es) name bytes
push_is_with_file es y name bytes is named holds =
    ap from_entries (map-append (λ (e : Entry). (e.0.items, e.1.items)) es (y ∷ []))
    ∙ from_entries_push nat_list_cmp_total (slice_cmp-IsAntisymmetric nat_cmp-IsAntisymmetric) (map (λ (e : Entry). (e.0.items, e.1.items)) es) y.0.items y.1.items
    (ap (λ k. find (slice_cmp nat_cmp) k (map (λ (e : Entry). (e.0.items, e.1.items)) es)) named
    ∙ find-pairs name es
    ∙ ap (option_map (λ (e : Entry). e.1.items)) (find_nowhere (has_name name) es is))
    ∙ ap (λ k. with_file (files_of es) k y.1.items) named
    ∙ ap (with_file (files_of es) name) holds

-- a change at a name's place, which keeps the name, makes of its file's bytes what is made of the entry's
pub set_is_changed : (make : List ℕ → List ℕ) (es : List Entry) (i : ℕ) (y d : Entry) (name : List ℕ)
    → list.position (has_name name) es ≡ Some i → y.0.items ≡ (get_or es i d).0.items → y.1.items ≡ make (get_or es i d).1.items
    → files_of (set es i y) ≡ with_change make (files_of es) name
set_is_changed make es i y d name is same holds =
    set_is_with_file es i y d name (make (get_or es i d).1.items) is same holds
    ∙ sym (ap (λ o. option_map_or (λ c. with_file (files_of es) name (make c)) o (files_of es)) (held_found name es i d is))

-- a write that changes neither a name nor its bytes leaves the files as they are
pub set_is_same : (es : List Entry) (i : ℕ) (y d : Entry)
    → y.0.items ≡ (get_or es i d).0.items → y.1.items ≡ (get_or es i d).1.items → files_of (set es i y) ≡ files_of es
set_is_same es i y d same holds = ap from_entries (map-set_same (λ (e : Entry). (e.0.items, e.1.items)) es i y d (rw (same, holds) refl))
