-- What one more entry does to a member's own entries, its marks and its standing adds.
use Rattle.std.specs.Prelude.{◌≡◌, ◌≢◌, ℕ, true, false, ◌==◌, Some, List, [], ◌∷◌, ◌++◌}
use Rattle.std.proofs.Common.{refl, ap, ◌∙◌, arith}
use Rattle.std.proofs.lemmas.Bool.Decides.{nat_tests}
use Rattle.std.proofs.lemmas.List.{append-nil}
use Rattle.std.proofs.lemmas.List.Elements.{filter-append}
use Rattle.std.proofs.lemmas.List.Sums.{fold_push}
use Rattle.snd_base.specs.declared.geometry.Geometry.{Geometry}
use Rattle.mix_core.specs.declared.port.Entry.{Entry}
use Rattle.mix_core.specs.Laid.{last_entry, marks_after, marks_by, marks_of, own_entries, stand_after, standing, standing_of}

pub own-more : (m : ℕ) (es : List Entry) (e : Entry) → e.member ≡ m → own_entries m (es ++ e ∷ []) ≡ own_entries m es ++ e ∷ []
own-more m es e same =
    let test : (e.member == m) ≡ true = grind (arith, nat_tests) in
    rw (filter-append (λ (x : Entry). x.member == m) es (e ∷ []), test) refl

pub own-more_other : (m : ℕ) (es : List Entry) (e : Entry) → e.member ≢ m → own_entries m (es ++ e ∷ []) ≡ own_entries m es
own-more_other m es e other =
    let test : (e.member == m) ≡ false = grind (arith, nat_tests) in
    rw (filter-append (λ (x : Entry). x.member == m) es (e ∷ []), test) (append-nil (own_entries m es))

pub marks_by-more : (g : Geometry) (es : List Entry) (e : Entry) → marks_by g (es ++ e ∷ []) ≡ marks_after g (marks_by g es) e
marks_by-more g es e = fold_push (marks_after g) _ es e

pub standing-more : (es : List Entry) (e : Entry) → standing (es ++ e ∷ []) ≡ stand_after (standing es) e
standing-more es e = fold_push stand_after [] es e

pub last_entry-more : (es : List Entry) (e : Entry) → last_entry (es ++ e ∷ []) ≡ Some e
last_entry-more es e = fold_push _ _ es e

pub marks_of-own : (g : Geometry) (m : ℕ) (es : List Entry) (e : Entry) → e.member ≡ m → marks_of g m (es ++ e ∷ []) ≡ marks_after g (marks_of g m es) e
marks_of-own g m es e same = ap (marks_by g) (own-more m es e same) ∙ marks_by-more g (own_entries m es) e

pub marks_of-other : (g : Geometry) (m : ℕ) (es : List Entry) (e : Entry) → e.member ≢ m → marks_of g m (es ++ e ∷ []) ≡ marks_of g m es
marks_of-other g m es e other = ap (marks_by g) (own-more_other m es e other)

pub standing_of-own : (m : ℕ) (es : List Entry) (e : Entry) → e.member ≡ m → standing_of m (es ++ e ∷ []) ≡ stand_after (standing_of m es) e
standing_of-own m es e same = ap standing (own-more m es e same) ∙ standing-more (own_entries m es) e

pub standing_of-other : (m : ℕ) (es : List Entry) (e : Entry) → e.member ≢ m → standing_of m (es ++ e ∷ []) ≡ standing_of m es
standing_of-other m es e other = ap standing (own-more_other m es e other)
