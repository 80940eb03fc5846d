-- Laws of notes.
use Rattle.std.specs.Prelude.{◌≡◌, ◌≢◌, ◌⊎◌, ℕ, zero, suc, ◌<◌, ◌≤◌, Bool, true, false, Option, None, Some, List, [], ◌∷◌, length, nat_lt}
use Rattle.std.specs.List.{slice_index_or}
use Rattle.std.proofs.Common.{get_or, set, cond, inl, inr, arith, subst, sym, refl, ap, ◌∙◌}
use Rattle.std.proofs.Math.ListN.{replicate}
use Rattle.std.proofs.lemmas.Bool.{cases_eq, false≢true}
use Rattle.std.proofs.lemmas.Bool.Decides.{nat_tests}
use Rattle.std.proofs.lemmas.List.{get_or-set_same, get_or-set_other}
use Rattle.ring_rule.specs.Notes.{NeverFall, later_note, later_notes}
use Rattle.ring_rule.specs.WordLaws.{NotPast-trans}
use Rattle.ring_rule.specs.Words.{NotPast, rank}

abbrev pub is_noted : Option ℕ → Bool
is_noted None = false
is_noted (Some n) = true

pub no_note : (n : ℕ) → None ≢ Some n
no_note n same = false≢true (ap is_noted same)

abbrev pub value_or : ℕ → Option ℕ → ℕ
value_or d None = d
value_or d (Some x) = x

-- nothing is noted at first
pub none_there : (n i : ℕ) → get_or (replicate {A = Option ℕ} n None) i None ≡ None
none_there zero i = refl
none_there (suc n) zero = refl
none_there (suc n) (suc i) = none_there n i

-- what is noted after one more note
pub noted_set : (notes : List (Option ℕ)) (i j n o : ℕ) → get_or (set notes i (Some n)) j None ≡ Some o → ((j ≡ i) × (o ≡ n)) ⊎ (get_or notes j None ≡ Some o)
noted_set [] i j n o is = inr is
noted_set (x ∷ xs) zero zero n o is = inl (refl, sym (ap (value_or n) is))
noted_set (x ∷ xs) zero (suc j) n o is = inr is
noted_set (x ∷ xs) (suc i) zero n o is = inr is
noted_set (x ∷ xs) (suc i) (suc j) n o is = elim (noted_set xs i j n o is) [
  | inl here ↦ inl (ap suc here.0, here.1)
  | inr there ↦ inr there
]

-- what is noted in two lists together, one of them noted
later_note-one : (n o : Option ℕ) (m : ℕ) → later_note n o ≡ Some m → (n ≡ Some m) ⊎ (o ≡ Some m)
later_note-one None o m is = inr is
later_note-one (Some n) None m is = inl is
later_note-one (Some n) (Some o) m is = choose (nat_lt (rank n) (rank o)) is where
  choose : (b : Bool) → cond b (Some o) (Some n) ≡ Some m → (Some n ≡ Some m) ⊎ (Some o ≡ Some m)
  choose true e = inr e
  choose false e = inl e

pub later_notes-one : (ns os : List (Option ℕ)) (i m : ℕ) → get_or (later_notes ns os) i None ≡ Some m → (get_or ns i None ≡ Some m) ⊎ (get_or os i None ≡ Some m)
later_notes-one [] os i m is = inr is
later_notes-one (n ∷ ns) [] i m is = inl is
later_notes-one (n ∷ ns) (o ∷ os) zero m is = later_note-one n o m is
later_notes-one (n ∷ ns) (o ∷ os) (suc i) m is = later_notes-one ns os i m is

pub later_notes-length : (ns os : List (Option ℕ)) → length ns ≡ length os → length (later_notes ns os) ≡ length ns
later_notes-length [] os same = sym same
later_notes-length (n ∷ ns) [] same = refl
later_notes-length (n ∷ ns) (o ∷ os) same =
    let rest : length ns ≡ length os = omega arith in
    omega (arith, later_notes-length ns os rest)

-- notes that never fall
pub NeverFall-same : (ns ms : List (Option ℕ)) → ms ≡ ns → NeverFall ns ms
NeverFall-same ns ms same i n is = (n, ap (λ x. slice_index_or x i None) same ∙ is, inl refl)

pub NeverFall-joined : (ks ns ms : List (Option ℕ)) → NeverFall ks ns → NeverFall ns ms → NeverFall ks ms
NeverFall-joined ks ns ms first then i n is =
    let one = first i n is in
    let two = then i one.0 one.1 in
    (two.0, two.1, NotPast-trans n one.0 two.0 one.2 two.2)

-- a note of a word that no earlier note there is past
pub NeverFall-set : (ns : List (Option ℕ)) (j word : ℕ) → j < length ns → ((o : ℕ) → slice_index_or ns j None ≡ Some o → NotPast o word)
    → NeverFall ns (set ns j (Some word))
NeverFall-set ns j word inside not_past i n is = elim (cases_eq i j) [
  | inl same ↦ (
    word,
    ap (λ k. get_or (set ns j (Some word)) k None) same ∙ get_or-set_same ns j (Some word) None inside,
    not_past n (subst (λ k. get_or ns k None ≡ Some n) same is),
  )
  | inr other ↦ (n, get_or-set_other ns j i (Some word) None other ∙ is, inl refl)
]

-- what is noted in one of two lists is noted in both together, or a later word is
later_note-keeps : (n o : Option ℕ) (x : ℕ) → (n ≡ Some x) ⊎ (o ≡ Some x) → (m : ℕ) × (later_note n o ≡ Some m) × (rank x ≤ rank m)
later_note-keeps None o x is = elim is [ inl none ↦ absurd (no_note x none) | inr some ↦ (x, some, omega arith) ]
later_note-keeps (Some n) None x is = elim is [ inl some ↦ (x, some, omega arith) | inr none ↦ absurd (no_note x none) ]
later_note-keeps (Some n) (Some o) x is = choose (nat_lt (rank n) (rank o)) refl where
  value : (k : ℕ) → Some k ≡ Some x → k ≡ x
  value k e = ap (value_or 0) e

  choose : (b : Bool) → nat_lt (rank n) (rank o) ≡ b → (m : ℕ) × (cond b (Some o) (Some n) ≡ Some m) × (rank x ≤ rank m)
  choose true test = (
    o,
    refl,
    elim is [
      | inl first ↦
          let up : rank n < rank o = grind (arith, nat_tests, test) in
          omega (arith, up, ap rank (value n first))
      | inr second ↦ omega (arith, ap rank (value o second))
    ],
  )
  choose false test = (
    n,
    refl,
    elim is [
      | inl first ↦ omega (arith, ap rank (value n first))
      | inr second ↦
          let up : rank o ≤ rank n = grind (arith, nat_tests, test) in
          omega (arith, up, ap rank (value o second))
    ],
  )

pub later_notes-keeps : (ns os : List (Option ℕ)) (i x : ℕ) → (get_or ns i None ≡ Some x) ⊎ (get_or os i None ≡ Some x)
    → (m : ℕ) × (get_or (later_notes ns os) i None ≡ Some m) × (rank x ≤ rank m)
later_notes-keeps [] os i x is = elim is [ inl none ↦ absurd (no_note x none) | inr some ↦ (x, some, omega arith) ]
later_notes-keeps (n ∷ ns) [] i x is = elim is [ inl some ↦ (x, some, omega arith) | inr none ↦ absurd (no_note x none) ]
later_notes-keeps (n ∷ ns) (o ∷ os) zero x is = later_note-keeps n o x is
later_notes-keeps (n ∷ ns) (o ∷ os) (suc i) x is = later_notes-keeps ns os i x is
