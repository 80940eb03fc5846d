-- Laws of the words of a ring, where they are, and what is not past them.
use Rattle.std.specs.Prelude.{◌≡◌, ℕ, zero, suc, ◌*◌, ◌/◌, ◌<◌, ◌≤◌, List, [], ◌∷◌, length}
use Rattle.std.proofs.Common.{get_or, set, inl, inr, arith, subst, sym, refl, ap}
use Rattle.std.proofs.lemmas.Bool.{cases_eq}
use Rattle.std.proofs.lemmas.List.{get_or-set_same, get_or-set_other}
use Rattle.std.proofs.Math.Nat.{div-lt_iff_lt-mul}
use Rattle.snd_base.specs.declared.geometry.Geometry.{Geometry}
use Rattle.snd_base.specs.PlaceLaws.{word_index-lt, word_index-same}
use Rattle.snd_base.specs.Places.{end_frame, lap, slot, word_index}
use Rattle.ring_rule.specs.Words.{NotPast, index_of, rank, words_of}

pub index_of-lt : (g : Geometry) (f c : ℕ) → c < g.channels → index_of g f c < words_of g
index_of-lt g f c in_range = omega (arith, word_index-lt g f c in_range)

pub index_of-same : (g : Geometry) (f c k d : ℕ) → c < g.channels → d < g.channels → index_of g f c ≡ index_of g k d → (slot g f ≡ slot g k) × (c ≡ d)
index_of-same g f c k d c_in d_in same =
    let inner : word_index g f c ≡ word_index g k d = omega (arith, same) in
    word_index-same g f c k d c_in d_in inner

pub lap-le : (g : Geometry) (f : ℕ) → f ≤ end_frame g → lap g f ≤ 4294967295
lap-le g f within =
    let some : 0 < g.frames = omega (arith, g.frames_least) in
    let below : f < 4294967296 * g.frames = omega (arith, g.frames_least) in
    let fits : lap g f < 4294967296 = (div-lt_iff_lt-mul some).1 below in
    omega arith

-- writing what was read changes nothing
pub set_read : (l : List ℕ) (i : ℕ) → set l i (get_or l i 0) ≡ l
set_read [] i = refl
set_read (x ∷ xs) zero = refl
set_read (x ∷ xs) (suc i) = ap (λ l. x ∷ l) (set_read xs i)

-- what was not past a word isn't past a later one
pub NotPast-trans : (a b c : ℕ) → NotPast a b → NotPast b c → NotPast a c
NotPast-trans a b c first then = elim first [
  | inl same ↦ subst (λ x. NotPast x c) (sym same) then
  | inr up ↦ elim then [ inl same ↦ inr (subst (λ x. rank a < rank x) same up) | inr more ↦ inr (omega (arith, up, more)) ]
]

pub NotPast-later : (n old new : ℕ) → NotPast n old → rank old < rank new → NotPast n new
NotPast-later n old new past up = elim past [
  | inl same ↦ inr (subst (λ x. rank x < rank new) (sym same) up)
  | inr below ↦ inr (omega (arith, below, up))
]

pub NotPast-rank : (a b : ℕ) → NotPast a b → rank a ≤ rank b
NotPast-rank a b past = elim past [ inl same ↦ subst (λ x. rank a ≤ rank x) same (omega arith) | inr up ↦ omega (arith, up) ]

pub NotPast-upper : (n w : ℕ) → NotPast n w → n / 4294967296 ≤ w / 4294967296
NotPast-upper n w past = elim past [
  | inl same ↦ subst (λ x. n / 4294967296 ≤ x / 4294967296) same (omega arith)
  | inr below ↦ grind (arith, below)
]

-- one word becomes a later one
pub NotPast-set : (words : List ℕ) (j word i n : ℕ) → j < length words → rank (get_or words j 0) < rank word → NotPast n (get_or words i 0) → NotPast n (get_or (set words j word) i 0)
NotPast-set words j word i n inside up past = elim (cases_eq i j) [
  | inl same ↦
      subst (λ x. NotPast n (get_or (set words j word) x 0)) (sym same)
      (subst (NotPast n) (sym (get_or-set_same words j word 0 inside)) (NotPast-later n (get_or words j 0) word (subst (λ x. NotPast n (get_or words x 0)) same past) up))
  | inr other ↦ subst (NotPast n) (sym (get_or-set_other words j i word 0 other)) past
]

-- words of slots and channels stay where the position's word changes
pub NotPast-position : (words : List ℕ) (word i n : ℕ) → 0 < i → NotPast n (get_or words i 0) → NotPast n (get_or (set words 0 word) i 0)
NotPast-position words word i n positive past = subst (NotPast n) (sym (get_or-set_other words 0 i word 0 (λ same. omega arith))) past
