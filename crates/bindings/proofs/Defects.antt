-- The first defect of a list, or none.
use Rattle.std.proofs.Common.{◌≡◌, ℕ, ◌+◌, ◌<◌, ◌≤◌, suc, zero, List, [], ◌∙◌, ap, refl, subst, arith, length}
use Rattle.std.proofs.lemmas.Bool.Decides.{nat_tests}
use Rattle.std.specs.Prelude.{◌==◌, Bool, true, false, nat_lt, if◌then◌else◌, Option, Some, None, Result, Ok, Err}
use Rattle.std.specs.List.{cons_option, filter_map, range_with_len}
use Rattle.snd_base.specs.declared.errors.Why.{Why}
use Rattle.snd_base.specs.declared.errors.Why.TheVariants.{BindingsEmpty, BindingsTooMany}
use Rattle.bindings.specs.Answers.{answer_of, entry_defect, entry_defects, or_first}

filter_map-none : (f : ℕ → Option Why) (a n : ℕ) → ((k : ℕ) → k < n → f (a + k) ≡ None) → filter_map f (range_with_len a n) ≡ []
filter_map-none f a zero none = refl
filter_map-none f a (suc n) none =
    ap (λ o. cons_option o (filter_map f (range_with_len (a + 1) n))) (subst (λ k. f k ≡ None) (omega arith) (none 0 (omega arith)))
    ∙ filter_map-none f (a + 1) n (λ k h. subst (λ j. f j ≡ None) (omega arith) (none (suc k) (omega arith)))

or_first-defect : (list : List ℕ) (f : ℕ → Option Why) (a n place : ℕ) (why : Why) → place < n
    → ((k : ℕ) → k < place → f (a + k) ≡ None) → f (a + place) ≡ Some why → or_first list (filter_map f (range_with_len a n)) ≡ Err why
or_first-defect list f a zero place why within none is = absurd (omega arith)
or_first-defect list f a (suc n) zero why within none is =
    ap (λ o. or_first list (cons_option o (filter_map f (range_with_len (a + 1) n)))) (subst (λ k. f k ≡ Some why) (omega arith) is)
or_first-defect list f a (suc n) (suc place) why within none is =
    ap (λ o. or_first list (cons_option o (filter_map f (range_with_len (a + 1) n)))) (subst (λ k. f k ≡ None) (omega arith) (none 0 (omega arith)))
    ∙ or_first-defect list f (a + 1) n place why (omega arith) (λ k h. subst (λ j. f j ≡ None) (omega arith) (none (suc k) (omega arith))) (subst (λ k. f k ≡ Some why) (omega arith) is)

-- no entry has a defect
pub or_first-none : (list : List ℕ) (card_channels : ℕ) → ((k : ℕ) → k < length list → entry_defect list card_channels k ≡ None) → or_first list (entry_defects list card_channels) ≡ Ok list
or_first-none list card_channels none =
    ap (or_first list) (filter_map-none (entry_defect list card_channels) 0 (length list) (λ k h. subst (λ j. entry_defect list card_channels j ≡ None) (omega arith) (none k h)))

-- the entry at a place has one, and none before it
pub or_first-some : (list : List ℕ) (card_channels place : ℕ) (why : Why) → place < length list
    → ((k : ℕ) → k < place → entry_defect list card_channels k ≡ None) → entry_defect list card_channels place ≡ Some why
    → or_first list (entry_defects list card_channels) ≡ Err why
or_first-some list card_channels place why within none is =
    or_first-defect list (entry_defect list card_channels) 0 (length list) place why within
    (λ k h. subst (λ j. entry_defect list card_channels j ≡ None) (omega arith) (none k h)) (subst (λ j. entry_defect list card_channels j ≡ Some why) (omega arith) is)

-- a list of 1 to 8 entries is answered by its entries
pub answer_of-entries : (list : List ℕ) (card_channels : ℕ) → (length list == 0) ≡ false → length list ≤ 8 → answer_of list card_channels ≡ or_first list (entry_defects list card_channels)
answer_of-entries list card_channels some few = answer_of_cases list (length list == 0) (nat_lt 8 (length list)) (or_first list (entry_defects list card_channels)) some (grind (arith, nat_tests))
  where
    answer_of_cases : (list : List ℕ) (empty many : Bool) (entries : Result (List ℕ) Why) → empty ≡ false → many ≡ false
        → (if empty then Err BindingsEmpty else (if many then Err BindingsTooMany else entries)) ≡ entries
    answer_of_cases list true many entries no_empty no_many = absurd (cc)
    answer_of_cases list false true entries no_empty no_many = absurd (cc)
    answer_of_cases list false false entries no_empty no_many = refl
