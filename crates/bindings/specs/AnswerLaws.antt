-- Laws of the answer to a list of card channels: where it is the list itself, no entry has a defect.
use Rattle.std.specs.Prelude.{◌≡◌, ◌==◌, ℕ, ◌+◌, ◌<◌, ◌≤◌, Bool, true, false, nat_le, nat_lt, if◌then◌else◌, All, List, [], ◌∷◌, length, take, Option, Some, None, Ok, Err}
use Rattle.std.specs.List.{cons_option, filter_map, list_any, range_with_len}
use Rattle.std.proofs.Common.{eq-eqb, suc, zero, get_or, refl, sym, ap, subst, ◌∙◌, arith, zero-add}
use Rattle.std.proofs.lemmas.Bool.Decides.{nat_tests}
use Rattle.std.proofs.lemmas.List.{get_or-take, get_or_default, length-take}
use Rattle.std.proofs.lemmas.List.Folds.{list_any-from_Any}
use Rattle.snd_base.specs.declared.errors.Why.{Why}
use Rattle.snd_base.specs.declared.errors.Why.TheVariants.{BindingsEmpty, BindingsTooMany, BindingRange, BindingTwice}
use Rattle.bindings.specs.Answers.{answer_of, entry_defect, entry_defects, or_first}
use Rattle.bindings.specs.Bound.{AreBindings}

-- where a list of options has no entry that is there, none of the options is
filter_map-nothing : (f : ℕ → Option Why) (a n : ℕ) → filter_map f (range_with_len a n) ≡ [] → (k : ℕ) → k < n → f (a + k) ≡ None
filter_map-nothing f a zero none k within = absurd (omega arith)
filter_map-nothing f a (suc n) none k within = by_first (f a) refl none (λ nothing j h. filter_map-nothing f (a + 1) n nothing j h)
  where
    by_place : f a ≡ None → ((j : ℕ) → j < n → f (a + 1 + j) ≡ None) → (k : ℕ) → k < suc n → f (a + k) ≡ None
    by_place is more zero h = let at : a + 0 ≡ a = omega arith in ap f at ∙ is
    by_place is more (suc j) h = let at : a + suc j ≡ a + 1 + j = omega arith in ap f at ∙ more j (omega (arith, h))

    by_first : (o : Option Why) → f a ≡ o → cons_option o (filter_map f (range_with_len (a + 1) n)) ≡ []
        → (filter_map f (range_with_len (a + 1) n) ≡ [] → (j : ℕ) → j < n → f (a + 1 + j) ≡ None) → f (a + k) ≡ None
    by_first (Some why) is nothing more = absurd (cc)
    by_first None is nothing more = by_place is (more nothing) k within

or_first-nothing : (list : List ℕ) (defects : List Why) → or_first list defects ≡ Ok list → defects ≡ []
or_first-nothing list [] is = refl
or_first-nothing list (why ∷ later) is = absurd (cc)

-- an entry without a defect is below the card's channels, and did not come earlier
pub entry_defect-None : (list : List ℕ) (card_channels k : ℕ) → entry_defect list card_channels k ≡ None
    → (get_or list k 0 < card_channels) × (list_any (λ bound. bound == get_or list k 0) (take k list) ≡ false)
entry_defect-None list card_channels k none = cases (nat_le card_channels (get_or list k 0)) (list_any (λ bound. bound == get_or list k 0) (take k list)) refl refl none
  where
    cases : (out twice : Bool) → nat_le card_channels (get_or list k 0) ≡ out → list_any (λ bound. bound == get_or list k 0) (take k list) ≡ twice
        → (if out then Some (BindingRange (get_or list k 0)) else (if twice then Some (BindingTwice (get_or list k 0)) else None)) ≡ None
        → (get_or list k 0 < card_channels) × (list_any (λ bound. bound == get_or list k 0) (take k list) ≡ false)
    cases true twice is_out is_twice none = absurd (cc)
    cases false true is_out is_twice none = absurd (cc)
    cases false false is_out is_twice none = (grind (arith, nat_tests), is_twice)

-- entries without a defect are bindings
pub AreBindings-none : (list : List ℕ) (card_channels : ℕ) → (length list == 0) ≡ false → length list ≤ 8 → card_channels ≤ 256
    → ((k : ℕ) → k < length list → entry_defect list card_channels k ≡ None) → AreBindings list
AreBindings-none list card_channels some few low none = record {
  some = grind (arith, nat_tests);
  most = few;
  below = λ k d within. subst (λ x. x < 256) (get_or_default list k 0 d within) (omega (arith, (entry_defect-None list card_channels k (none k within)).0));
  distinct = λ i j before within same.
      let at : list_any (λ bound. bound == get_or list j 0) (take j list) ≡ false = (entry_defect-None list card_channels j (none j within)).1 in
      let here : i < length (take j list) = omega (arith, length-take j list) in
      let is : get_or (take j list) i 0 ≡ get_or list i 0 = get_or-take j list i 0 before in
      let twice : list_any (λ bound. bound == get_or list j 0) (take j list) ≡ true =
      list_any-from_Any (λ bound. bound == get_or list j 0) (take j list)
      (i, get_or (take j list) i 0, here, get_or_default (take j list) i (get_or (take j list) i 0) 0 here, eq-eqb (get_or (take j list) i 0) (get_or list j 0) (is ∙ same)) in
      absurd (cc (twice, at));
}

-- and all are below the card's channels
pub All-below : (list : List ℕ) (card_channels : ℕ) → ((k : ℕ) → k < length list → entry_defect list card_channels k ≡ None) → All (λ channel. channel < card_channels) list
All-below list card_channels none = λ k d within. subst (λ x. x < card_channels) (get_or_default list k 0 d within) ((entry_defect-None list card_channels k (none k within)).0)

-- a list of 1 to 8 entries, none of which has a defect
pub record HasNoDefect (list : List ℕ) (card_channels : ℕ) : Type 0 where
  pub some : (length list == 0) ≡ false
  pub most : length list ≤ 8
  pub none : (k : ℕ) → k < length list → entry_defect list card_channels k ≡ None

-- so is a list that is answered by itself
pub answer_of-Ok : (list : List ℕ) (card_channels : ℕ) → answer_of list card_channels ≡ Ok list → HasNoDefect list card_channels
answer_of-Ok list card_channels is = by_tests (length list == 0) refl (nat_lt 8 (length list)) refl is
  where
    by_tests : (empty : Bool) → (length list == 0) ≡ empty → (many : Bool) → nat_lt 8 (length list) ≡ many
        → (if empty then Err BindingsEmpty else (if many then Err BindingsTooMany else or_first list (entry_defects list card_channels))) ≡ Ok list → HasNoDefect list card_channels
    by_tests true is_empty many is_many answer = absurd (cc)
    by_tests false is_empty true is_many answer = absurd (cc)
    by_tests false is_empty false is_many answer = record {
      some = is_empty;
      most = grind (arith, nat_tests);
      none = λ k within. ap (entry_defect list card_channels) (sym (zero-add k))
          ∙ filter_map-nothing (entry_defect list card_channels) 0 (length list) (or_first-nothing list (entry_defects list card_channels) answer) k within;
    }

-- it is bindings of a card of at most 256 channels
pub AreBindings-answered : (list : List ℕ) (card_channels : ℕ) → card_channels ≤ 256 → answer_of list card_channels ≡ Ok list → AreBindings list
AreBindings-answered list card_channels low is =
    let has = answer_of-Ok list card_channels is in AreBindings-none list card_channels has.some has.most low has.none

-- and all are below the card's channels
pub All-below-answered : (list : List ℕ) (card_channels : ℕ) → answer_of list card_channels ≡ Ok list → All (λ channel. channel < card_channels) list
All-below-answered list card_channels is = All-below list card_channels (answer_of-Ok list card_channels is).none
