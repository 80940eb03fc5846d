-- The numbered values of a group, and the bindings that they are.
use Rattle.asound_conf.specs.Prelude.{ap, arith, Err, false, inl, inr, length, length-append, List, min, None, Option, refl, set, Some, suc, sym, take, true}
use Rattle.asound_conf.specs.Prelude.{zero, ℕ, [], ◌++◌, ◌+◌, ◌<◌, ◌∙◌, ◌∷◌, ◌≡◌, ◌≤◌, cases_lt, nat_tests, length-take-le, take-append-le, take_all, decimal}
use Rattle.asound_conf.specs.Prelude.{nat_lt, option_map, ◌==◌, bindings_in, bound, number_of_node, numbered_values, value_more, Entries, get}
use Rattle.snd_base.specs.declared.errors.Why.TheVariants.{BindingsTooMany}
use Rattle.bindings.specs.Answers.{answer_of}
use Rattle.std.proofs.lemmas.List as lists

-- the first values, of which at most nine are kept
pub record AreFirst (g : Entries) (n : ℕ) (kept : List ℕ) : Type 0 where
  pub list : List ℕ
  pub are : numbered_values g n ≡ Some list
  pub count : length list ≡ n
  pub front : take (min n 9) kept ≡ take 9 list

pub AreFirst-none : (g : Entries) (kept : List ℕ) → AreFirst g 0 kept
unfolding numbered_values
AreFirst-none g kept = record { list = []; are = refl; count = refl; front = refl }

more-are : (g : Entries) (n value : ℕ) (list : List ℕ) → numbered_values g n ≡ Some list → number_of_node (get (decimal n) g) ≡ Some value → numbered_values g (suc n) ≡ Some (list ++ value ∷ [])
unfolding numbered_values
more-are g n value list are is = rw (are, is) refl

-- one value more, which is kept
pub AreFirst-kept : (g : Entries) (n value : ℕ) (kept : List ℕ) → AreFirst g n kept → number_of_node (get (decimal n) g) ≡ Some value → n < 9 → length kept ≡ 9 → AreFirst g (n + 1) (set kept n value)
AreFirst-kept g n value kept first is low size =
    let next : suc n ≡ n + 1 = omega arith in
    let few : min n 9 ≡ n = omega arith in
    let fewer : min (n + 1) 9 ≡ n + 1 = omega arith in
    let front : take n kept ≡ first.list = ap (λ k. take k kept) (sym few) ∙ first.front ∙ take_all 9 first.list (omega (arith, first.count)) in
    let within : n < length kept = omega arith in
    record {
      list = first.list ++ value ∷ [];
      are = ap (numbered_values g) (sym next) ∙ more-are g n value first.list first.are is;
      count = omega (arith, length-append first.list (value ∷ []), first.count);
      front = ap (λ k. take k (set kept n value)) fewer ∙ lists.take_more_set kept n value within ∙ ap (λ l. l ++ value ∷ []) front ∙ sym (take_all 9 (first.list ++ value ∷ []) (omega (arith, length-append first.list (value ∷ []), first.count)));
    }

-- one value more, which isn't
pub AreFirst-more : (g : Entries) (n value : ℕ) (kept : List ℕ) → AreFirst g n kept → number_of_node (get (decimal n) g) ≡ Some value → 9 ≤ n → AreFirst g (n + 1) kept
AreFirst-more g n value kept first is high =
    let next : suc n ≡ n + 1 = omega arith in
    let many : min n 9 ≡ min (n + 1) 9 = omega arith in
    record {
      list = first.list ++ value ∷ [];
      are = ap (numbered_values g) (sym next) ∙ more-are g n value first.list first.are is;
      count = omega (arith, length-append first.list (value ∷ []), first.count);
      front = ap (λ k. take k kept) (sym many) ∙ first.front ∙ sym (take-append-le 9 first.list (value ∷ []) (omega (arith, first.count)));
    }

-- where one value is none, there are none
pub numbered_values-None : (g : Entries) (n m : ℕ) → number_of_node (get (decimal n) g) ≡ None → n < m → numbered_values g m ≡ None
unfolding numbered_values
numbered_values-None g n zero none below = absurd (omega arith)
numbered_values-None g n (suc m) none below = elim (cases_lt n m) [
  | inl low ↦ ap (λ o. value_more o (number_of_node (get (decimal m) g))) (numbered_values-None g n m none low)
  | inr high ↦
      let last : m ≡ n = omega arith in
      let is : number_of_node (get (decimal m) g) ≡ None = ap (λ k. number_of_node (get (decimal k) g)) last ∙ none in
      ap (value_more (numbered_values g m)) is ∙ value_more-None (numbered_values g m)
]
  where
    value_more-None : (o : Option (List ℕ)) → value_more o None ≡ None
    value_more-None (Some list) = refl
    value_more-None None = refl

-- nine entries are as good as more: too many
pub answer_of-take : (list : List ℕ) (channels : ℕ) → answer_of (take 9 list) channels ≡ answer_of list channels
answer_of-take list channels = elim (cases_lt (length list) 10) [
  | inl few ↦ ap (λ l. answer_of l channels) (take_all 9 list (omega arith))
  | inr many ↦
      let size : length (take 9 list) ≡ 9 = length-take-le 9 list (omega arith) in
      too_many (take 9 list) channels (omega (arith, size)) ∙ sym (too_many list channels (omega arith))
]
  where
    too_many : (l : List ℕ) (channels : ℕ) → 8 < length l → answer_of l channels ≡ Err BindingsTooMany
    too_many l channels many =
        let some : (length l == 0) ≡ false = grind (arith, nat_tests, many) in
        let more : nat_lt 8 (length l) ≡ true = grind (arith, nat_tests, many) in
        rw (some, more) refl

-- the bindings of nine values are those of all
pub bindings_in-take : (values : Option (List ℕ)) (kept : List ℕ) (channels : ℕ) → Some kept ≡ option_map (λ list. take 9 list) values → bound (answer_of kept channels) ≡ bindings_in values channels
bindings_in-take (Some list) kept channels same =
    let is : kept ≡ take 9 list = cc in
    ap bound (ap (λ l. answer_of l channels) is ∙ answer_of-take list channels)
bindings_in-take None kept channels same = cc
