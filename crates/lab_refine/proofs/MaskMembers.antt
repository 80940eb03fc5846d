-- The members of a mask, one after the other.
use Rattle.lab_refine.specs.Prelude.{add-one, ap, append_assoc, arith, Bool, cond, false, filter, List, refl, suc, sym, true, zero, ℕ, [], ◌++◌, ◌+◌, ◌∙◌, ◌∷◌}
use Rattle.lab_refine.specs.Prelude.{◌≡◌, append-nil, filter-append}
use Rattle.std.specs.Fmt.{decimal}
use Rattle.std.specs.List.{range_with_len}
use Rattle.pcm_interval.specs.declared.mask.Mask.{Mask}
use Rattle.lab_refine.specs.Values.{has_member, is_nil, mask_text, members_below, next_number, numbers_text}

-- one number more
range_with_len-suc : (a n : ℕ) → range_with_len a (suc n) ≡ range_with_len a n ++ (a + n) ∷ []
range_with_len-suc a zero = ap (λ k. k ∷ []) (omega arith)
range_with_len-suc a (suc n) =
    ap (λ ks. a ∷ ks) (range_with_len-suc (a + 1) n ∙ ap (λ k. range_with_len (a + 1) n ++ k ∷ []) (omega arith))

-- the members below the next number
members_below-more : (mask : Mask) (n : ℕ)
    → members_below mask (n + 1) ≡ members_below mask n ++ filter (has_member mask) (n ∷ [])
unfolding members_below
members_below-more mask n =
    ap (λ k. members_below mask k) (add-one n)
    ∙ ap (filter (has_member mask)) (range_with_len-suc 0 n ∙ ap (λ k. range_with_len 0 n ++ k ∷ []) (omega arith))
    ∙ filter-append (has_member mask) (range_with_len 0 n) (n ∷ [])

-- a number that is a member
pub members_below-member : (mask : Mask) (n : ℕ)
    → has_member mask n ≡ true → members_below mask (n + 1) ≡ members_below mask n ++ n ∷ []
members_below-member mask n e = members_below-more mask n ∙ ap (λ b. members_below mask n ++ cond b (n ∷ []) []) e

-- a number that isn't
pub members_below-other : (mask : Mask) (n : ℕ) → has_member mask n ≡ false → members_below mask (n + 1) ≡ members_below mask n
members_below-other mask n e =
    members_below-more mask n ∙ ap (λ b. members_below mask n ++ cond b (n ∷ []) []) e ∙ append-nil (members_below mask n)

-- the text of one number more
pub numbers_text-more : (numbers : List ℕ) (n : ℕ)
    → numbers_text (numbers ++ n ∷ []) ≡ numbers_text numbers ++ next_number (is_nil numbers) n
numbers_text-more [] n = refl
numbers_text-more (k ∷ []) n = refl
numbers_text-more (k ∷ m ∷ numbers) n =
    ap (λ t. decimal k ++ 44 ∷ t) (numbers_text-more (m ∷ numbers) n)
    ∙ sym (append_assoc (decimal k) (44 ∷ numbers_text (m ∷ numbers)) (next_number false n))

-- a list with an element more isn't empty
pub is_nil-more : (numbers : List ℕ) (n : ℕ) → is_nil (numbers ++ n ∷ []) ≡ false
is_nil-more [] n = refl
is_nil-more (k ∷ numbers) n = refl

-- the members below a number are appended to a text
pub record Listing (mask : Mask) (before now : List ℕ) (first : Bool) (n : ℕ) : Type 0 where
  pub is_text : now ≡ before ++ numbers_text (members_below mask n)
  pub begins : first ≡ is_nil (members_below mask n)

-- none so far
pub Listing-none : (mask : Mask) (text : List ℕ) → Listing mask text text true 0
unfolding members_below
Listing-none mask text = record { is_text = sym (append-nil text); begins = refl }

-- a member more
pub Listing-member : (mask : Mask) (before now after : List ℕ) (first : Bool) (n : ℕ)
    → Listing mask before now first n → true ≡ has_member mask n → after ≡ now ++ next_number first n
    → Listing mask before after false (n + 1)
Listing-member mask before now after first n so_far is put =
    let members = members_below-member mask n (sym is) in
    record {
      is_text = rw (put, so_far.is_text, members, numbers_text-more (members_below mask n) n, so_far.begins) (append_assoc before (numbers_text (members_below mask n)) (next_number (is_nil (members_below mask n)) n));
      begins = rw (members, is_nil-more (members_below mask n) n) refl;
    }

-- a number that isn't one
pub Listing-other : (mask : Mask) (before now : List ℕ) (first : Bool) (n : ℕ)
    → Listing mask before now first n → false ≡ has_member mask n → Listing mask before now first (n + 1)
Listing-other mask before now first n so_far is =
    let members = members_below-other mask n (sym is) in
    record { is_text = rw members so_far.is_text; begins = rw members so_far.begins }

-- all that a mask can have
pub Listing-all : (mask : Mask) (before now : List ℕ) (first : Bool) (n : ℕ)
    → Listing mask before now first n → n ≡ 64 → now ≡ before ++ mask_text mask
Listing-all mask before now first n so_far is = so_far.is_text ∙ ap (λ k. before ++ numbers_text (members_below mask k)) is
