-- Counts, sums and places of all views together, when one view changes or one more comes.
use Rattle.sum_table.specs.Prelude.{ap, append_assoc, arith, inl, inr, List, refl, set, subst, suc, sym, zero, ℕ, [], ◌*◌, ◌++◌, ◌+ℤ◌, ◌+◌, ◌∙◌, ◌∷◌, ◌≡◌, ◌≤◌}
use Rattle.sum_table.specs.Prelude.{cases_Bool, nat_tests, ints, append-nil, get_elem?, some, some-injective, some-ne-none, Entry, total-append, is_at, total}
use Rattle.sum_table.specs.Prelude.{View, all_laid, by_member, count, SameSums, total_places}
pub use Rattle.mix_core.specs.MarkLaws.{count-append}

-- one view changes
pub count_set : (views : List View) (id : ℕ) (v w : View) (f c : ℕ) → get_elem? views id ≡ some v
    → count (all_laid (set views id w)) f c + count v.laid f c ≡ count (all_laid views) f c + count w.laid f c
count_set [] id v w f c here = absurd (some-ne-none v (sym here))
count_set (x ∷ xs) zero v w f c here = rw (some-injective x v here) (omega (arith, count-append w.laid (all_laid xs) f c, count-append v.laid (all_laid xs) f c))
count_set (x ∷ xs) (suc id) v w f c here =
    omega (arith, count_set xs id v w f c here, count-append x.laid (all_laid (set xs id w)) f c, count-append x.laid (all_laid xs) f c)

pub total_set : (views : List View) (id : ℕ) (v w : View) (f c : ℕ) → get_elem? views id ≡ some v
    → total (all_laid (set views id w)) f c +ℤ total v.laid f c ≡ total (all_laid views) f c +ℤ total w.laid f c
total_set [] id v w f c here = absurd (some-ne-none v (sym here))
total_set (x ∷ xs) zero v w f c here = rw (some-injective x v here) (omega (arith, ints, total-append w.laid (all_laid xs) f c, total-append v.laid (all_laid xs) f c))
total_set (x ∷ xs) (suc id) v w f c here =
    omega (arith, ints, total_set xs id v w f c here, total-append x.laid (all_laid (set xs id w)) f c, total-append x.laid (all_laid xs) f c)

pub places_set : (views : List View) (id : ℕ) (v w : View) → get_elem? views id ≡ some v → total_places (set views id w) + v.places ≡ total_places views + w.places
places_set [] id v w here = absurd (some-ne-none v (sym here))
places_set (x ∷ xs) zero v w here = rw (some-injective x v here) (omega arith)
places_set (x ∷ xs) (suc id) v w here = omega (arith, places_set xs id v w here)

-- one more view comes
pub all_laid-more : (views : List View) (w : View) → all_laid (views ++ w ∷ []) ≡ all_laid views ++ w.laid
all_laid-more [] w = append-nil w.laid
all_laid-more (x ∷ xs) w = ap (λ es. x.laid ++ es) (all_laid-more xs w) ∙ sym (append_assoc x.laid (all_laid xs) w.laid)

pub total_places-more : (views : List View) (w : View) → total_places (views ++ w ∷ []) ≡ total_places views + w.places
total_places-more [] w = omega arith
total_places-more (x ∷ xs) w = omega (arith, total_places-more xs w)

pub places_within : (views : List View) (id : ℕ) (v : View) → get_elem? views id ≡ some v → v.places ≤ total_places views
places_within [] id v here = absurd (some-ne-none v (sym here))
places_within (x ∷ xs) zero v here = rw (some-injective x v here) (omega arith)
places_within (x ∷ xs) (suc id) v here = omega (arith, places_within xs id v here)

-- where no view has more than three entries at a frame and channel for each place, all together have no more
pub count_few : (views : List View) (f c : ℕ) → ((i : ℕ) (u : View) → get_elem? views i ≡ some u → count u.laid f c ≤ 3 * u.places) → count (all_laid views) f c ≤ 3 * total_places views
count_few [] f c few = omega arith
count_few (x ∷ xs) f c few = omega (arith, few 0 x refl, count_few xs f c (λ i u there. few (suc i) u there), count-append x.laid (all_laid xs) f c)

-- and where one view has fewer there, the others leave room for its places
pub count_room : (views : List View) (id : ℕ) (v : View) (f c : ℕ) → get_elem? views id ≡ some v
    → ((i : ℕ) (u : View) → get_elem? views i ≡ some u → count u.laid f c ≤ 3 * u.places)
    → count (all_laid views) f c + 3 * v.places ≤ 3 * total_places views + count v.laid f c
count_room [] id v f c here few = absurd (some-ne-none v (sym here))
count_room (x ∷ xs) zero v f c here few =
    rw (some-injective x v here) (omega (arith, count_few xs f c (λ i u there. few (suc i) u there), count-append v.laid (all_laid xs) f c))
count_room (x ∷ xs) (suc id) v f c here few =
    omega (arith, few 0 x refl, count_room xs id v f c here (λ i u there. few (suc i) u there), count-append x.laid (all_laid xs) f c)

-- views of equal lists of placed entries, and of equal places
pub SameSums-set : (views : List View) (id : ℕ) (v w : View) → get_elem? views id ≡ some v → w.laid ≡ v.laid → SameSums (all_laid views) (all_laid (set views id w))
SameSums-set views id v w here same = record {
  counts = λ f c. let own : count w.laid f c ≡ count v.laid f c = ap (λ es. count es f c) same in omega (arith, own, count_set views id v w f c here);
  totals = λ f c. let own : total w.laid f c ≡ total v.laid f c = ap (λ es. total es f c) same in omega (arith, ints, own, total_set views id v w f c here);
}

pub SameSums-joined : (xs ys zs : List Entry) → SameSums xs ys → SameSums ys zs → SameSums xs zs
SameSums-joined xs ys zs first then = grind (arith, nat_tests)

-- one view places one more entry
pub SameSums-put : (views : List View) (id : ℕ) (v w : View) (e : Entry) → get_elem? views id ≡ some v → w.laid ≡ v.laid ++ e ∷ [] → SameSums (all_laid views ++ e ∷ []) (all_laid (set views id w))
SameSums-put views id v w e here more = record {
  counts = λ f c.
      let one : count w.laid f c ≡ count v.laid f c + count (e ∷ []) f c = ap (λ es. count es f c) more ∙ count-append v.laid (e ∷ []) f c in
      omega (arith, one, count_set views id v w f c here, count-append (all_laid views) (e ∷ []) f c);
  totals = λ f c.
      let one : total w.laid f c ≡ total v.laid f c +ℤ total (e ∷ []) f c = ap (λ es. total es f c) more ∙ total-append v.laid (e ∷ []) f c in
      omega (arith, ints, one, total_set views id v w f c here, total-append (all_laid views) (e ∷ []) f c);
}

-- one more view, that placed nothing
pub SameSums-more : (views : List View) (w : View) → w.laid ≡ [] → SameSums (all_laid views) (all_laid (views ++ w ∷ []))
SameSums-more views w none =
    let same : all_laid (views ++ w ∷ []) ≡ all_laid views = all_laid-more views w ∙ (ap (λ es. all_laid views ++ es) none ∙ append-nil (all_laid views)) in
    subst (λ es. SameSums (all_laid views) es) (sym same) (record { counts = λ f c. refl; totals = λ f c. refl })

-- sums don't show who placed an entry
pub SameSums-by_member : (m : ℕ) (e : Entry) → SameSums (by_member m e ∷ []) (e ∷ [])
SameSums-by_member m e = grind (arith, nat_tests)
