-- Numbers in eight places, written one after another, and client channels at their places by card channel.
use Rattle.std.proofs.Common.{◌≡◌, ℕ, ◌+◌, ◌-◌, ◌<◌, ◌≤◌, List, [], ◌∷◌, ◌++◌, ◌∙◌, ap, refl, sym, subst, suc, arith, inl, inr, length, get_or, set, take}
use Rattle.std.proofs.Math.Seq.{set-append_seam, take-append_seam, take-suc}
use Rattle.std.proofs.Math.Numerals.{add-one}
use Rattle.std.proofs.Math.ListN.{get_or-append}
use Rattle.std.proofs.lemmas.Bool.{cases_eq, cases_lt}
use Rattle.std.proofs.lemmas.List.{take_all, append_assoc, ext_get_or, get_or-append_right, get_or-replicate, get_or-set_other, get_or-set_same, length-take, length-append, length-replicate, length-set}
use Rattle.bindings.specs.Bound.{AreBindings, count_below, in_eight_places, rising, zeros}
use Rattle.bindings.specs.RisingLaws.{length-rising, rising-place, rising-rises, rising-within}

zeros-some : (n : ℕ) → n < 8 → zeros (8 - n) ≡ 0 ∷ zeros (8 - (n + 1))
zeros-some n h =
    let e : 8 - n ≡ suc (8 - (n + 1)) = omega arith in
    ap zeros e

-- one number more
pub padded-push : (list : List ℕ) (n y : ℕ) → length list ≡ n → n < 8 → set (in_eight_places list) n y ≡ in_eight_places (list ++ y ∷ [])
padded-push list n y is within =
    let low : length list < 8 = omega arith in
    let more : length (list ++ y ∷ []) ≡ length list + 1 = omega (arith, length-append list (y ∷ [])) in
    ap (λ k. set (in_eight_places list) k y) (sym is)
    ∙ ap (λ zs. set (list ++ zs) (length list) y) (zeros-some (length list) low)
    ∙ set-append_seam list 0 (zeros (8 - (length list + 1))) y
    ∙ ap (λ (k : ℕ). list ++ y ∷ zeros (8 - k)) (sym more)
    ∙ sym (append_assoc list (y ∷ []) (zeros (8 - length (list ++ y ∷ []))))

-- the first numbers of a list, and the next
pub padded-take : (list places : List ℕ) (n y : ℕ) → n < length list → n < 8 → y ≡ get_or list n 0 → places ≡ in_eight_places (take n list) → set places n y ≡ in_eight_places (take (n + 1) list)
padded-take list places n y within low is before =
    let count : length (take n list) ≡ n = omega (arith, length-take n list) in
    ap (λ ps. set ps n y) before ∙ padded-push (take n list) n y count low
    ∙ ap (λ x. in_eight_places (take n list ++ x ∷ [])) is
    ∙ ap in_eight_places (sym (ap (λ k. take k list) (add-one n) ∙ take-suc list n 0 within))

pub slice_index-padded : (list : List ℕ) (n : ℕ) → n < length list → get_or (in_eight_places list) n 0 ≡ get_or list n 0
slice_index-padded list n within = get_or-append list (zeros (8 - length list)) 0 n within

pub take-padded : (list : List ℕ) → take (length list) (in_eight_places list) ≡ list
take-padded list = take-append_seam list (zeros (8 - length list))

-- as many of the first places as a whole list was written to
pub take-all : (list places : List ℕ) (n : ℕ) → n ≡ length list → places ≡ in_eight_places (take n list) → take (length list) places ≡ list
take-all list places n all is =
    ap (take (length list)) (is ∙ ap in_eight_places (ap (λ k. take k list) all ∙ take_all (length list) list (omega arith))) ∙ take-padded list

pub length-padded : (list : List ℕ) → length list ≤ 8 → length (in_eight_places list) ≡ 8
length-padded list few = omega (arith, length-append list (zeros (8 - length list)), length-replicate {A = ℕ} (8 - length list) 0)

-- after the list
pub slice_index-zeros : (list : List ℕ) (n : ℕ) → length list ≤ n → n < 8 → get_or (in_eight_places list) n 0 ≡ 0
slice_index-zeros list n past within =
    get_or-append_right list (zeros (8 - length list)) (length list) n 0 refl past ∙ get_or-replicate (8 - length list) (n - length list) 0 0 (omega arith)

-- 8 places that hold each client channel at its place by card channel, and zeros after the list
pub record IsPlaced (list places : List ℕ) (n : ℕ) : Type 0 where
  pub length_is : length places ≡ 8
  pub placed : (client : ℕ) → client < n → get_or places (count_below list (get_or list client 0)) 0 ≡ client
  pub behind : (place : ℕ) → length list ≤ place → place < 8 → get_or places place 0 ≡ 0

-- a client channel's place is one of as many as there are bindings
pub place-within : (list : List ℕ) (client : ℕ) → AreBindings list → client < length list → count_below list (get_or list client 0) < length list
place-within list client are within = (rising-place list client are within).0

-- no two client channels have one place
place-distinct : (list : List ℕ) (i j : ℕ) → AreBindings list → i < length list → j < length list → count_below list (get_or list i 0) ≡ count_below list (get_or list j 0) → i ≡ j
place-distinct list i j are here there same =
    sym (rising-place list i are here).1 ∙ ap (λ n. get_or (rising list) n 0) same ∙ (rising-place list j are there).1

-- one client channel more
pub IsPlaced-more : (list places : List ℕ) (n : ℕ) → AreBindings list → n < length list → IsPlaced list places n → IsPlaced list (set places (count_below list (get_or list n 0)) n) (n + 1)
IsPlaced-more list places n are within before =
    let at = count_below list (get_or list n 0) in
    let low : at < length list = place-within list n are within in
    record {
      length_is = length-set places at n ∙ before.length_is;
      placed = λ client h. elim (cases_eq client n) [
        | inl same ↦ subst (λ k. get_or (set places at n) (count_below list (get_or list k 0)) 0 ≡ k) (sym same) (get_or-set_same places at n 0 (omega (arith, before.length_is, are.most)))
        | inr other ↦
            get_or-set_other places at (count_below list (get_or list client 0)) n 0 (λ same. other (place-distinct list client n are (omega arith) within same))
            ∙ before.placed client (omega arith)
      ];
      behind = λ place past inside. get_or-set_other places at place n 0 (omega arith) ∙ before.behind place past inside;
    }

-- the place of a client channel in the rising order
place-rising : (list : List ℕ) (k : ℕ) → AreBindings list → k < length list → count_below list (get_or list (get_or (rising list) k 0) 0) ≡ k
place-rising list k are within =
    let client = get_or (rising list) k 0 in
    let at = rising-place list client are (rising-within list k are within) in
    elim (cases_lt (count_below list (get_or list client 0)) k) [
      | inl low ↦ absurd (omega (arith, rising-rises list (count_below list (get_or list client 0)) k are low within, ap (λ c. get_or list c 0) at.1))
      | inr high ↦ elim (cases_eq (count_below list (get_or list client 0)) k) [
        | inl same ↦ same
        | inr other ↦ absurd (omega (arith, rising-rises list k (count_below list (get_or list client 0)) are (omega arith) at.0, ap (λ c. get_or list c 0) at.1))
      ]
    ]

-- all of them are the rising order
pub IsPlaced-all : (list places : List ℕ) (n : ℕ) → AreBindings list → n ≡ length list → IsPlaced list places n → places ≡ in_eight_places (rising list)
IsPlaced-all list places n are all is =
    let many : length (rising list) ≡ length list = length-rising list are in
    ext_get_or 0 places (in_eight_places (rising list)) (is.length_is ∙ sym (length-padded (rising list) (omega (arith, many, are.most))))
    (λ k within. elim (cases_lt k (length list)) [
      | inl low ↦
          ap (λ p. get_or places p 0) (sym (place-rising list k are low)) ∙ is.placed (get_or (rising list) k 0) (omega (arith, rising-within list k are low))
          ∙ sym (slice_index-padded (rising list) k (omega (arith, many)))
      | inr high ↦
          is.behind k high (omega (arith, is.length_is)) ∙ sym (slice_index-zeros (rising list) k (omega (arith, many)) (omega (arith, is.length_is)))
    ])
