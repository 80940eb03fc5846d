-- Pairs of two lists that are split in two: what holds of both parts holds of the whole.
use Rattle.lab_actors.specs.Prelude.{add-zero, ap, arith, inl, inr, length, List, refl, subst, sym, ℕ, ◌++◌, ◌+◌, ◌<◌, ◌∙◌, ◌≡◌, ◌≤◌, get_or-append-add}
use Rattle.lab_actors.specs.Prelude.{get_or-set_other, get_or-set_same, get_or_append_left, get_or_default, length-append, length-set, slice_index_or}
use Rattle.lab_actors.specs.Prelude.{slice_set, ◌-◌, AreChanged, ChangesFrom, ChangesPair, ChangesPairs, IsReadyFrom}
use Rattle.std.proofs.lemmas.Bool.{cases_lt}
use Rattle.std.specs.Borrow.{MutBor}
use denote.Param.Members.{Shared}

-- one pair became another
pub AreChanged-one : {S G : Type 0} (R : ℕ → S → G → S → G → Type 0) (xs : List S) (gs : List G) (y : S) (h : G) → length xs ≡ 1 → 0 < length gs
    → ((d : S) (e : G) → R 0 (slice_index_or xs 0 d) (slice_index_or gs 0 e) y h) → AreChanged R xs (slice_set xs 0 y) gs (slice_set gs 0 h)
AreChanged-one R xs gs y h one some is = record {
  len = length-set xs 0 y;
  gates_len = length-set gs 0 h;
  each = λ i d e inside. let first : 0 ≡ i = omega (arith, inside, one) in
      rw (sym first, get_or-set_same xs 0 y d (omega (arith, one)), get_or-set_same gs 0 h e some) (is d e);
  beyond = λ i e from. get_or-set_other gs 0 i h e (λ is. omega (arith, from, one, is));
}

-- an item after the seam
get_or-behind : {X : Type 0} (us vs : List X) (n i : ℕ) (d : X) → length us ≡ n → n ≤ i → slice_index_or (us ++ vs) i d ≡ slice_index_or vs (i - n) d
get_or-behind us vs n i d is from = ap (λ k. slice_index_or (us ++ vs) k d) (omega (arith, is, from)) ∙ get_or-append-add us vs (i - n) d

-- the pairs of two parts
pub AreChanged-append : {S G : Type 0} (R : ℕ → S → G → S → G → Type 0) (xs xs' ys ys' : List S) (gs gs' hs hs' : List G) → length gs ≡ length xs
    → AreChanged R xs ys gs hs → AreChanged (λ i. R (length xs + i)) xs' ys' gs' hs' → AreChanged R (xs ++ xs') (ys ++ ys') (gs ++ gs') (hs ++ hs')
AreChanged-append {S = S} {G = G} R xs xs' ys ys' gs gs' hs hs' even low high =
    let n = length xs in
    let len : length ys ≡ n = low.len in
    let gates_len : length hs ≡ n = low.gates_len ∙ even in
    record {
      len = omega (arith, length-append xs xs', length-append ys ys', len, high.len);
      gates_len = omega (arith, length-append gs gs', length-append hs hs', even, gates_len, high.gates_len);
      each = λ i d e inside. elim (cases_lt i n) [
        | inl below ↦
            rw (
              get_or_append_left xs xs' d i below,
              get_or_append_left gs gs' e i (omega (arith, below, even)),
              get_or_append_left ys ys' d i (omega (arith, below, len)),
              get_or_append_left hs hs' e i (omega (arith, below, gates_len)),
            ) (low.each i d e below)
        | inr from ↦ let k = i - n in let is : n + k ≡ i = omega (arith, from) in
            rw (get_or-behind xs xs' n i d refl from, get_or-behind gs gs' n i e even from, get_or-behind ys ys' n i d len from, get_or-behind hs hs' n i e gates_len from)
            (subst (λ j. R j (slice_index_or xs' k d) (slice_index_or gs' k e) (slice_index_or ys' k d) (slice_index_or hs' k e)) is (high.each k d e (omega (arith, inside, from, length-append xs xs'))))
      ];
      beyond = λ i e from.
          let past : n ≤ i = omega (arith, from, length-append xs xs') in
          get_or-behind hs hs' n i e gates_len past ∙ high.beyond (i - n) e (omega (arith, from, length-append xs xs')) ∙ sym (get_or-behind gs gs' n i e even past);
    }

-- a relation that follows from another, pair by pair
pub AreChanged-map : {S G : Type 0} (R T : ℕ → S → G → S → G → Type 0) (xs ys : List S) (gs hs : List G)
    → ((i : ℕ) (x : S) (g : G) (y : S) (h : G) → R i x g y h → T i x g y h) → AreChanged R xs ys gs hs → AreChanged T xs ys gs hs
AreChanged-map R T xs ys gs hs then are = record {
  len = are.len;
  gates_len = are.gates_len;
  each = λ i d e inside. then i (slice_index_or xs i d) (slice_index_or gs i e) (slice_index_or ys i d) (slice_index_or hs i e) (are.each i d e inside);
  beyond = are.beyond;
}

module _ {F S G : Type 0} (fn : Shared F (ℕ × (MutBor S × (MutBor G × Unit {0}))) ((Unit {0}) × (MutBor S × (MutBor G × Unit {0})))) (f : F) where
  -- both parts are ready
  pub IsReadyFrom-append : (base : ℕ) (xs xs' : List S) (gs gs' : List G) → 0 < length xs → 0 < length xs' → length gs ≡ length xs
      → IsReadyFrom fn f base (xs ++ xs') (gs ++ gs') → IsReadyFrom fn f base xs gs × IsReadyFrom fn f (base + length xs) xs' gs'
  IsReadyFrom-append base xs xs' gs gs' some some' even ready =
      let n = length xs in
      let len = length-append xs xs' in
      let long = ready.long in
      let room = ready.room in
      let gates_len = length-append gs gs' in (
        record {
          some = some;
          long = omega (arith, even);
          room = omega (arith, room, len);
          accepts = λ i p q inside item gate. ready.accepts i p q (omega (arith, inside, len))
              (item ∙ sym (get_or_append_left xs xs' p.now i inside)) (gate ∙ sym (get_or_append_left gs gs' q.now i (omega (arith, inside, even))));
        },
        record {
          some = some';
          long = omega (arith, long, len, gates_len, even);
          room = omega (arith, room, len);
          accepts = λ i p q inside item gate.
              let at : slice_index_or (gs ++ gs') (n + i) q.now ≡ slice_index_or gs' i q.now =
              ap (λ k. slice_index_or (gs ++ gs') (k + i) q.now) (sym even) ∙ get_or-append-add gs gs' i q.now in
              subst (λ k. fn.pre f (k, (p, (q, tt)))) {x = base + (n + i)} (omega arith)
              (ready.accepts (n + i) p q (omega (arith, inside, len)) (item ∙ sym (get_or-append-add xs xs' i p.now)) (gate ∙ sym at));
        },
      )

  -- one pair became what a call left of it
  pub ChangesFrom-one : (base : ℕ) (xs : List S) (gs : List G) (d : S) (e : G) (y : S) (h : G) → length xs ≡ 1 → 0 < length gs
      → ChangesPair fn f base (slice_index_or xs 0 d) (slice_index_or gs 0 e) y h → ChangesFrom fn f base xs (slice_set xs 0 y) gs (slice_set gs 0 h)
  ChangesFrom-one base xs gs d e y h one some is = AreChanged-one (λ i. ChangesPair fn f (base + i)) xs gs y h one some
      (λ d' e'. rw (add-zero base, sym (get_or_default xs 0 d d' (omega (arith, one))), sym (get_or_default gs 0 e e' some)) is)

  -- both parts became what calls left of them
  pub ChangesFrom-append : (base : ℕ) (xs xs' ys ys' : List S) (gs gs' hs hs' : List G) → length gs ≡ length xs
      → ChangesFrom fn f base xs ys gs hs → ChangesFrom fn f (base + length xs) xs' ys' gs' hs' → ChangesFrom fn f base (xs ++ xs') (ys ++ ys') (gs ++ gs') (hs ++ hs')
  ChangesFrom-append base xs xs' ys ys' gs gs' hs hs' even low high =
      AreChanged-append (λ i. ChangesPair fn f (base + i)) xs xs' ys ys' gs gs' hs hs' even low
      (AreChanged-map (λ i. ChangesPair fn f (base + length xs + i)) (λ i. ChangesPair fn f (base + (length xs + i))) xs' ys' gs' hs'
      (λ i x g y h. subst (λ k. ChangesPair fn f k x g y h) (omega arith)) high)

  -- the first pair has the number 0
  pub ChangesFrom-zero : (xs ys : List S) (gs hs : List G) → ChangesFrom fn f 0 xs ys gs hs → ChangesPairs fn f xs ys gs hs
  ChangesFrom-zero xs ys gs hs =
      AreChanged-map (λ i. ChangesPair fn f (0 + i)) (ChangesPair fn f) xs ys gs hs (λ i x g y h. subst (λ k. ChangesPair fn f k x g y h) (omega arith))
