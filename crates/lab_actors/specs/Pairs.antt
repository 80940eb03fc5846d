-- The items of two lists in pairs, each item with the gate of its number, and what a call of a function leaves of each pair.
use Rattle.std.specs.Prelude.{◌≡◌, ℕ, ◌+◌, ◌^◌, ◌<◌, ◌≤◌, List, [], ◌∷◌, length, slice_index_or}
use Rattle.std.specs.Borrow.{MutBor}
use denote.Param.Members.{Shared}
use Rattle.std.proofs.Common.{arith, subst}
use Rattle.lab_actors.specs.Walks.{AreEach, AreEach-from}

-- each pair is in a relation, which knows its number, to the pair that became of it; the gates beyond the items are as before
pub record AreChanged {S G : Type 0} (R : ℕ → S → G → S → G → Type 0) (xs ys : List S) (gs hs : List G) : Type 0 where
  pub len : length ys ≡ length xs
  pub gates_len : length hs ≡ length gs
  pub each : (i : ℕ) (d : S) (e : G) → i < length xs → R i (slice_index_or xs i d) (slice_index_or gs i e) (slice_index_or ys i d) (slice_index_or hs i e)
  pub beyond : (i : ℕ) (e : G) → length xs ≤ i → slice_index_or hs i e ≡ slice_index_or gs i e

-- the items alone, in a relation that follows from that of the pairs
pub AreEach-changed : {S G : Type 0} (R : ℕ → S → G → S → G → Type 0) (T : ℕ → S → S → Type 0) (xs ys : List S) (gs hs : List G) → length xs ≤ length gs → AreChanged R xs ys gs hs
    → ((i : ℕ) (d : S) (e : G) → i < length xs → R i (slice_index_or xs i d) (slice_index_or gs i e) (slice_index_or ys i d) (slice_index_or hs i e)
    → T i (slice_index_or xs i d) (slice_index_or ys i d)) → AreEach T 0 xs ys
AreEach-changed R T xs ys [] hs long are then = AreEach-from T 0 xs ys are.len (λ i d inside. absurd (omega (arith, long, inside)))
AreEach-changed R T xs ys (g ∷ gs) hs long are then = AreEach-from T 0 xs ys are.len
    (λ i d inside. subst (λ k. T k (slice_index_or xs i d) (slice_index_or ys i d)) {x = i} (omega arith) (then i d g inside (are.each i d g inside)))

module _ {F S G : Type 0} (fn : Shared F (ℕ × (MutBor S × (MutBor G × Unit {0}))) ((Unit {0}) × (MutBor S × (MutBor G × Unit {0})))) (f : F) where
  -- the function may be called with a number and a pair
  abbrev pub AcceptsPair : ℕ → S → G → Type 0
  AcceptsPair i x g = (p : MutBor S) (q : MutBor G) → p.now ≡ x → q.now ≡ g → fn.pre f (i, (p, (q, tt)))

  -- the function may be called with each pair of two lists
  abbrev pub AcceptsPairs : List S → List G → Type 0
  AcceptsPairs xs gs = (i : ℕ) (p : MutBor S) (q : MutBor G) → i < length xs → p.now ≡ slice_index_or xs i p.now → q.now ≡ slice_index_or gs i q.now
      → fn.pre f (i, (p, (q, tt)))

  -- the function may be called with each pair of two lists, the first of which has a number
  pub record IsReadyFrom (base : ℕ) (xs : List S) (gs : List G) : Type 0 where
    pub some : 0 < length xs
    pub long : length xs ≤ length gs
    pub room : base + length xs < 2 ^ 64
    pub accepts : (i : ℕ) (p : MutBor S) (q : MutBor G) → i < length xs → p.now ≡ slice_index_or xs i p.now → q.now ≡ slice_index_or gs i q.now
        → fn.pre f (base + i, (p, (q, tt)))

  -- a call of the function with a number and a pair may leave another pair
  pub record ChangesPair (i : ℕ) (x : S) (g : G) (y : S) (h : G) : Type 0 where
    pub item : MutBor S
    pub gate : MutBor G
    pub item_is : item.now ≡ x
    pub gate_is : gate.now ≡ g
    pub item_after : MutBor S
    pub gate_after : MutBor G
    pub call : fn.post f (i, (item, (gate, tt))) (tt, (item_after, (gate_after, tt)))
    pub item_left : item_after.now ≡ y
    pub gate_left : gate_after.now ≡ h

  -- each pair is what a call with its number left
  abbrev pub ChangesPairs : List S → List S → List G → List G → Type 0
  ChangesPairs = AreChanged ChangesPair

  -- each pair is what a call with its number left, where the first pair has a number
  abbrev pub ChangesFrom : ℕ → List S → List S → List G → List G → Type 0
  ChangesFrom base = AreChanged (λ i. ChangesPair (base + i))

  -- what each call leaves holds of the pair
  pub ChangesPair-holds : (T : S → G → S → G → Type 0) (i : ℕ) (x : S) (g : G) (y : S) (h : G)
      → ((p : MutBor S) (q : MutBor G) (p' : MutBor S) (q' : MutBor G) → fn.post f (i, (p, (q, tt))) (tt, (p', (q', tt))) → T p.now q.now p'.now q'.now)
      → ChangesPair i x g y h → T x g y h
  ChangesPair-holds T i x g y h then pair =
      subst (λ z. T z g y h) pair.item_is
      (subst (λ z. T pair.item.now z y h) pair.gate_is
      (subst (λ z. T pair.item.now pair.gate.now z h) pair.item_left
      (subst (λ z. T pair.item.now pair.gate.now pair.item_after.now z) pair.gate_left
      (then pair.item pair.gate pair.item_after pair.gate_after pair.call))))
