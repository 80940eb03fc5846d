-- The ways from row to row down the parts of a key.
use Rattle.asound_conf.specs.Prelude.{ap, arith, cond, drop, inl, inr, length, List, None, refl, Some, subst, suc, sym, true, ℕ, [], ◌++◌, ◌-◌, ◌<◌, ◌∙◌, ◌∷◌}
use Rattle.asound_conf.specs.Prelude.{◌≡◌, ◌≤◌, bytes_eq, node_met, Alters, ConfRow, group_of, IsNode, node, row_at, get, group, group_in, IsKeyStep, IsWay}
use Rattle.asound_conf.specs.Key.{Part}
use Rattle.asound_conf.proofs.Below.{found_in, group_at, inner_group, with_group}
use Rattle.asound_conf.proofs.Groups.{at-IsNode, drop-after, get-IsNode, group-child}
use Rattle.asound_conf.proofs.Rows.{is_in-Some, reaches, reaches-at, reaches-self}
use Rattle.asound_conf.specs.Tree as tree

pub IsWay-le : (rows : List ConfRow) (p : ℕ) (path : List Part) (q : ℕ) → IsWay rows p path q → p ≤ q
IsWay-le rows p [] q way = omega arith
IsWay-le rows p (part ∷ path) q way =
    let rest : way.0 ≤ q = IsWay-le rows way.0 path q way.1.1 in
    let falls : p < way.0 = way.1.0.is_node.falls in
    omega arith

-- a part of a key meets the group to which it leads
pub met-IsKeyStep : (rows : List ConfRow) (p : ℕ) (part : Part) (n : ℕ) → IsKeyStep rows p part n → node_met part (group_of p rows) ≡ Some (group (group_of n rows))
met-IsKeyStep rows p part n step =
    ap (λ b. cond b None (get part.name (group_of p rows))) step.stays
    ∙ get-IsNode rows p part.name n step.is_node
    ∙ ap (λ v. Some (node v (group_of n rows))) step.is_group

pub group_at-IsWay : (rows : List ConfRow) (p : ℕ) (path : List Part) (q : ℕ) → IsWay rows p path q → group_at path (group_of p rows) ≡ Some (group_of q rows)
group_at-IsWay rows p [] q way = ap (λ n. Some (group_of n rows)) way
group_at-IsWay rows p (part ∷ path) q way =
    ap (λ m. found_in (inner_group m) (group_at path)) (met-IsKeyStep rows p part way.0 way.1.0) ∙ group_at-IsWay rows way.0 path q way.1.1

-- where a way leads is below where it begins
reaches-IsWay : (rows : List ConfRow) (p : ℕ) (path : List Part) (q : ℕ) → IsWay rows p path q → reaches q p (suc p) (drop (suc p) rows) ≡ true
reaches-IsWay rows p [] q way = subst (λ n. reaches q n (suc n) (drop (suc n) rows) ≡ true) (sym way) (reaches-self q (suc q) (drop (suc q) rows))
reaches-IsWay rows p (part ∷ path) q way =
    let n = way.0 in
    let is = way.1.0.is_node in
    reaches-at q p part.name n (suc p) (n - suc p) (drop (suc p) rows) (at-IsNode rows p part.name n is) (ap (reaches q n (suc n)) (drop-after rows p n is.falls) ∙ reaches-IsWay rows n path q way.1.1)

-- a change of the group at the end of a way changes the groups on the way
pub with_group-IsWay : (old new : List ConfRow) (p : ℕ) (path : List Part) (q : ℕ) → Alters q old new → IsWay old p path q → group_of p new ≡ with_group path (group_of q new) (group_of p old)
with_group-IsWay old new p [] q a way = ap (λ n. group_of n new) way
with_group-IsWay old new p (part ∷ path) q a way =
    let n = way.0 in
    let step = way.1.0 in
    let low : p < n = step.is_node.falls in
    let high : n ≤ q = IsWay-le old n path q way.1.1 in
    group-child q p part.name n old new a step.is_node step.is_group (λ same. omega arith) (reaches-IsWay old n path q way.1.1)
    ∙ ap (λ h. tree.set part.name (group h) (group_of p old)) (with_group-IsWay old new n path q a way.1.1)
    ∙ sym (ap (λ m. tree.set part.name (group (with_group path (group_of q new) (group_in m))) (group_of p old)) (met-IsKeyStep old p part n step))

-- a node of a group that doesn't change
row-kept : (q : ℕ) (old new : List ConfRow) (p n : ℕ) → Alters q old new → p < q → (row_at old n).parent ≡ Some p → row_at old n ≡ row_at new n
row-kept q old new p n a low there = elim (a.each n) [
  | inl same ↦ same
  | inr only ↦ let out = only.0 p (λ same. omega arith) in let inside = is_in-Some p (row_at old n).parent there in cc
]

row-was : (q : ℕ) (old new : List ConfRow) (p n : ℕ) → Alters q old new → p < q → (row_at new n).parent ≡ Some p → row_at old n ≡ row_at new n
row-was q old new p n a low there = elim (a.each n) [
  | inl same ↦ same
  | inr only ↦ let out = only.1 p (λ same. omega arith) in let inside = is_in-Some p (row_at new n).parent there in cc
]

IsNode-kept : (q : ℕ) (old new : List ConfRow) (p : ℕ) (name : List ℕ) (n : ℕ) → Alters q old new → p < q → IsNode old p name n → IsNode new p name n
IsNode-kept q old new p name n a low is =
    let same = row-kept q old new p n a low is.parent in
    let longer : length old ≤ length new = a.longer in
    let inside : n < length old = is.inside in
    record {
      inside = omega arith;
      parent = ap (λ (r : ConfRow). r.parent) (sym same) ∙ is.parent;
      named = ap (λ (r : ConfRow). r.name) (sym same) ∙ is.named;
      falls = is.falls;
      last = λ j later there. let was = row-was q old new p j a low there in ap (λ (r : ConfRow). bytes_eq r.name name) (sym was) ∙ is.last j later (ap (λ (r : ConfRow). r.parent) was ∙ there);
    }

-- a way to a group that doesn't come after the one that changes
pub IsWay-kept : (q : ℕ) (old new : List ConfRow) (p : ℕ) (path : List Part) (last : ℕ) → Alters q old new → last ≤ q → IsWay old p path last → IsWay new p path last
IsWay-kept q old new p [] last a early way = way
IsWay-kept q old new p (part ∷ path) last a early way =
    let n = way.0 in
    let step = way.1.0 in
    let low : p < n = step.is_node.falls in
    let high : n ≤ last = IsWay-le old n path last way.1.1 in
    let same = row-kept q old new p n a (omega arith) step.is_node.parent in
    (n, (record { stays = step.stays; is_node = IsNode-kept q old new p part.name n a (omega arith) step.is_node; is_group = ap (λ (r : ConfRow). r.value) (sym same) ∙ step.is_group }, IsWay-kept q old new n path last a early way.1.1))

-- a way that goes on
pub IsWay-more : (rows : List ConfRow) (p : ℕ) (path : List Part) (q : ℕ) (part : Part) (n : ℕ) → IsWay rows p path q → IsKeyStep rows q part n → IsWay rows p (path ++ part ∷ []) n
IsWay-more rows p [] q part n way step = (n, (subst (λ m. IsKeyStep rows m part n) (sym way) step, refl))
IsWay-more rows p (first ∷ path) q part n way step = (way.0, (way.1.0, IsWay-more rows way.0 path q part n way.1.1 step))
