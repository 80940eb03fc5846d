-- Distances round the boundary are differences of counts.
use Rattle.std.proofs.Common.{◌≡◌, ℕ, zero, ◌+◌, ◌-◌, ◌%◌, ◌^◌, ◌<◌, ◌≤◌, ◌∙◌, sym, ap, arith}
use Rattle.std.proofs.Math.Nat.{add-mod_right, mod-add-mod, mod-eq_of_lt, mod-lt}
use Rattle.ring_pointers.specs.Wrapped.{AreNear, distance}

-- between two counts that are taken modulo the boundary lies their difference, where it is below the boundary
pub distance-mod : (b m n d : ℕ) → zero < b → m + d ≡ n → d < b → distance b (m % b) n ≡ d
distance-mod b m n d positive difference below =
    let within : m % b < b = mod-lt m positive in
    let split : n + (b - m % b) ≡ m + (d + (b - m % b)) = omega arith in
    let back : m % b + (d + (b - m % b)) ≡ d + b = omega arith in
    ap (λ x. x % b) split ∙ sym (mod-add-mod m b (d + (b - m % b))) ∙ ap (λ x. x % b) back ∙ add-mod_right d b ∙ mod-eq_of_lt below

-- the other end may be a count that is taken modulo the boundary, and a number
pub distance-mod-add : (b m n k d : ℕ) → zero < b → m + d ≡ n + k → d < b → distance b (m % b) (n % b + k) ≡ d
distance-mod-add b m n k d positive difference below =
    let assoc : n % b + k + (b - m % b) ≡ n % b + (k + (b - m % b)) = omega arith in
    let group : n + (k + (b - m % b)) ≡ n + k + (b - m % b) = omega arith in
    ap (λ x. x % b) assoc ∙ mod-add-mod n b (k + (b - m % b)) ∙ ap (λ x. x % b) group ∙ distance-mod b m (n + k) d positive difference below

-- where two counts are near and the first, with a number of frames up to a buffer's size, is not before the second,
-- the pointers lie as far apart as the counts
pub distance-counts : (b h w k hw appl r : ℕ) → 2 ^ 61 ≤ b → k ≤ 65536 → AreNear h w → w ≤ h + k
    → hw ≡ h % b → appl ≡ w % b → r ≡ distance b appl (hw + k) → r ≡ h + k - w
distance-counts b h w k hw appl r least few near ahead hw_is appl_is r_is =
    let positive : zero < b = omega arith in
    let difference : w + (h + k - w) ≡ h + k = omega arith in
    let below : h + k - w < b = omega (arith, near.above) in
    r_is ∙ ap (λ x. distance b x (hw + k)) appl_is ∙ ap (λ x. distance b (w % b) (x + k)) hw_is ∙ distance-mod-add b w h k (h + k - w) positive difference below

-- the same where the first count itself is not before the second
pub distance-counts_alone : (b h w hw appl r : ℕ) → 2 ^ 61 ≤ b → AreNear h w → w ≤ h
    → hw ≡ h % b → appl ≡ w % b → r ≡ distance b appl hw → r ≡ h - w
distance-counts_alone b h w hw appl r least near ahead hw_is appl_is r_is =
    let none : hw + 0 ≡ hw = omega arith in
    let difference : h + 0 - w ≡ h - w = omega arith in
    distance-counts b h w 0 hw appl r least (omega arith) near (omega arith) hw_is appl_is (r_is ∙ ap (distance b appl) (sym none)) ∙ difference
