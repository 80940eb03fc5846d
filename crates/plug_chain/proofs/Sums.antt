-- Sums of weighted samples.
use Rattle.plug_chain.specs.Prelude.{arith, drop, FitsSigned, get_or, length, List, negsuc, pos, suc, ℕ, ℤ, ◌*◌, ◌+◌, ◌<◌, ◌≡◌, ◌≤◌, mul-le-mul, drop-cons}
use Rattle.plug_chain.specs.Prelude.{nat_tests, clamps, ints, int_max, int_min, saturate_signed, w16, w64, ◌*ℤ◌, ◌+ℤ◌, of_z, to_z, IsSumOf, IsWeight}
use Rattle.plug_chain.specs.Prelude.{weighted_sum}

pub IsSumOf-product : (w x : ℤ) → IsWeight w → FitsSigned w16 x → IsSumOf 1 (w *ℤ x)
IsSumOf-product (pos a) (pos b) weight fits = let g : a ≤ 65536 = omega (arith, ints) in let f : b ≤ 32768 = omega (arith, ints) in let h : a * b ≤ 65536 * 32768 = mul-le-mul g f in record { low = omega (arith, ints); high = omega (arith, ints) }
IsSumOf-product (pos a) (negsuc b) weight fits = let g : a ≤ 65536 = omega (arith, ints) in let f : suc b ≤ 32768 = omega (arith, ints) in let h : a * suc b ≤ 65536 * 32768 = mul-le-mul g f in record { low = omega (arith, ints); high = omega (arith, ints) }
IsSumOf-product (negsuc a) (pos b) weight fits = let g : suc a ≤ 65536 = omega (arith, ints) in let f : b ≤ 32768 = omega (arith, ints) in let h : suc a * b ≤ 65536 * 32768 = mul-le-mul g f in record { low = omega (arith, ints); high = omega (arith, ints) }
IsSumOf-product (negsuc a) (negsuc b) weight fits = let g : suc a ≤ 65536 = omega (arith, ints) in let f : suc b ≤ 32768 = omega (arith, ints) in let h : suc a * suc b ≤ 65536 * 32768 = mul-le-mul g f in record { low = omega (arith, ints); high = omega (arith, ints) }

pub IsSumOf-more : (n : ℕ) (z p : ℤ) → IsSumOf n z → IsSumOf 1 p → IsSumOf (n + 1) (z +ℤ p)
IsSumOf-more n z p sum product = record { low = omega (arith, ints); high = omega (arith, ints) }

pub FitsSigned-sum : (n : ℕ) (z : ℤ) → n ≤ 8 → IsSumOf n z → FitsSigned w64 z
FitsSigned-sum n z few sum = omega (arith, ints)

pub FitsSigned-product : (w x : ℤ) → IsWeight w → FitsSigned w16 x → FitsSigned w64 (w *ℤ x)
FitsSigned-product w x weight fits = FitsSigned-sum 1 (w *ℤ x) (omega arith) (IsSumOf-product w x weight fits)

-- a product, without the casts of its factors
pub product-is : (w x a b : ℤ) → IsWeight w → FitsSigned w16 x → a ≡ w → b ≡ x → to_z w64 (of_z w64 a) *ℤ to_z w64 (of_z w64 b) ≡ w *ℤ x
product-is w x a b weight fits first second = grind (arith, nat_tests)

-- one product more
pub weighted_sum-step : (i : ℕ) (ws xs : List ℤ) (s p all : ℤ) → i < length ws → length xs ≡ length ws → p ≡ get_or ws i (pos 0) *ℤ get_or xs i (pos 0)
    → s +ℤ weighted_sum (drop i ws) (drop i xs) ≡ all → (s +ℤ p) +ℤ weighted_sum (drop (i + 1) ws) (drop (i + 1) xs) ≡ all
weighted_sum-step i ws xs s p all within same is so_far =
    let within_too : i < length xs = omega arith in
    let next : i + 1 ≡ suc i = omega arith in
    let regroup : (s +ℤ p) +ℤ weighted_sum (drop (suc i) ws) (drop (suc i) xs) ≡ s +ℤ (p +ℤ weighted_sum (drop (suc i) ws) (drop (suc i) xs)) = omega (arith, ints) in
    rw (next, regroup, is) (rw (drop-cons ws i (pos 0) within, drop-cons xs i (pos 0) within_too) at so_far)

-- the number of 16 bits that is nearest
pub saturate_signed-is : (z : ℤ) → int_max (negsuc 32767) (int_min z (pos 32767)) ≡ saturate_signed w16 z
saturate_signed-is (pos n) = grind (arith, ints, clamps)
saturate_signed-is (negsuc n) = grind (arith, ints, clamps)
