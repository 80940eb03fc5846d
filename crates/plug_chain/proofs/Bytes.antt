-- A number of 24 or 32 bits, rounded down, has the two high bytes.
use Rattle.plug_chain.specs.Prelude.{ap, arith, drop, get_or, inl, inr, length, List, negsuc, pos, refl, suc, sym, take, ℕ, [], ◌*◌, ◌+◌, ◌-◌, ◌/◌, ◌<◌, ◌^◌}
use Rattle.plug_chain.specs.Prelude.{◌∙◌, ◌∷◌, ◌≡◌, ◌≤◌, mul-le-mul_left, cases_lt, nat_tests, ints, div-mul-add, cast_signed, from_le_bytes, int_div_euclid}
use Rattle.plug_chain.specs.Prelude.{w16, low_first, signed_number}

-- a number of parts, and less than a part
div_parts : (unit m low n : ℕ) → low < unit → n ≡ low + unit * m → n / unit ≡ m
div_parts unit m low n within is = ap (λ (k : ℕ). k / unit) (let e : n ≡ m * unit + low = omega (arith, is) in e) ∙ div-mul-add m unit low within

-- its signed number, where it is low and where it is high
signed-low : (bits n : ℕ) → n < 2 ^ (bits - 1) → signed_number bits n ≡ pos n
signed-low bits n low = grind (arith, nat_tests)

signed-high : (bits n k : ℕ) → 2 ^ (bits - 1) ≤ n → n + suc k ≡ 2 ^ bits → signed_number bits n ≡ negsuc k
signed-high bits n k high is = grind (arith, nat_tests, ints)

-- the high part of a signed number
high_part : (bits unit m low : ℕ) → low < unit → unit * 32768 ≡ 2 ^ (bits - 1) → unit * 65536 ≡ 2 ^ bits → m < 65536
    → int_div_euclid (signed_number bits (low + unit * m)) (pos unit) ≡ signed_number 16 m
high_part bits unit m low within half whole below = elim (cases_lt m 32768) [
  | inl positive ↦
      let h : unit * suc m ≤ unit * 32768 = mul-le-mul_left unit positive in
      let n_low : low + unit * m < 2 ^ (bits - 1) = omega (arith, h, half) in
      ap (λ z. int_div_euclid z (pos unit)) (signed-low bits (low + unit * m) n_low)
      ∙ (ap pos (div_parts unit m low (low + unit * m) within refl)
      ∙ sym (signed-low 16 m (omega arith)))
  | inr negative ↦
      let h : unit * 32768 ≤ unit * m = mul-le-mul_left unit negative in
      let n_high : 2 ^ (bits - 1) ≤ low + unit * m = omega (arith, h, half) in
      let rest : ℕ = 65535 - m in
      let m_is : m + suc (65535 - m) ≡ 2 ^ 16 = omega arith in
      let product : unit * 65536 ≡ unit * (m + suc (65535 - m)) = ap (λ (k : ℕ). unit * k) (sym m_is) in
      let n_is : (low + unit * m) + suc (unit * (65535 - m) + (unit - 1 - low)) ≡ 2 ^ bits = omega (arith, product, whole) in
      let small : unit - 1 - low < unit = omega arith in
      ap (λ z. int_div_euclid z (pos unit)) (signed-high bits (low + unit * m) (unit * (65535 - m) + (unit - 1 - low)) n_high n_is)
      ∙ (ap negsuc (div_parts unit (65535 - m) (unit - 1 - low) (unit * (65535 - m) + (unit - 1 - low)) small (omega arith))
      ∙ sym (signed-high 16 m (65535 - m) (omega arith) m_is))
]

-- a sample of two bytes is their signed number
two_bytes : (b c : ℕ) → b < 256 → c < 256 → cast_signed w16 (from_le_bytes w16 (b ∷ c ∷ [])) ≡ signed_number 16 (b + 256 * c)
two_bytes b c b_in c_in = grind (arith, nat_tests, ints)

pub high_bytes-24 : (bytes : List ℕ) → length bytes ≡ 3 → ((i : ℕ) → get_or bytes i 0 < 256)
    → cast_signed w16 (from_le_bytes w16 (take (length bytes - 1) (drop 1 bytes))) ≡ int_div_euclid (signed_number 24 (low_first bytes)) (pos (2 ^ 8))
high_bytes-24 [] three fits = absurd (omega arith)
high_bytes-24 (a ∷ []) three fits = absurd (omega arith)
high_bytes-24 (a ∷ b ∷ []) three fits = absurd (omega arith)
high_bytes-24 (a ∷ b ∷ c ∷ []) three fits =
    let a_in : a < 256 = fits 0 in
    let b_in : b < 256 = fits 1 in
    let c_in : c < 256 = fits 2 in
    let below : b + 256 * c < 65536 = omega arith in
    two_bytes b c b_in c_in
    ∙ sym (ap (λ (n : ℕ). int_div_euclid (signed_number 24 n) (pos 256)) (let e : low_first (a ∷ b ∷ c ∷ []) ≡ a + 256 * (b + 256 * c) = omega arith in e) ∙ high_part 24 256 (b + 256 * c) a a_in refl refl below)
high_bytes-24 (a ∷ b ∷ c ∷ d ∷ bytes) three fits = absurd (omega arith)

pub high_bytes-32 : (bytes : List ℕ) → length bytes ≡ 4 → ((i : ℕ) → get_or bytes i 0 < 256)
    → cast_signed w16 (from_le_bytes w16 (take (length bytes - 2) (drop 2 bytes))) ≡ int_div_euclid (signed_number 32 (low_first bytes)) (pos (2 ^ 16))
high_bytes-32 [] four fits = absurd (omega arith)
high_bytes-32 (a ∷ []) four fits = absurd (omega arith)
high_bytes-32 (a ∷ b ∷ []) four fits = absurd (omega arith)
high_bytes-32 (a ∷ b ∷ c ∷ []) four fits = absurd (omega arith)
high_bytes-32 (a ∷ b ∷ c ∷ d ∷ []) four fits =
    let a_in : a < 256 = fits 0 in
    let b_in : b < 256 = fits 1 in
    let c_in : c < 256 = fits 2 in
    let d_in : d < 256 = fits 3 in
    let below : c + 256 * d < 65536 = omega arith in
    let low : a + 256 * b < 65536 = omega arith in
    two_bytes c d c_in d_in
    ∙ sym (ap (λ (n : ℕ). int_div_euclid (signed_number 32 n) (pos 65536)) (let e : low_first (a ∷ b ∷ c ∷ d ∷ []) ≡ (a + 256 * b) + 65536 * (c + 256 * d) = omega arith in e) ∙ high_part 32 65536 (c + 256 * d) (a + 256 * b) low refl refl below)
high_bytes-32 (a ∷ b ∷ c ∷ d ∷ e ∷ bytes) four fits = absurd (omega arith)
