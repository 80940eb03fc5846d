-- Decimal digits and the numbers that they are.
use Rattle.text_words.specs.Prelude.{ap, arith, get_or, length, List, refl, take, true, ℕ, [], ◌&&◌, ◌*◌, ◌+◌, ◌-◌, ◌<◌, ◌^◌, ◌∷◌, ◌≡◌, ◌≤◌, is_ascii_digit}
use Rattle.text_words.specs.Prelude.{list_all, all_ascii_digits, digits_value}
use Rattle.std.proofs.lemmas.Int.Digits.{digits_value_more}
use Rattle.std.proofs.lemmas.Str.{digit_value_digit}
use Rattle.std.proofs.lemmas.Str.Parse.{IsNumeralModel, numerals_by_value, tells_all_ascii_digits, digit_at, digits_value_short, digits_value-take-le}

-- digits, one by one
pub all_digits : (ds : List ℕ) → list_all is_ascii_digit ds ≡ all_ascii_digits ds
all_digits [] = refl
all_digits (d ∷ ds) = ap (λ b. is_ascii_digit d && b) (all_digits ds)

pub own : IsNumeralModel (λ ds. all_ascii_digits ds ≡ true) (digits_value 10)
own = numerals_by_value _ tells_all_ascii_digits

-- at most 19 digits are a number of 64 bits
pub digits_value-few : (ds : List ℕ) → all_ascii_digits ds ≡ true → length ds ≤ 19 → digits_value 10 ds < 10 ^ 19
digits_value-few ds e n = digits_value_short own ds 19 e n

-- one digit more of a numeral
pub record IsDigitMore (ds : List ℕ) (i : ℕ) : Type 0 where
  pub low : 48 ≤ get_or ds i 0
  pub high : get_or ds i 0 ≤ 57
  pub step : digits_value 10 (take (i + 1) ds) ≡ digits_value 10 (take i ds) * 10 + (get_or ds i 0 - 48)
  pub within : digits_value 10 (take (i + 1) ds) ≤ digits_value 10 ds

pub digit_more : (ds : List ℕ) (i : ℕ) → all_ascii_digits ds ≡ true → i < length ds → IsDigitMore ds i
digit_more ds i e h =
    let r = digit_at ds i (own.to ds e) h in
    let v = digit_value_digit (get_or ds i 0) r in
    let more = digits_value_more 10 ds i h in
    record {
      low = omega (arith, r);
      high = omega (arith, r);
      step = omega (arith, more, v);
      within = digits_value-take-le 10 ds (i + 1) (omega arith);
    }
