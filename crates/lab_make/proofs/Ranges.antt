-- The number that digits mean, where it is in a range.
use Rattle.lab_make.specs.Prelude.{ap, arith, Bool, cond, false, List, nat_le, None, refl, Some, sym, true, ℕ, ◌&&◌, ◌∙◌, ◌≡◌, ◌≤◌, nat_tests, is_numeral}
use Rattle.lab_make.specs.Prelude.{number_between, number_in}
use Rattle.std.specs.Str.Parse.{digits_value}
use Rattle.text_words.proofs.Within.{within-some}
use Rattle.text_words.specs.Word as word

-- digits mean a number of a range
number_in-digits : (least most : ℕ) (digits : List ℕ) → is_numeral digits ≡ true → number_in least most digits ≡ number_between least most (digits_value 10 digits)
unfolding number_in
number_in-digits least most digits is = ap (λ t. cond t (number_between least most (digits_value 10 digits)) None) is

-- what is above a number is above a smaller one
above : (n most limit : ℕ) → nat_le n limit ≡ false → most ≤ limit → nat_le n most ≡ false
above n most limit e h = grind (arith, nat_tests)

and-false : (b : Bool) → (b && false) ≡ false
and-false true = refl
and-false false = refl

-- a number of more than 64 bits is in no range of such numbers
number_between-wide : (least most n : ℕ) (t : Bool) → nat_le n 18446744073709551615 ≡ t → None ≡ cond t (Some n) None → most ≤ 18446744073709551615 → None ≡ number_between least most n
number_between-wide least most n t e none h = grind (arith, nat_tests)

-- digits of a number of more than 64 bits
pub number_in-wide : (least most : ℕ) (digits : List ℕ) → is_numeral digits ≡ true → None ≡ word.within 18446744073709551615 (digits_value 10 digits)
    → most ≤ 18446744073709551615 → None ≡ number_in least most digits
number_in-wide least most digits is none h =
    number_between-wide least most (digits_value 10 digits) (nat_le (digits_value 10 digits) 18446744073709551615) refl none h ∙ sym (number_in-digits least most digits is)

-- digits of a number of 64 bits
pub number_in-value : (least most value : ℕ) (digits : List ℕ) → is_numeral digits ≡ true → Some value ≡ word.within 18446744073709551615 (digits_value 10 digits)
    → number_between least most value ≡ number_in least most digits
number_in-value least most value digits is some =
    ap (number_between least most) (within-some 18446744073709551615 (digits_value 10 digits) value some) ∙ sym (number_in-digits least most digits is)
