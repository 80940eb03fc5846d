-- The decimal text of a number is a word, a numeral of this number, and the only one without leading zeros.
use Rattle.text_words.specs.Prelude.{ap, arith, Bool, cond, false, get_or, length, List, nat_le, None, not, Option, refl, Some, suc, sym, true, zero, ℕ, []}
use Rattle.text_words.specs.Prelude.{◌&&◌, ◌<◌, ◌==◌, ◌^◌, ◌∙◌, ◌∷◌, ◌≡◌, ◌≤◌, false≢true, Decides-eqb, nat_tests, same_from_decides, is_ascii_digit}
use Rattle.text_words.specs.Prelude.{all_ascii_digits, bytes_eq, digits_value, decimal_of, is_decimal, is_number, lacks_leading_zero, number_of_word, within}
use Rattle.std.proofs.lemmas.Fmt.{decimal-digits_value, decimal_digit, decimal_nonempty, digits_decimal, digits_value-decimal, first_decimal, length-decimal-le}
use Rattle.std.proofs.lemmas.Slice.Eq.{bytes_eq-Decides}
use Rattle.std.specs.Fmt.{decimal}
use Rattle.text_words.proofs.Digits.{all_digits, own}
use Rattle.text_words.proofs.PlainLines.{is_plain_byte, is_plain_word}
use Rattle.text_words.proofs.Tests.{and_true, both, weaker}
use Rattle.text_words.proofs.Within.{within-fits, within-most, within-some}

-- a decimal text is a word
pub is_plain_word-decimal : (n : ℕ) → n < 2 ^ 63 → is_plain_word (decimal n) ≡ true
is_plain_word-decimal n small =
    let fits : n < 2 ^ 64 = omega arith in
    let some : 0 < length (decimal n) = decimal_nonempty n fits in
    let least : nat_le 1 (length (decimal n)) ≡ true = grind (arith, nat_tests, some) in
    let digits = all_digits (decimal n) ∙ digits_decimal own n fits in
    rw (least, weaker is_ascii_digit is_plain_byte (λ b e. grind (arith, nat_tests)) (decimal n) digits) refl

-- a decimal text is a numeral of its number
pub number_of_word-decimal : (n : ℕ) → n < 2 ^ 63 → number_of_word (decimal n) ≡ Some n
number_of_word-decimal n small =
    let fits : n < 2 ^ 64 = omega arith in
    let some : 0 < length (decimal n) = decimal_nonempty n fits in
    let most : length (decimal n) ≤ 19 = length-decimal-le 19 n (omega arith) (omega arith) fits in
    let digits : all_ascii_digits (decimal n) ≡ true = digits_decimal own n fits in
    let value : digits_value 10 (decimal n) ≡ n = digits_value-decimal own n fits in
    let passes : (nat_le 1 (length (decimal n)) && nat_le (length (decimal n)) 19 && all_ascii_digits (decimal n)) ≡ true = grind (arith, nat_tests, some, most, digits) in
    rw (passes, value) refl

-- digits of which the first is 0 only where it is alone
lacks_leading_zero-of : (ds : List ℕ) → 0 < length ds → (get_or ds 0 0 ≡ 48 → length ds ≡ 1) → lacks_leading_zero ds ≡ true
lacks_leading_zero-of [] some h = absurd (omega arith)
lacks_leading_zero-of (b ∷ []) some h = refl
lacks_leading_zero-of (b ∷ c ∷ bs) some h = plain_by b (length bs) (b == 48) refl h
  where
    plain_by : (b n : ℕ) (t : Bool) → (b == 48) ≡ t → (b ≡ 48 → suc (suc n) ≡ 1) → not t ≡ true
    plain_by b n true e h = absurd (let same : b ≡ 48 = grind (arith, nat_tests) in omega (arith, h same))
    plain_by b n false e h = refl

lacks_leading_zero-decimal : (n : ℕ) → n < 2 ^ 64 → lacks_leading_zero (decimal n) ≡ true
lacks_leading_zero-decimal zero h = rw (decimal_digit 0 (omega arith)) refl
lacks_leading_zero-decimal (suc n) h =
    lacks_leading_zero-of (decimal (suc n)) (decimal_nonempty (suc n) h) (λ e. absurd (omega (arith, first_decimal (suc n) (omega arith) h, e)))

-- a number's decimal form is read as the number
pub decimal_of-decimal : (most n : ℕ) → n ≤ most → n < 2 ^ 64 → decimal_of most (decimal n) ≡ Some n
decimal_of-decimal most n fits h =
    ap (λ t. cond t (within most (digits_value 10 (decimal n))) None) (and_true (lacks_leading_zero (decimal n)) (all_ascii_digits (decimal n)) (lacks_leading_zero-decimal n h) (digits_decimal own n h))
    ∙ ap (within most) (digits_value-decimal own n h)
    ∙ sym (within-fits most n fits)

lacks_leading_zero-some : (w : List ℕ) → lacks_leading_zero w ≡ true → 0 < length w
lacks_leading_zero-some [] e = absurd (cc)
lacks_leading_zero-some (b ∷ bs) e = omega arith

lacks_leading_zero-first : (w : List ℕ) → lacks_leading_zero w ≡ true → get_or w 0 0 ≡ 48 → length w ≡ 1
lacks_leading_zero-first [] e h = absurd (cc)
lacks_leading_zero-first (b ∷ []) e h = refl
lacks_leading_zero-first (b ∷ c ∷ bs) e h = absurd (not_zero b e h)
  where
    not_zero : (b : ℕ) → not (b == 48) ≡ true → b ≡ 48 → ⊥
    not_zero b e h = grind (arith, nat_tests)

decimal_by : (most n : ℕ) (w : List ℕ) (t : Bool) → most < 2 ^ 64 → is_decimal w ≡ t → cond t (within most (digits_value 10 w)) None ≡ Some n → w ≡ decimal n
decimal_by most n w true small t e =
    let parts = both (lacks_leading_zero w) (all_ascii_digits w) t in
    let same = within-some most (digits_value 10 w) n (sym e) in
    let fits = within-most most (digits_value 10 w) n (sym e) in
    sym (ap decimal same ∙ decimal-digits_value own w parts.1 (lacks_leading_zero-some w parts.0) (lacks_leading_zero-first w parts.0) (omega (arith, same, fits, small)))
decimal_by most n w false small t e = absurd (cc)

-- a word that is read as a number is its decimal form
pub decimal_of-is : (most n : ℕ) (w : List ℕ) → most < 2 ^ 64 → decimal_of most w ≡ Some n → w ≡ decimal n
decimal_of-is most n w small e = decimal_by most n w (is_decimal w) small refl e

decimal_of-own : (word : List ℕ) (n : ℕ) → n < 2 ^ 63 → word ≡ decimal n → decimal_of n word ≡ Some n
decimal_of-own word n small h = ap (decimal_of n) h ∙ decimal_of-decimal n n (omega arith) (omega arith)

-- a word is a number's decimal form where it is read as this number
pub bytes_eq-decimal : (word : List ℕ) (n : ℕ) → n < 2 ^ 63 → (o : Option ℕ) → o ≡ decimal_of n word → bytes_eq word (decimal n) ≡ is_number n o
bytes_eq-decimal word n small o e = same_from_decides (bytes_eq word (decimal n)) (is_number n o) (bytes_eq-Decides word (decimal n)) (is o e, has o e)
  where
    is : (p : Option ℕ) → p ≡ decimal_of n word → is_number n p ≡ true → word ≡ decimal n
    is None q h = absurd (false≢true h)
    is (Some m) q h = decimal_of-is n m word (omega arith) (sym q) ∙ ap decimal ((Decides-eqb m n).0 h)

    has : (p : Option ℕ) → p ≡ decimal_of n word → word ≡ decimal n → is_number n p ≡ true
    has None q h = let no : None ≡ Some n = q ∙ decimal_of-own word n small h in absurd (cc)
    has (Some m) q h =
        let held : Some m ≡ Some n = q ∙ decimal_of-own word n small h in
        let same : m ≡ n = cc in
        (Decides-eqb m n).1 same
