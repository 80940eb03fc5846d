-- The words of a card's line with its channels, rate, period and ring are read as this card.
use Rattle.std.proofs.Common.{◌≡◌, ◌≤◌, ◌%◌, ◌*◌, ◌/◌, ℕ, true, List, [], ◌∷◌, codes, Some, None, Ok, refl, arith}
use Rattle.std.proofs.lemmas.Bool.{le-leb}
use Rattle.std.proofs.lemmas.Bool.Decides.{nat_tests}
use Rattle.asound_conf.specs.Device.{IsCard}
use Rattle.lab_lines.specs.declared.script.Share.TheVariants as share
use Rattle.lab_script.specs.Draft.{card_of, divides}
use Rattle.lab_script.specs.Keys.{key_value}
use Rattle.lab_script.specs.Reading.{card_line}
use Rattle.text_words.specs.Word.{number_of_word}

-- the words of a card's line, with these words for its channels, rate, period and ring
abbrev pub words_with : (channels rate period ring : List ℕ) → List (List ℕ)
words_with channels rate period ring =
    codes "card" ∷ codes "channels" ∷ channels ∷ codes "rate" ∷ rate ∷ codes "period" ∷ period ∷ codes "ring" ∷ ring ∷ []

-- words are numerals of the numbers of a card
pub record AreNumerals (channels rate period ring : List ℕ) (c r p n : ℕ) : Type 0 where
  pub is_channels : number_of_word channels ≡ Some c
  pub is_rate : number_of_word rate ≡ Some r
  pub is_period : number_of_word period ≡ Some p
  pub is_ring : number_of_word ring ≡ Some n

-- a period that divides its ring at least twice
divides-card : (p n : ℕ) → 16 ≤ p → p * 2 ≤ n → n % p ≡ 0 → divides p n ≡ true
divides-card p n low twice whole =
    let half : p ≤ n / 2 = omega (arith, twice) in
    grind (arith, nat_tests, low, half, whole)

-- the card of such words, on the first line
pub card_line-words : (channels rate period ring : List ℕ) (c r p n : ℕ) → AreNumerals channels rate period ring c r p n → IsCard c r p n
    → card_line 1 (words_with channels rate period ring) ≡ Ok (record {
      number = 1;
      channels = c;
      rate = r;
      period = p;
      ring = n;
      places = 64;
      lap = 0;
      capture = None;
      share = share.Dmix;
    })
unfolding card_of key_value
card_line-words channels rate period ring c r p n are card = rw (
  are.is_channels,
  are.is_rate,
  are.is_period,
  are.is_ring,
  le-leb 1 c card.channels_low,
  le-leb c 8 card.channels_high,
  le-leb c 255 (omega (arith, card.channels_high)),
  le-leb 4000 r card.rate_low,
  le-leb r 192000 card.rate_high,
  le-leb r 4294967295 (omega (arith, card.rate_high)),
  le-leb 16 p card.period_low,
  le-leb p 9999999999999999999 (omega (arith, card.period_twice, card.ring_high)),
  le-leb 64 n card.ring_low,
  le-leb n 16384 card.ring_high,
  le-leb n 4294967295 (omega (arith, card.ring_high)),
  divides-card p n card.period_low card.period_twice card.period_divides,
) refl
