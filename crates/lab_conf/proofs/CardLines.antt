-- A device's card line is a whole script.
use Rattle.std.proofs.Common.{◌≡◌, ◌≤◌, ℕ, false, List, [], ◌∷◌, ◌++◌, length, cond, nat_lt, refl, ap, ◌∙◌, arith, append_assoc, length-append}
use Rattle.std.specs.Prelude.{codes, Err}
use Rattle.std.specs.Fmt.{decimal}
use Rattle.std.proofs.lemmas.Bool.Decides.{nat_tests}
use Rattle.std.proofs.lemmas.Fmt.{length-decimal-le}
use Rattle.asound_conf.specs.declared.plugin.Device.{Device}
use Rattle.asound_conf.specs.Device.{IsCard}
use Rattle.asound_conf.specs.Text.{card_line}
use Rattle.lab_script.specs.declared.error.ScriptWhy.TheVariants as why
use Rattle.lab_script.specs.Draft.{card_alone}
use Rattle.lab_script.specs.Reading.{after, on_line, refusal_at, script_at, script_of_lines}
use Rattle.text_words.specs.Lexing.{line_text, word_lines}
use Rattle.text_words.proofs.Decimals.{is_plain_word-decimal, number_of_word-decimal}
use Rattle.text_words.proofs.PlainLines.{word_lines-line_text}
use Rattle.lab_conf.specs.Described.{IsScriptText, card_script}
use Rattle.lab_conf.proofs.CardWords.{AreNumerals, card_line-words, words_with}

-- the words of a device's card line
abbrev card_words : Device → List (List ℕ)
card_words d = words_with (decimal d.channels) (decimal d.rate) (decimal d.period) (decimal d.ring)

-- four words, each with its number, and an end
regrouped : (a channels b rate c period e ring end : List ℕ)
    → (a ++ channels) ++ (b ++ rate) ++ (c ++ period) ++ (e ++ ring) ++ end ≡ (a ++ (channels ++ (b ++ (rate ++ (c ++ (period ++ (e ++ ring))))))) ++ end
regrouped a channels b rate c period e ring end = simp append_assoc

-- a device's card line is the line of its words
card_line-card_words : (d : Device) → card_line d ≡ line_text (card_words d)
card_line-card_words d = regrouped (codes "card channels ") (decimal d.channels) (codes " rate ") (decimal d.rate) (codes " period ") (decimal d.period) (codes " ring ") (decimal d.ring) (10 ∷ [])

-- a device's card line has its words on the first line
word_lines-card_line : (d : Device) → IsCard d.channels d.rate d.period d.ring → word_lines (card_line d) ≡ (1, card_words d) ∷ []
word_lines-card_line d card =
    let channels = is_plain_word-decimal d.channels (omega (arith, card.channels_high)) in
    let rate = is_plain_word-decimal d.rate (omega (arith, card.rate_high)) in
    let period = is_plain_word-decimal d.period (omega (arith, card.period_twice, card.ring_high)) in
    let ring = is_plain_word-decimal d.ring (omega (arith, card.ring_high)) in
    ap word_lines (card_line-card_words d)
    ∙ word_lines-line_text (card_words d) (rw (channels, rate, period, ring) refl)

-- a number of a card has at most six digits
length-decimal-few : (n : ℕ) → n ≤ 192000 → length (decimal n) ≤ 6
length-decimal-few n small = length-decimal-le 6 n (omega arith) (omega arith) (omega arith)

-- a device's card line is short
length-card_line : (d : Device) → IsCard d.channels d.rate d.period d.ring → length (card_line d) ≤ 1048576
length-card_line d card =
    let channels = length-decimal-few d.channels (omega (arith, card.channels_high)) in
    let rate = length-decimal-few d.rate card.rate_high in
    let period = length-decimal-few d.period (omega (arith, card.period_twice, card.ring_high)) in
    let ring = length-decimal-few d.ring (omega (arith, card.ring_high)) in
    simp length-append (omega (arith, channels, rate, period, ring))

-- a device's card line is a whole script
pub IsScriptText-card : (d : Device) → IsCard d.channels d.rate d.period d.ring → IsScriptText (card_line d) (card_script d)
IsScriptText-card d card =
    let text = card_line d in
    let size = length-card_line d card in
    let fits : nat_lt 1048576 (length text) ≡ false = grind (arith, nat_tests, size) in
    let numerals : AreNumerals (decimal d.channels) (decimal d.rate) (decimal d.period) (decimal d.ring) d.channels d.rate d.period d.ring = record {
      is_channels = number_of_word-decimal d.channels (omega (arith, card.channels_high));
      is_rate = number_of_word-decimal d.rate (omega (arith, card.rate_high));
      is_period = number_of_word-decimal d.period (omega (arith, card.period_twice, card.ring_high));
      is_ring = number_of_word-decimal d.ring (omega (arith, card.ring_high));
    } in
    ap (λ t. cond t (Err (refusal_at 0 why.TooLong)) (script_of_lines (word_lines text))) fits
    ∙ ap script_of_lines (word_lines-card_line d card)
    ∙ ap (λ card. on_line 1 card (λ made. script_at (after (card_alone made) [])))
    (card_line-words (decimal d.channels) (decimal d.rate) (decimal d.period) (decimal d.ring) d.channels d.rate d.period d.ring numerals card)
