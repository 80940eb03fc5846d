-- The words of the card's position, and the position and the gone bit that each has.
use Rattle.std.specs.Prelude.{◌≡◌, ℕ, ◌+◌, ◌%◌, ◌<◌, Bool, true, false, nat_le, if◌then◌else◌}
use Rattle.std.proofs.Common.{arith}
use Rattle.std.proofs.lemmas.Bool.Decides.{nat_tests}

-- the word of a position: the position, raised by 2 ^ 63 where the card is gone
abbrev pub word_of : ℕ → Bool → ℕ
word_of position gone = if gone then position + 9223372036854775808 else position

-- the position that a word has
abbrev pub position_in : ℕ → ℕ
position_in w = w % 9223372036854775808

-- whether the card is gone, as a word has it
abbrev pub gone_in : ℕ → Bool
gone_in w = nat_le 9223372036854775808 w

-- the word of a position has this position and this gone bit
pub word_of-fields : (position : ℕ) (gone : Bool) → position < 9223372036854775808
    → (position_in (word_of position gone) ≡ position) × (gone_in (word_of position gone) ≡ gone)
word_of-fields position true low = (grind (arith, nat_tests), grind (arith, nat_tests))
word_of-fields position false low = (grind (arith, nat_tests), grind (arith, nat_tests))
