use Rattle.text_words.specs.Prelude.{take, ◌≡◌, ◌≤◌, digits_value}
use Rattle.text_words.proofs.word.checked_value.Given as goal

abbrev pub invariant-loop-b : goal.invariant-loop-b
invariant-loop-b l = record { is : l.value ≡ digits_value 10 (take l.b-index l.word); most : l.value ≤ 18446744073709551615 }
