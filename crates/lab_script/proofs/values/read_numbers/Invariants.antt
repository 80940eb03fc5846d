use Rattle.lab_script.specs.Prelude.{length, [], ◌≡◌, numbers_from}
use Rattle.text_words.specs.Word.{parts_of}
use Rattle.lab_script.proofs.values.read_numbers.Given as goal

abbrev pub invariant-loop-part : goal.invariant-loop-part
invariant-loop-part l = numbers_from l.numbers.items (parts_of l.rest) ≡ numbers_from [] (parts_of l.fn.list)

abbrev pub decreases-loop-part : goal.decreases-loop-part
decreases-loop-part l = length l.rest
