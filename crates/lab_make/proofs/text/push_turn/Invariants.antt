-- The lines so far are those of the first clients.
use Rattle.lab_make.specs.Prelude.{map, string_bytes, ◌++◌, ◌≡◌, range_with_len, lines_text, write_words}
use Rattle.lab_make.proofs.text.push_turn.Given as goal

abbrev pub invariant-loop-client : goal.invariant-loop-client
invariant-loop-client l =
    string_bytes l.text ≡ string_bytes l.initial.text ++ lines_text (map (write_words l.turn) (range_with_len 0 l.client-counter))
