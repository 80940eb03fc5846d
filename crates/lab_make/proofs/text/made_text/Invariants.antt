-- The lines so far are those of the first clients, of the first openings and of the first turns.
use Rattle.lab_make.specs.Prelude.{map, string_bytes, ◌++◌, ◌≡◌, flat_map, range_with_len, lines_text, client_words, open_words, turn_lines}
use Rattle.lab_make.proofs.text.made_text.Given as goal

abbrev pub invariant-loop-client : goal.invariant-loop-client
invariant-loop-client l = string_bytes l.text ≡ string_bytes l.initial.text ++ lines_text (map client_words (range_with_len 0 l.client-counter))

abbrev pub invariant-loop-opened : goal.invariant-loop-opened
invariant-loop-opened l = string_bytes l.text ≡ string_bytes l.initial.text ++ lines_text (map open_words (range_with_len 0 l.opened-counter))

abbrev pub invariant-loop-turn : goal.invariant-loop-turn
invariant-loop-turn l = string_bytes l.text ≡ string_bytes l.initial.text ++ lines_text (flat_map (turn_lines l.clients) (range_with_len 1 l.turn))
