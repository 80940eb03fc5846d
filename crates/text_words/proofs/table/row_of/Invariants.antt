use Rattle.std.proofs.Common.{◌≡◌, length, map}
use Rattle.text_words.specs.Table.{row_of}
use Rattle.text_words.proofs.table.row_of.Given as goal

abbrev pub invariant-loop-rest : goal.invariant-loop-rest
invariant-loop-rest g l =
    row_of (map (λ row. (row.0.now, row.1)) l.rest) l.word ≡ row_of (map (λ row. (row.0.now, row.1)) l.fn.rows) l.word

abbrev pub decreases-loop-rest : goal.decreases-loop-rest
decreases-loop-rest g l = length l.rest
