-- The lines of a report's rows from a number on.
use Rattle.lab_output.specs.Prelude.{ap, arith, drop, length, List, take, ℕ, ◌-◌, ◌≡◌, length-drop, take_all, flat_map, Row, Script, row_line, rows_text}

-- the lines of a slice of the rows from a number on
pub rows_text-slice : (script : Script) (from : ℕ) (rows : List Row)
    → flat_map (row_line script) (take (length rows - from) (drop from rows)) ≡ rows_text script from rows
rows_text-slice script from rows =
    ap (flat_map (row_line script)) (take_all (length rows - from) (drop from rows) (omega (arith, length-drop from rows)))
