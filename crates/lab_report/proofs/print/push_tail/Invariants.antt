-- The lines so far follow the text.
use Rattle.lab_report.specs.Prelude.{string_bytes, take, ◌++◌, ◌≡◌, flat_map, run_line, segment_line}
use Rattle.lab_report.proofs.print.push_tail.Given as goal

abbrev pub invariant-loop-client : goal.invariant-loop-client
invariant-loop-client l =
    string_bytes l.text ≡ string_bytes l.fn.text ++ flat_map (segment_line l.script) (take l.client-index l.client-items)

abbrev pub invariant-loop-reader : goal.invariant-loop-reader
invariant-loop-reader l =
    string_bytes l.text ≡ string_bytes l.initial.text ++ flat_map (run_line l.script) (take l.reader-index l.reader-items)
