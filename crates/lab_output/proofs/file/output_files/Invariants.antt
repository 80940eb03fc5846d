-- The files so far are those of the readers so far, behind the played one.
use Rattle.lab_output.specs.Prelude.{map, take, ◌++◌, ◌≡◌, recorded_file}
use Rattle.lab_output.proofs.file.output_files.Given as goal

abbrev pub invariant-loop-reader : goal.invariant-loop-reader
invariant-loop-reader l =
    l.files.items ≡ l.initial.files.items ++ map (recorded_file l.script.card l.out) (take l.reader-index l.reader-items)
