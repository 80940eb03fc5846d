use Rattle.lab_readers.proofs.lines.ReaderActor.run_lines.Given as goal

abbrev pub ghosts-run_at : goal.ghosts-run_at
ghosts-run_at g a = record { name = a.blank.name; parts = a.blank.parts }
