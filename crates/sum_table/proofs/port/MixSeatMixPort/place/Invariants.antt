use Rattle.sum_table.proofs.port.MixSeatMixPort.place.Given as goal

abbrev pub ghosts-place_at : goal.ghosts-place_at
ghosts-place_at g a = record { name = a.blank.name; parts = a.blank.parts }
