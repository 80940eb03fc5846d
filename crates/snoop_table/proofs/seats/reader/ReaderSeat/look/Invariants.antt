use Rattle.snoop_table.proofs.seats.reader.ReaderSeat.look.Given as goal

abbrev pub ghosts-look_at : goal.ghosts-look_at
ghosts-look_at a = record { frame = a.frame; channel = a.channel }
