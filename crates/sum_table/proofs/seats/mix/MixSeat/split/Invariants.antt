use Rattle.sum_table.proofs.seats.mix.MixSeat.split.Given as goal

abbrev pub ghosts-cut : goal.ghosts-cut
ghosts-cut a = record { amount = a.places }
