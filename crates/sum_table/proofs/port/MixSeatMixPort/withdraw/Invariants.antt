use Rattle.sum_table.proofs.port.MixSeatMixPort.withdraw.Given as goal

abbrev pub ghosts-withdraw_at : goal.ghosts-withdraw_at
ghosts-withdraw_at g a = record { name = a.blank.name; parts = a.blank.parts }
