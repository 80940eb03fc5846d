use Rattle.sum_table.proofs.Going.{ends_in_one}
use Rattle.ring_tests.proofs.tests.cards.mixing.place_and_withdraw.Goals as goal

pub withdraw-requires-clause-last : goal.withdraw-requires-clause-last
withdraw-requires-clause-last c = ends_in_one c.args.seat.now c.try_place.new.seat _ c.args.add.frame c.args.add.channel _ c.in-In.is c.in_ok-placed.ensures
