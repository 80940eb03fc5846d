use Rattle.snd_base.specs.Places.{lap}
use Rattle.sum_table.specs.Seats.{geometry_of}
use Rattle.bench.proofs.Going.{seat_goes}
use Rattle.bench.proofs.sum.lap.lay_word.Goals as goal

pub returns-in-Ok-In-clause-goes : goal.returns-in-Ok-In-clause-goes
returns-in-Ok-In-clause-goes c =
    seat_goes c.args.seat.now c.place.new.self (lap (geometry_of c.args.seat.now) c.args.frame) (λ fits. (c.place.ensures.step fits).laid_it.goes)
    (λ end. (c.place.ensures.unchanged (c.place.ensures.lap_end.1 end)).0.laid_nothing.goes)

pub returns-in_default-clause-goes : goal.returns-in_default-clause-goes
returns-in_default-clause-goes c =
    seat_goes c.args.seat.now c.place.new.self (lap (geometry_of c.args.seat.now) c.args.frame) (λ fits. (c.place.ensures.step fits).laid_it.goes)
    (λ end. (c.place.ensures.unchanged (c.place.ensures.lap_end.1 end)).0.laid_nothing.goes)

pub returns-in_default-2-clause-goes : goal.returns-in_default-2-clause-goes
returns-in_default-2-clause-goes c =
    seat_goes c.args.seat.now c.place.new.self (lap (geometry_of c.args.seat.now) c.args.frame) (λ fits. (c.place.ensures.step fits).laid_it.goes)
    (λ end. (c.place.ensures.unchanged (c.place.ensures.lap_end.1 end)).0.laid_nothing.goes)
