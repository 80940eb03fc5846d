use Rattle.examples.specs.Prelude.{ap, arith, Ok, subst, to_z-of_z, [], ◌∙◌, ◌∷◌, ℤ, an_add, member_of, SeatLaid}
use Rattle.std.proofs.Math.Nat.{zero-div}
use Rattle.examples.proofs.Words.{SeatLaid-in_time}
use Rattle.examples.proofs.two_threads.place_first.Goals as goal

pub returns-in-In-clause-placed : goal.returns-in-In-clause-placed
returns-in-In-clause-placed c =
    let seat = c.args.seat.now in
    let step = c.place.ensures.step (omega (arith, zero-div seat.key.geometry.frames)) in
    subst (λ (x : ℤ). SeatLaid seat c.place.new.self (an_add (member_of seat) 0 0 x ∷ [])) (to_z-of_z c.ranges.sample)
    (SeatLaid-in_time seat c.place.new.self (an_add (member_of seat) 0 0 _) c.place.result (c.in_ok-place.was ∙ ap Ok c.in-In.is) step.laid_it)
