use Rattle.sum_table.specs.Prelude.{refl, subst, sym, to_z-of_z, w16, Stays, seat_view, SeatLaid, SeatLaid-composes, SeatLoaded, SeatLoaded-composes}
use Rattle.sum_table.proofs.port.MixSeatMixPort.place.Goals as goal

pub returns-clause-step : goal.returns-clause-step
returns-clause-step g c =
    λ fits. rw (to_z-of_z w16 c.args.sample c.ranges.sample) at (c.place_at.ensures.step fits)

pub returns-clause-unchanged : goal.returns-clause-unchanged
returns-clause-unchanged g c =
    λ is.
    let same = c.place_at.ensures.unchanged is in
    (subst (λ t. Stays seat_view SeatLaid SeatLoaded c.args.self.now t) (sym same.0) (record { view_is = refl; laid_nothing = SeatLaid-composes.none c.args.self.now; loaded_nothing = SeatLoaded-composes.none c.args.self.now }), same.1)
