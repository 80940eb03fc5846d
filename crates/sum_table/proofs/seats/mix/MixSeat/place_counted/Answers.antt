use Rattle.sum_table.specs.Prelude.{ap, subst, sym, ◌<◌, ◌∙◌, to_z-of_z, w16, lap, Added, IsTurned}
use Rattle.sum_table.specs.declared.view.Key.{Key}
use Rattle.sum_table.proofs.Placing.{turned_counted}
use Rattle.sum_table.proofs.seats.mix.MixSeat.place_counted.Goals as goal

pub spot_in_lap-ring_spot-requires-clause-channel : goal.spot_in_lap-ring_spot-requires-clause-channel
spot_in_lap-ring_spot-requires-clause-channel g c =
    let is : IsTurned c.args.self.now c.turn_to_frame.new.self c.args.frame = c.turn_to_frame.ensures.turned c.if-not-turn_to_frame.false in
    subst (λ (k : Key). c.args.channel < k.geometry.channels) (sym is.key) c.requires.channel

pub spot_in_lap-ring_spot-requires-clause-in_lap : goal.spot_in_lap-ring_spot-requires-clause-in_lap
spot_in_lap-ring_spot-requires-clause-in_lap g c =
    let is : IsTurned c.args.self.now c.turn_to_frame.new.self c.args.frame = c.turn_to_frame.ensures.turned c.if-not-turn_to_frame.false in
    ap (λ (k : Key). lap k.geometry c.args.frame) is.key ∙ is.in_lap

pub lay-ended-requires-clause-may : goal.lay-ended-requires-clause-may
lay-ended-requires-clause-may g c =
    let is : IsTurned c.args.self.now c.turn_to_frame.new.self c.args.frame = c.turn_to_frame.ensures.turned c.if-not-turn_to_frame.false in
    rw (is.places, is.key, is.marks, is.seen)
    (c.requires.can_add, c.requires.channel, c.requires.from_cursor, c.requires.ahead, c.turn_to_frame.ensures.fits.0 c.if-not-turn_to_frame.false)

pub lay-ended-requires-clause-spot : goal.lay-ended-requires-clause-spot
lay-ended-requires-clause-spot g c = c.spot_in_lap-ring_spot.ensures

pub returns-clause-step : goal.returns-clause-step
returns-clause-step g c =
    λ fits. rw c.answer.ensures.ended (rw (to_z-of_z w16 c.args.sample c.ranges.sample) at
    (turned_counted g.G.Gate.stops g.G.Gate.asked c.args.self.now c.turn_to_frame.new.self _ c.args.frame _ _ Added c.args.channel _ _ _ _ (c.turn_to_frame.ensures.turned (c.turn_to_frame.ensures.fits.1 fits)) c.lay-ended.ensures))
