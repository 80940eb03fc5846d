use Rattle.sum_table.specs.Prelude.{ap, subst, sym, true, ◌<◌, ◌∙◌, ◌≡◌, to_z-of_z, w16, lap, Withdrawn, IsTurned, MayLay}
use Rattle.sum_table.specs.declared.view.Key.{Key}
use Rattle.sum_table.proofs.Placing.{turned_counted, turned_may}
use Rattle.sum_table.proofs.Seated.{lay_facts}
use Rattle.sum_table.proofs.seats.mix.MixSeat.withdraw_counted.Goals as goal

pub unreachable-requires : goal.unreachable-requires
unreachable-requires g c =
    let fits = (lay_facts c.args.self.now Withdrawn c.args.frame c.args.channel c.args.sample (c.requires.last, c.requires.from_floor)).fits in
    let yes : c.turn_to_frame.result ≡ true = c.turn_to_frame.ensures.fits.1 fits in
    cc

pub spot_in_lap-ring_spot-requires : goal.spot_in_lap-ring_spot-requires
spot_in_lap-ring_spot-requires g c =
    let s = c.args.self.now in
    let p = c.turn_to_frame.new.self in
    let is : IsTurned s p c.args.frame = c.turn_to_frame.ensures.turned c.if-not-turn_to_frame.false in
    let channel = (lay_facts s Withdrawn c.args.frame c.args.channel c.args.sample (c.requires.last, c.requires.from_floor)).channel in
    record {
      channel = subst (λ (k : Key). c.args.channel < k.geometry.channels) (sym is.key) channel;
      in_lap = ap (λ (k : Key). lap k.geometry c.args.frame) is.key ∙ is.in_lap;
    }

pub lay-ended-requires-clause-may : goal.lay-ended-requires-clause-may
lay-ended-requires-clause-may g c =
    let p = c.turn_to_frame.new.self in
    let is : IsTurned c.args.self.now p c.args.frame = c.turn_to_frame.ensures.turned c.if-not-turn_to_frame.false in
    subst (MayLay Withdrawn p c.args.frame c.args.channel) (sym (to_z-of_z w16 c.args.sample c.ranges.sample))
    (turned_may c.args.self.now p c.args.frame c.args.channel c.args.sample is (c.requires.last, c.requires.from_floor))

pub returns-clause-step : goal.returns-clause-step
returns-clause-step g c =
    rw c.answer.ensures.ended (rw (to_z-of_z w16 c.args.sample c.ranges.sample) at
    (turned_counted g.G.Gate.stops g.G.Gate.asked c.args.self.now c.turn_to_frame.new.self _ c.args.frame _ _ Withdrawn c.args.channel _ _ _ _ (c.turn_to_frame.ensures.turned c.if-not-turn_to_frame.false) c.lay-ended.ensures))
