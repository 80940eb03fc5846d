use Rattle.sum_table.specs.Prelude.{ap, arith, ◌∙◌, Me, Entry, View}
use Rattle.sum_table.proofs.Cuts.{joins, has_closed, learns_both}
use Rattle.sum_table.proofs.seats.mix.MixSeat.close.Goals as goal

pub join_seat-requires : goal.join_seat-requires
join_seat-requires c =
    let s = c.args.self in
    let p = c.args.player in
    (s.same_ring.0, c.requires.one_ring.0 ∙ s.same_ring.0, p.same_ring.2, omega (arith, s.same_ring.3), joins s.ring.now.key s.seat.id s.seat.me.0 p.seat.id p.seat.me.0)

pub load-requires : goal.load-requires
load-requires c =
    let s = c.args.self in
    (c.join_seat.ensures.0 ∙ s.same_ring.0, omega (arith, s.same_ring.3), learns_both _ _ _ s.seat.me.0 c.args.player.seat.me.0 _ _ c.join_seat.ensures.2 (s.known.same_key ∙ s.same_ring.1) s.known.lasts)

pub returns : goal.returns
returns c =
    let s = c.args.self in
    let p = c.args.player in
    has_closed s p s.ring.now.table_id.slots c.load.result c.join_seat.new.seat.me c.load.new.seat.me c.requires.all_places c.requires.one_ring.1 (ap (λ (m : Me Entry View). m.0) c.join_seat.ensures.2) c.load.ensures.2
