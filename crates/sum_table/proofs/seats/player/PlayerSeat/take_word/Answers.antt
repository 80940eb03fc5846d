use Rattle.sum_table.specs.Prelude.{ap, of_z, pos, refl, rules, subst, sym, to_z, ◌+◌, ◌∙◌, ◌≡◌, ◌≢◌, to_z-of_z, Me, w16, w32, SFits, Cursor, lap, clamp_of}
use Rattle.sum_table.specs.Prelude.{StandsFor, sum_of, Entry, View, IsPlayer, IsTurnedPlayer}
use Rattle.sum_table.proofs.Places.{spot_within}
use Rattle.sum_table.proofs.Playing.{fits_next, has_taken, known_taken, may_take, turned_fits, turned_lap, turned_taken}
use Rattle.sum_table.proofs.seats.player.PlayerSeat.take_word.Goals as goal

pub spot_in_lap-spot-requires : goal.spot_in_lap-spot-requires
spot_in_lap-spot-requires c =
    let p = c.args.self.now in
    let q = c.turn_to_next.new.self in
    let is : IsTurnedPlayer p q = c.turn_to_next.ensures.turned c.if-not-turn_to_next.false in
    record { start = q.lap_start; channel = q.known.next_channel; in_lap = turned_lap p q is ∙ is.in_lap }

pub swap-found-requires : goal.swap-found-requires
swap-found-requires c =
    let p = c.turn_to_next.new.self in
    let is : IsTurnedPlayer c.args.self.now p = c.turn_to_next.ensures.turned c.if-not-turn_to_next.false in
    let other : lap p.key.geometry p.next.frame ≢ 4294967295 = turned_fits c.args.self.now p is (c.turn_to_next.ensures.fits.0 c.if-not-turn_to_next.false) in
    let stands : StandsFor c.pack-empty.result (lap p.key.geometry p.next.frame + 1) 0 (pos 0) =
    subst (λ l. StandsFor c.pack-empty.result (l + 1) 0 (pos 0)) c.spot_in_lap-spot.ensures.lap_is c.pack-empty.ensures.stands in (
      p.same_ring.0,
      spot_within p.key.geometry p.next.frame p.next.channel _ c.spot_in_lap-spot.ensures p.known.next_channel p.same_ring.3,
      may_take p p.ring.now.table_id.slots c.spot_in_lap-spot.result.index c.pack-empty.result other stands c.spot_in_lap-spot.ensures.index_is,
    )

pub invariant_of-self : goal.invariant_of-self
invariant_of-self c =
    let p = c.turn_to_next.new.self in
    let is : IsTurnedPlayer c.args.self.now p = c.turn_to_next.ensures.turned c.if-not-turn_to_next.false in
    let other : lap p.key.geometry p.next.frame ≢ 4294967295 = turned_fits c.args.self.now p is (c.turn_to_next.ensures.fits.0 c.if-not-turn_to_next.false) in
    record {
      same_ring = (c.swap-found.ensures.0 ∙ p.same_ring.0, p.same_ring.1, ap (λ (x : Me Entry View). x.1) c.swap-found.ensures.2.6 ∙ p.same_ring.2, p.same_ring.3);
      known = subst (λ (y : Cursor). IsPlayer c.swap-found.new.seat.me.0 p.key y p.position p.gone) (sym c.behind-next.ensures)
          (known_taken p.key p.next p.position p.gone p.ring.now.table_id.slots c.spot_in_lap-spot.result.index c.pack-empty.result c.swap-found.result p.seat.me c.swap-found.new.seat.me p.known (fits_next p other) c.swap-found.ensures.2);
      lap_start = p.lap_start;
    }

pub returns-clause-ok : goal.returns-clause-ok
returns-clause-ok c =
    let p = c.turn_to_next.new.self in
    let sum_fits : SFits w32 c.sum.result = search rules in
    let clamp_fits : SFits w16 c.clamp.result = search rules in
    let nearest : c.clamp.result ≡ clamp_of c.sum.result = simp to_z-of_z at c.clamp.ensures.nearest in
    let value : to_z w16 (of_z w16 c.clamp.result) ≡ clamp_of (sum_of c.swap-found.result) =
    to_z-of_z w16 c.clamp.result clamp_fits ∙ (nearest ∙ ap clamp_of c.sum.ensures.sum) in
    turned_taken c.args.self.now p _ _ (c.turn_to_next.ensures.turned c.if-not-turn_to_next.false)
    (has_taken p _ p.ring.now.table_id.slots c.spot_in_lap-spot.result.index c.pack-empty.result c.swap-found.result (to_z w16 (of_z w16 c.clamp.result)) c.swap-found.ensures.0 refl c.behind-next.ensures refl refl value c.swap-found.ensures.2)
