use Rattle.std.proofs.Common.{◌∙◌, ap, is_some, refl, rules, sym, true≢false}
use Rattle.lobby.proofs.Closing.{IsJoining-more, all_joined, next_free, next_place}
use Rattle.lobby.proofs.lobby.Lobby.close.Goals as goal

pub loop-seat-init : goal.loop-seat-init
loop-seat-init c = record { parts = search rules; joins = refl; one_ring = (refl, refl); places = c.args.self.no_places; laid = c.args.self.laid_nothing }

pub join-requires : goal.join-requires
join-requires c =
    let is = c.loop-seat.invariant in
    let place = next_place c.args.self c.loop-seat.whole c.loop-seat.yielded c.loop-seat.seat-iterator.rest.items c.next.new.self.rest.items c.in-Some.seat c.in-Some-seat.seat is c.in-Some.ensures.steps.0 c.in-Some-seat.is in
    (place.of_ring ∙ sym is.one_ring.0, place.of_key ∙ sym is.one_ring.1)

pub loop-seat-preserved : goal.loop-seat-preserved
loop-seat-preserved c =
    IsJoining-more c.args.self c.loop-seat.whole c.join.new.self c.loop-seat.yielded c.loop-seat.seat-iterator.rest.items c.next.new.self.rest.items c.in-Some.seat c.in-Some-seat.seat c.loop-seat.invariant
    c.in-Some.ensures.steps.0 c.in-Some-seat.is c.join.ensures

pub returns : goal.returns
returns c = all_joined c.args.self c.loop-seat.whole c.loop-seat.yielded c.loop-seat.seat-iterator.rest.items c.loop-seat.invariant (sym c.loop-seat.seat-iterator.rest.ok.0 ∙ c.in-None.ensures.steps.0)

pub unreachable-requires : goal.unreachable-requires
unreachable-requires c =
    let free = next_free c.args.self c.loop-seat.whole c.loop-seat.yielded c.loop-seat.seat-iterator.rest.items c.next.new.self.rest.items c.in-Some.seat c.requires c.loop-seat.invariant c.in-Some.ensures.steps.0 in
    true≢false (sym free ∙ ap is_some c.in_default.is)
