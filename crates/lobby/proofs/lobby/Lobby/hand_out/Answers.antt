use Rattle.lobby.specs.Prelude.{ap, None, Option, set, Some, subst, sym, ◌∙◌, ◌≡◌, MixSeat, key_of, ring_of, ArePlaces, lowest_silent, seat_at}
use Rattle.lobby.proofs.Placed.{ArePlaces-taken, silent-found, silent-given, silent-not_none}
use Rattle.lobby.proofs.lobby.Lobby.hand_out.Goals as goal

pub unreachable-requires : goal.unreachable-requires
unreachable-requires c =
    let l = c.args.self.now in
    let place : lowest_silent c.args.position l.seats.items ≡ Some c.in-Some.place = sym (c.in-Some.ensures ∙ ap (lowest_silent c.args.position) c.as_slice.ensures.value) in
    silent-not_none c.args.position l.seats.items c.in-Some.place c.index_mut.result.now place c.index_mut.ensures.value (sym c.take.ensures.value ∙ c.in_default-take.is)

pub invariant_of-self : goal.invariant_of-self
invariant_of-self c =
    let l = c.args.self.now in
    let place : lowest_silent c.args.position l.seats.items ≡ Some c.in-Some.place = sym (c.in-Some.ensures ∙ ap (lowest_silent c.args.position) c.as_slice.ensures.value) in
    record {
      no_places = l.no_places;
      laid_nothing = l.laid_nothing;
      placed = subst (λ (o : Option MixSeat). ArePlaces (ring_of l.base) (key_of l.base) (set l.seats.items c.in-Some.place o)) (sym c.take.ensures.after)
          (ArePlaces-taken (ring_of l.base) (key_of l.base) l.seats.items c.in-Some.place (silent-found c.args.position l.seats.items c.in-Some.place place).0 l.placed);
    }

pub returns-clause-outcome : goal.returns-clause-outcome
returns-clause-outcome c =
    let l = c.args.self.now in
    let s = c.in-Some-take.seat in
    let place : lowest_silent c.args.position l.seats.items ≡ Some c.in-Some.place = sym (c.in-Some.ensures ∙ ap (lowest_silent c.args.position) c.as_slice.ensures.value) in
    let given = silent-given (ring_of l.base) (key_of l.base) c.args.position l.seats.items c.in-Some.place c.index_mut.result.now s l.placed place c.index_mut.ensures.value (sym c.take.ensures.value ∙ c.in-Some-take.is) in
    record {
      lowest = place ∙ ap (λ i. Some i) (sym given.0);
      found = ap (seat_at l.seats.items) given.0 ∙ given.3;
      after_is = ap (λ o. set l.seats.items c.in-Some.place o) c.take.ensures.after ∙ ap (λ i. set l.seats.items i None) (sym given.0);
    }

pub returns-clause-silent : goal.returns-clause-silent
returns-clause-silent c =
    let l = c.args.self.now in
    let s = c.in-Some-take.seat in
    let place : lowest_silent c.args.position l.seats.items ≡ Some c.in-Some.place = sym (c.in-Some.ensures ∙ ap (lowest_silent c.args.position) c.as_slice.ensures.value) in
    let given = silent-given (ring_of l.base) (key_of l.base) c.args.position l.seats.items c.in-Some.place c.index_mut.result.now s l.placed place c.index_mut.ensures.value (sym c.take.ensures.value ∙ c.in-Some-take.is) in
    (given.1, given.2)
