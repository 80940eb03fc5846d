use Rattle.lobby.specs.Prelude.{length, subst, sym, ◌<◌, key_of, ring_of}
use Rattle.lobby.proofs.Placed.{ArePlaces-set}
use Rattle.lobby.proofs.lobby.Lobby.detach.Goals as goal

pub invariant_of-self : goal.invariant_of-self
invariant_of-self c =
    let l = c.args.self.now in
    let s = c.args.seat in
    let inside : c.member-place.result < length l.seats.items = subst (λ i. i < length l.seats.items) (sym c.member-place.ensures) c.requires.out.out.number in
    record {
      no_places = l.no_places;
      laid_nothing = l.laid_nothing;
      placed = ArePlaces-set (ring_of l.base) (key_of l.base) l.seats.items c.member-place.result s inside l.placed (record {
        of_ring = c.requires.one_ring.0;
        of_key = c.requires.one_ring.1;
        member = sym c.member-place.ensures;
        places = c.requires.out.one_place;
      });
    }
