use Rattle.lobby.specs.Prelude.{refl, Some, sym, ◌∙◌, ◌≡◌, key_of, ring_of, seat_at}
use Rattle.lobby.proofs.Attaching.{KeepsLasts-set, laid-loaded_beside}
use Rattle.lobby.proofs.Loading.{IsPlace-loaded_beside}
use Rattle.lobby.proofs.Placed.{ArePlaces-set, free-not_none, lowest-found, read_free}
use Rattle.lobby.proofs.lobby.Lobby.load_beside_at.Goals as goal

pub unreachable-requires : goal.unreachable-requires
unreachable-requires c = free-not_none c.args.self.now.seats.items c.args.place c.index_mut.result.now c.requires.free c.index_mut.ensures.value c.in_default.is

pub load_beside-position-requires : goal.load_beside-position-requires
load_beside-position-requires c =
    let l = c.args.self.now in
    let at : seat_at l.seats.items c.args.place ≡ Some c.in-Some.seat = sym (read_free l.seats.items c.args.place c.index_mut.result.now c.requires.free c.index_mut.ensures.value) ∙ c.in-Some.is in
    let is = l.placed c.args.place c.in-Some.seat at in
    (c.requires.one_ring.0 ∙ sym is.of_ring, c.requires.one_ring.1 ∙ sym is.of_key)

pub invariant_of-self : goal.invariant_of-self
invariant_of-self c =
    let l = c.args.self.now in
    let at : seat_at l.seats.items c.args.place ≡ Some c.in-Some.seat = sym (read_free l.seats.items c.args.place c.index_mut.result.now c.requires.free c.index_mut.ensures.value) ∙ c.in-Some.is in
    record {
      no_places = l.no_places;
      laid_nothing = l.laid_nothing;
      placed = ArePlaces-set (ring_of l.base) (key_of l.base) l.seats.items c.args.place c.load_beside-position.new.seat (lowest-found l.seats.items c.args.place c.requires.free).0 l.placed
          (IsPlace-loaded_beside (ring_of l.base) (key_of l.base) c.args.place c.args.player.now c.in-Some.seat c.load_beside-position.new.player c.load_beside-position.new.seat c.load_beside-position.result
          c.load_beside-position.ensures.load (l.placed c.args.place c.in-Some.seat at));
    }

pub returns-clause-loads : goal.returns-clause-loads
returns-clause-loads c =
    let l = c.args.self.now in
    record {
      seat = c.in-Some.seat;
      loaded = c.load_beside-position.new.seat;
      found = sym (read_free l.seats.items c.args.place c.index_mut.result.now c.requires.free c.index_mut.ensures.value) ∙ c.in-Some.is;
      load_is = c.load_beside-position.ensures.load;
      laid = laid-loaded_beside c.args.player.now c.in-Some.seat c.load_beside-position.new.player c.load_beside-position.new.seat c.load_beside-position.result c.load_beside-position.ensures.load;
      after_is = refl;
    }

pub returns-clause-lasts : goal.returns-clause-lasts
returns-clause-lasts c =
    let l = c.args.self.now in
    KeepsLasts-set l.seats.items c.args.place c.in-Some.seat c.load_beside-position.new.seat
    (sym (read_free l.seats.items c.args.place c.index_mut.result.now c.requires.free c.index_mut.ensures.value) ∙ c.in-Some.is)
    (laid-loaded_beside c.args.player.now c.in-Some.seat c.load_beside-position.new.player c.load_beside-position.new.seat c.load_beside-position.result c.load_beside-position.ensures.load)
