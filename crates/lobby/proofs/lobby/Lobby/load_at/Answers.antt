use Rattle.lobby.specs.Prelude.{refl, Some, sym, ◌∙◌, ◌≡◌, key_of, ring_of, seat_at}
use Rattle.lobby.proofs.Attaching.{KeepsLasts-set, laid-loaded}
use Rattle.lobby.proofs.Loading.{IsPlace-loaded}
use Rattle.lobby.proofs.Placed.{ArePlaces-set, free-not_none, lowest-found, read_free}
use Rattle.lobby.proofs.lobby.Lobby.load_at.Goals as goal

pub unreachable-requires : goal.unreachable-requires
unreachable-requires c = free-not_none c.args.self.now.seats.items c.args.place c.index_mut.result.now c.requires c.index_mut.ensures.value c.in_default.is

pub invariant_of-self : goal.invariant_of-self
invariant_of-self c =
    let l = c.args.self.now in
    let at : seat_at l.seats.items c.args.place ≡ Some c.in-Some.seat = sym (read_free l.seats.items c.args.place c.index_mut.result.now c.requires c.index_mut.ensures.value) ∙ c.in-Some.is in
    record {
      no_places = l.no_places;
      laid_nothing = l.laid_nothing;
      placed = ArePlaces-set (ring_of l.base) (key_of l.base) l.seats.items c.args.place c.load-position.new.seat (lowest-found l.seats.items c.args.place c.requires).0 l.placed
          (IsPlace-loaded (ring_of l.base) (key_of l.base) c.args.place c.in-Some.seat c.load-position.new.seat c.load-position.result c.load-position.ensures (l.placed c.args.place c.in-Some.seat at));
    }

pub returns-clause-loads : goal.returns-clause-loads
returns-clause-loads c =
    let l = c.args.self.now in
    record {
      seat = c.in-Some.seat;
      loaded = c.load-position.new.seat;
      found = sym (read_free l.seats.items c.args.place c.index_mut.result.now c.requires c.index_mut.ensures.value) ∙ c.in-Some.is;
      load_is = c.load-position.ensures;
      laid = laid-loaded c.in-Some.seat c.load-position.new.seat c.load-position.result c.load-position.ensures;
      after_is = refl;
    }

pub returns-clause-lasts : goal.returns-clause-lasts
returns-clause-lasts c =
    let l = c.args.self.now in
    KeepsLasts-set l.seats.items c.args.place c.in-Some.seat c.load-position.new.seat
    (sym (read_free l.seats.items c.args.place c.index_mut.result.now c.requires c.index_mut.ensures.value) ∙ c.in-Some.is)
    (laid-loaded c.in-Some.seat c.load-position.new.seat c.load-position.result c.load-position.ensures)
