use Rattle.ring_tests.specs.declared.tests.lobbies.Hall.{Hall}
use Rattle.ring_tests.proofs.Trying.{seat_put_back}
use Rattle.ring_tests.proofs.tests.lobbies.Hall.lay.Goals as goal

pub invariant_of-self-2 : goal.invariant_of-self-2
invariant_of-self-2 c =
    let h : Hall = c.args.self.now in
    record {
      of_player = h.of_player;
      of_seats = seat_put_back h.lobby h.out.items c.pop.new.self.items c.push.new.self.items c.in-Some.seat c.lay_frames.new.seat _ h.of_seats c.in-Some.ensures.items c.lay_frames.ensures c.push.ensures.items;
      all_places = h.all_places;
    }
