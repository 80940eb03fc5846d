use Rattle.std.proofs.Common.{◌∙◌, ap, sym}
use Rattle.sum_table.specs.declared.view.Key.{Key}
use Rattle.ring_tests.specs.declared.tests.lobbies.Hall.{Hall}
use Rattle.ring_tests.proofs.Trying.{seats_out}
use Rattle.ring_tests.proofs.tests.lobbies.Hall.attach.Goals as goal

pub invariant_of-self : goal.invariant_of-self
invariant_of-self c =
    let h : Hall = c.args.self.now in
    let goes = c.attach.ensures.goes in
    record {
      of_player = (h.of_player.0 ∙ sym goes.ring, h.of_player.1 ∙ sym goes.key);
      of_seats = seats_out h.lobby c.attach.new.self _ h.out.items c.push.new.self.items c.in-Ok.seat _ goes h.of_seats c.in-Ok.ensures.silent c.push.ensures.items;
      all_places = goes.places ∙ (h.all_places ∙ ap (λ (k : Key). k.places) (sym goes.key));
    }
