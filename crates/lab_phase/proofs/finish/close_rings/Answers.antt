use Rattle.lab_phase.specs.Prelude.{ap, subst, sym, ◌∙◌, ◌≡◌, Geometry, AreExact, AreInOrder, MixSeat, PlayerSeat, track_of, key_of, view_of, Card}
use Rattle.lab_phase.specs.Prelude.{geometry_of_card, seat_of_card}
use Rattle.sum_table.specs.declared.view.Key.{Key}
use Rattle.lab_phase.proofs.finish.close_rings.Goals as goal

pub close-closed-requires-clause-all_places : goal.close-closed-requires-clause-all_places
close-closed-requires-clause-all_places c =
    let has = c.requires.places in
    c.into_seat.ensures.places has.session has.held has.xs has.are ∙ (has.all ∙ ap (λ (key : Key). key.places) (sym c.into_seat.ensures.one_ring.1))

pub returns : goal.returns
returns c =
    let card : Card = c.args.card in
    let seat : MixSeat = c.into_seat.result in
    let shape : (key_of seat).geometry ≡ geometry_of_card card =
    ap (λ (key : Key). key.geometry) (c.into_seat.ensures.one_ring.1 ∙ sym c.requires.one_ring.1) in
    record {
      mix = λ session held xs are. record {
        in_order = subst (λ (g : Geometry). AreInOrder g (track_of (seat_of_card card)).taken) shape
            (subst (λ (p : PlayerSeat). AreInOrder (key_of seat).geometry (track_of p).taken) c.into_seats-player.ensures.player c.close-closed.ensures.in_order);
        laid = (view_of seat).laid;
        values = subst (λ (p : PlayerSeat). AreExact (view_of seat).laid (track_of p).taken) c.into_seats-player.ensures.player c.close-closed.ensures.values;
        placed = c.into_seat.ensures.placed session held xs are;
      };
    }
