use Rattle.lab_clients.specs.Prelude.{arith, subst, sym, player_key, player_ring, IsSameCard-joined, seat_of_card, AreEach-ended, HasWalked-read}
use Rattle.lab_clients.specs.Prelude.{HasWalked-still, LabClient, clients_of, IsOfCard, IsOfCard-ring, IsOfRing-card, IsHeardBy}
use Rattle.lab_clients.proofs.clients.LabClients.hear.Goals as goal

pub hear-requires : goal.hear-requires
hear-requires c =
    let l = c.loop-index in
    let d = c.index_mut.result.now in
    let was = HasWalked-still (IsHeardBy c.args.card.now) (clients_of c.args.self.now) (clients_of l.self) l.index d l.invariant.walked c.index_mut.ensures.value in
    let of = subst (λ (x : LabClient). IsOfCard c.args.card.now x) (sym was) (c.requires l.index d (omega arith)) in
    IsOfCard-ring (player_ring (seat_of_card c.args.card.now)) (player_key (seat_of_card c.args.card.now)) l.card d
    (record { of_ring = l.invariant.card.player.ring; of_key = l.invariant.card.player.key }) (IsOfRing-card c.args.card.now d of)

pub loop-index-preserved : goal.loop-index-preserved
loop-index-preserved c =
    let l = c.loop-index in
    let same = IsSameCard-joined c.args.card.now l.card c.hear.new.card l.invariant.card c.hear.ensures.card in
    record {
      places = l.invariant.places;
      card = same;
      walked = HasWalked-read c.args.self.now.clients l.self.clients c.hear.new.self c.index_mut.result.now c.len-index-end.ensures c.loop-index-test.true l.invariant.walked
          c.index_mut.ensures.value (record { card = c.hear.new.card; same = same; heard = c.hear.ensures.heard });
    }

pub returns-clause-heard : goal.returns-clause-heard
returns-clause-heard c =
    AreEach-ended c.args.self.now.clients c.loop-index.self.clients c.len-index-end.ensures c.loop-index-test.false c.loop-index.invariant.walked
