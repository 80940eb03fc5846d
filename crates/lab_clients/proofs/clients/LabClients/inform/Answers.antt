use Rattle.lab_clients.specs.Prelude.{arith, subst, sym, player_key, player_ring, IsSameCard-joined, seat_of_card, AreEach-ended, HasWalked-read}
use Rattle.lab_clients.specs.Prelude.{HasWalked-still, LabClient, clients_of, IsOfCard, IsOfCard-ring, IsOfRing-card, IsInformedBy}
use Rattle.lab_clients.proofs.clients.LabClients.inform.Goals as goal

pub inform-requires : goal.inform-requires
inform-requires c =
    let l = c.loop-index in
    let d = c.index_mut.result.now in
    let was = HasWalked-still (IsInformedBy c.args.card.now) (clients_of c.args.self.now) (clients_of l.self) l.index d l.invariant.walked c.index_mut.ensures.value in
    let of = subst (λ (x : LabClient). IsOfCard c.args.card.now x) (sym was) (c.requires l.index d (omega arith)) in
    IsOfCard-ring (player_ring (seat_of_card c.args.card.now)) (player_key (seat_of_card c.args.card.now)) l.card d
    (record { of_ring = l.invariant.card.player.ring; of_key = l.invariant.card.player.key }) (IsOfRing-card c.args.card.now d of)

pub loop-index-preserved : goal.loop-index-preserved
loop-index-preserved c =
    let l = c.loop-index in
    record {
      places = l.invariant.places;
      card = IsSameCard-joined c.args.card.now l.card c.inform.new.card l.invariant.card c.inform.ensures.card;
      walked = HasWalked-read c.args.self.now.clients l.self.clients c.inform.new.self c.index_mut.result.now c.len-index-end.ensures c.loop-index-test.true l.invariant.walked
          c.index_mut.ensures.value (record { card = l.card; same = l.invariant.card; informed = c.inform.ensures.informed });
    }

pub returns-clause-informed : goal.returns-clause-informed
returns-clause-informed c =
    AreEach-ended c.args.self.now.clients c.loop-index.self.clients c.len-index-end.ensures c.loop-index-test.false c.loop-index.invariant.walked
