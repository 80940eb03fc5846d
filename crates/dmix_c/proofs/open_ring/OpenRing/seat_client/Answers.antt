use Rattle.dmix_c.specs.Prelude.{ap, arith, subst, sym, ℕ, ◌<◌, ◌∙◌, sent, MixSeat, key_of, member_of, places_of_seat, key_of_lobby, places_of_lobby}
use Rattle.dmix_c.specs.Prelude.{ring_of_lobby, AreOfPlace}
use Rattle.sum_table.specs.declared.view.Key.{Key}
use Rattle.dmix_c.proofs.FreePlaces.{inside-handed}
use Rattle.dmix_c.proofs.Opening.{AreOfPlace-alone, GivesPlace-made}
use Rattle.dmix_c.proofs.Ringed.{IsOfRing-place, LeadsTo-sent}
use Rattle.dmix_c.proofs.open_ring.OpenRing.seat_client.Goals as goal

pub keep_way-requires : goal.keep_way-requires
keep_way-requires c =
    let r = c.args.self.now in
    let s : MixSeat = c.args.seat in
    let place = c.member-place.ensures ∙ ap member_of c.send_once-seat.ensures.seat in
    record {
      inside = subst (λ (n : ℕ). n < places_of_lobby r.lobby) (sym place) (inside-handed r.lobby s c.requires.lowest);
      leads = LeadsTo-sent (ring_of_lobby r.lobby) (key_of_lobby r.lobby) c.send_once-seat.new.arrivals s c.send_once-seat.ensures.received
          (IsOfRing-place (ring_of_lobby r.lobby) (key_of_lobby r.lobby) (member_of s) s c.requires.silent.0);
    }

pub new-requires : goal.new-requires
new-requires c =
    let s : MixSeat = c.args.seat in
    let same = c.send_once-seat.ensures.seat in
    let key = ap key_of same ∙ (c.requires.silent.0.of_key ∙ sym c.keep_way.ensures.keeps.key) in
    record {
      lead = subst (λ (k : Key). c.keep_way.new.self.period < k.geometry.frames) (sym key) c.keep_way.new.self.lead;
      one_place = ap places_of_seat same ∙ c.requires.silent.0.places;
      own_way = subst (AreOfPlace (sent c.send_once-seat.new.back)) (sym same) (AreOfPlace-alone (sent c.send_once-seat.new.back) s c.send_once-seat.ensures.sent);
      has_room = omega (arith, c.send_once-seat.ensures.free);
    }

pub returns-clause-seat : goal.returns-clause-seat
returns-clause-seat c = c.new.ensures.seat ∙ c.send_once-seat.ensures.seat

pub returns-clause-gives : goal.returns-clause-gives
returns-clause-gives c =
    GivesPlace-made c.keep_way.new.self c.new.result c.args.self.now.lobby c.args.seat c.send_once-seat.result c.keep_way.ensures.lobby c.new.ensures c.send_once-seat.ensures.seat c.requires.silent c.requires.lowest
