-- What a client's seat that met a note, or gave one, keeps: the client can use it as before.
use Rattle.std.specs.Prelude.{◌≡◌, ◌+◌, ◌≤◌, List, nat_lt}
use Rattle.std.proofs.Common.{refl, sym, ◌∙◌, ap, subst, arith}
use Rattle.snd_base.specs.Places.{IsFrom}
use Rattle.mix_core.specs.declared.marks.Marks.{Marks}
use Rattle.mix_core.specs.declared.port.Entry.{Entry}
use Rattle.mix_core.specs.Laid.{EndsIn, standing}
use Rattle.sum_table.specs.declared.seats.mix.MixSeat.{MixSeat}
use Rattle.sum_table.specs.declared.view.Key.{Key}
use Rattle.sum_table.specs.declared.view.View.{View}
use Rattle.sum_table.specs.Seats.{TableId, key_of, marks_of_seat, member_of, places_of_seat, ring_of, seen_of, view_of}
use Rattle.lobby.specs.Seats.{IsPlace}
use Rattle.wav_io.specs.Sound.{Sound}
use Rattle.dmix_client.specs.Growth.{segment_entries}
use Rattle.dmix_client.specs.Port.{least_channel}
use Rattle.dmix_client.specs.View.{ClientView}
use Rattle.card_sim.specs.declared.card.Card.{Card}
use Rattle.lab_clients.specs.Lines.{IsReady}
use Rattle.lab_card.specs.Meets.{IsInformedClient, IsSameClient}
use Rattle.lab_clients.specs.SeatPort.{seat_port}

-- what a client needs of its seat: the later seat is of the same place, with the same marks and entries, and has seen no less
pub record IsSameSeat (s t : MixSeat) : Type 0 where
  pub ring : ring_of t ≡ ring_of s
  pub key : key_of t ≡ key_of s
  pub member : member_of t ≡ member_of s
  pub places : places_of_seat t ≡ places_of_seat s
  pub marks : marks_of_seat t ≡ marks_of_seat s
  pub laid : (view_of t).laid ≡ (view_of s).laid
  pub seen : seen_of s ≤ seen_of t

pub IsSameSeat-informed : (c : Card) (s t : MixSeat) → IsInformedClient c s t → IsSameSeat s t
IsSameSeat-informed c s t is = record {
  ring = is.ring;
  key = is.key;
  member = is.member;
  places = is.places;
  marks = is.marks;
  laid = is.laid;
  seen = omega (arith, is.seen);
}

pub IsSameSeat-same : (s t : MixSeat) → IsSameClient s t → IsSameSeat s t
IsSameSeat-same s t is = record {
  ring = is.ring;
  key = is.key;
  member = is.member;
  places = is.places;
  marks = is.marks;
  laid = ap (λ (v : View). v.laid) is.view;
  seen = omega (arith, is.seen);
}

pub IsPlace-same : (ring : TableId) (key : Key) (s t : MixSeat) → IsSameSeat s t → IsPlace ring key (member_of s) s → IsPlace ring key (member_of t) t
IsPlace-same ring key s t is place = record {
  of_ring = is.ring ∙ place.of_ring;
  of_key = is.key ∙ place.of_key;
  member = refl;
  places = is.places ∙ place.places;
}

pub IsReady-same : (wav : Sound) (v : ClientView) (s t : MixSeat) → IsSameSeat s t → IsReady seat_port wav s v → IsReady seat_port wav t v
IsReady-same wav v s t is ready = record {
  usable = record {
    same_geometry = ap (λ (k : Key). k.geometry) is.key ∙ ready.usable.same_geometry;
    same_member = is.member ∙ ready.usable.same_member;
    can = ap (nat_lt 0) is.places ∙ ready.usable.can;
    behind = λ moves goes. subst (λ (m : Marks). IsFrom m.cursor (v.stream.stretch.card + v.stream.stretch.committed) (least_channel v.stream.setup.bindings)) (sym is.marks)
        (ready.usable.behind moves goes);
    newer = λ moves goes. let low = ready.usable.newer moves goes in let up = is.seen in omega (arith, low, up);
  };
  backed = record {
    stands = ready.backed.stands;
    segment = subst (λ (es : List Entry). EndsIn (standing es) (segment_entries v.stream wav.samples)) (sym is.laid) ready.backed.segment;
  };
  channels = ready.channels;
  fed = ready.fed;
}
