-- A ring that captures was just opened, with its card; and a reader at a seat that was split from the ring's.
use Rattle.dmix_c.specs.Prelude.{ap, subst, sym, [], ◌∙◌, ◌≡◌, Bool, false, None, Some, true, Geometry, Cursor, ReaderSeat, geometry_of, ring_of, HasSeats}
use Rattle.dmix_c.specs.Prelude.{Lobby, free_seats, key_of_lobby, places_of_lobby, ring_of_lobby, CardPlayer, at_frame, OpenRing, Card, Duplex, RingParams}
use Rattle.dmix_c.specs.Prelude.{Recording, IsGeometryOf, IsNewRecording, GivesReader, IsAtStart, IsFree, IsNewDuplex, IsNewOpenRing, IsNewPair, KeepsRing}
use Rattle.dmix_c.specs.Prelude.{source_of}
use Rattle.snoop_table.specs.declared.seats.writer.WriterSeat.{WriterSeat}
use Rattle.snoop_table.specs.declared.view.View.{View}
use Rattle.snoop_table.specs.Captured.{the_track}
use Rattle.snoop_table.specs.Joins.{HasSplit}
use Rattle.snoop_table.specs.Writers.{writer_geometry, writer_ring, writer_track}
use Rattle.card_sim.specs.Runs.{period_of, player_of, writer_of}
use Rattle.card_sim.specs.Steps.{AreInStep, IsAtPublished}
use Rattle.dmix_c.specs.declared.duplex_card.DuplexCard.{DuplexCard}
use Rattle.dmix_c.specs.declared.playing_card.PlayingCard.{PlayingCard}
use Rattle.dmix_c.proofs.Ringed.{KeepsRing-lobby}

-- a ring with the same places
pub IsNewOpenRing-same : (params : RingParams) (r s : OpenRing) (p : CardPlayer) → s.lobby ≡ r.lobby → s.rate ≡ r.rate → s.period ≡ r.period
    → IsNewOpenRing params r p → IsNewOpenRing params s p
IsNewOpenRing-same params r s p lobby rate period is = record {
  geometry = subst (λ (l : Lobby). IsGeometryOf params (key_of_lobby l).geometry) (sym lobby) is.geometry;
  places = ap places_of_lobby lobby ∙ is.places;
  fresh = λ place below. subst (λ (l : Lobby). IsFree (free_seats l) place None) (sym lobby) (is.fresh place below);
  rate = rate ∙ is.rate;
  lead = period ∙ is.lead;
  start = subst (λ (l : Lobby). IsAtStart (key_of_lobby l).geometry p) (sym lobby) is.start;
  card_period = is.card_period;
  one_ring = (is.one_ring.0 ∙ sym (ap ring_of_lobby lobby), is.one_ring.1 ∙ sym (ap key_of_lobby lobby));
}

-- the player and the writer of new rings of one geometry are in step, and at the position that is published
pub AreInStep-new : (g : Geometry) (p : CardPlayer) (w : WriterSeat) (seat : ReaderSeat) → IsAtStart g p → HasSeats g w seat → AreInStep p w
AreInStep-new g p w seat start has = record {
  geometry = start.geometry ∙ sym has.of_writer;
  next = start.next ∙ ap at_frame (sym has.next);
}

pub IsAtPublished-new : (g : Geometry) (p : CardPlayer) → IsAtStart g p → IsAtPublished p
IsAtPublished-new g p start = start.position ∙ sym (ap (λ (c : Cursor). c.frame) start.next)

pub IsNewDuplex-made : (params : RingParams) (g : Geometry) (r : OpenRing) (p : CardPlayer) (w : WriterSeat) (seat : ReaderSeat) (card : DuplexCard)
    → IsNewOpenRing params r p → r.capture ≡ Some seat → HasSeats g w seat
    → player_of card.card ≡ p → writer_of card.card ≡ w → period_of card.card ≡ params.period_size → IsNewDuplex params r card
IsNewDuplex-made params g r p w seat card new captures has is_player is_writer period = record {
  ring = subst (IsNewOpenRing params r) (sym is_player) new;
  source = subst (λ (v : WriterSeat). source_of r.capture ≡ Some (writer_ring v, writer_geometry v)) (sym is_writer)
      (ap source_of captures ∙ (λ i. Some (sym has.one_ring i, (has.of_reader ∙ sym has.of_writer) i)));
  stored_none = subst (λ (v : WriterSeat). (writer_track v).stored ≡ []) (sym is_writer) (ap (λ (v : View). (the_track v.track).stored) has.writer);
  run_period = period;
}

-- by what was asked: a card that plays alone, or one that captures too
pub IsNewPair-alone : (captures : Bool) (params : RingParams) (r : OpenRing) (p : CardPlayer) (card : PlayingCard) → captures ≡ false → card.player ≡ p
    → IsNewOpenRing params r p → r.capture ≡ None → IsNewPair captures params r (Card card)
IsNewPair-alone captures params r p card is same new alone =
    subst (λ (b : Bool). IsNewPair b params r (Card card)) (sym is) (subst (IsNewOpenRing params r) (sym same) new, alone)

pub IsNewPair-captures : (captures : Bool) (params : RingParams) (r : OpenRing) (card : DuplexCard) → captures ≡ true → IsNewDuplex params r card
    → IsNewPair captures params r (Duplex card)
IsNewPair-captures captures params r card is new = subst (λ (b : Bool). IsNewPair b params r (Duplex card)) (sym is) new

-- a ring whose seat was split keeps its places and its capture ring
pub KeepsRing-split : (r t : OpenRing) (s u new : ReaderSeat) → r.capture ≡ Some s → t.capture ≡ Some u → t.lobby ≡ r.lobby → t.rate ≡ r.rate → t.period ≡ r.period
    → HasSplit s u new → KeepsRing None r t
KeepsRing-split r t s u new before after lobby rate period split =
    KeepsRing-lobby r t lobby (ap source_of after ∙ ((λ i. Some (split.ring i, split.geometry i)) ∙ sym (ap source_of before))) rate period

-- and the new seat is a reader's of that ring
pub GivesReader-made : (t : OpenRing) (p : Recording) (s u new : ReaderSeat) → t.capture ≡ Some u → HasSplit s u new → IsNewRecording new t.rate p → GivesReader t p
GivesReader-made t p s u new after split made = record {
  source = ap source_of after
      ∙ (λ i. Some ((split.ring ∙ sym (ap ring_of made.seat ∙ split.new_ring)) i, (split.geometry ∙ sym (ap geometry_of made.seat ∙ split.new_geometry)) i));
  reader = subst (λ (x : ReaderSeat). IsNewRecording x t.rate p) (sym made.seat) made;
}
