-- A reader is of its card's snoop ring through all that either does.
use Rattle.std.specs.Prelude.{◌≡◌, ℕ, Bool, ℤ, List, Option, Some, None}
use Rattle.std.proofs.Common.{sym, subst, ◌∙◌}
use Rattle.atomic_table.specs.Seated.{TableId}
use Rattle.snd_base.specs.declared.geometry.Geometry.{Geometry}
use Rattle.snoop_table.specs.declared.seats.reader.ReaderSeat.{ReaderSeat}
use Rattle.snoop_table.specs.Readers.{geometry_of, ring_of}
use Rattle.snoop_table.specs.Writers.{writer_geometry, writer_ring}
use Rattle.card_sim.specs.declared.card.Card.{Card}
use Rattle.card_sim.specs.Runs.{writer_of}
use Rattle.lab_lines.specs.declared.line.Line.{Line}
use Rattle.lab_run.specs.Phases.{played_in}
use Rattle.lab_run.specs.Rules.{AtPort}
use Rattle.lab_card.specs.MeetLaws.{IsReaderOf-moved, IsReaderOf-same}
use Rattle.lab_card.specs.Meets.{IsInformedReader, IsReaderOf, IsSameCard, IsSameReader}
use Rattle.lab_card.specs.Moves.{CardMoves}
use Rattle.lab_readers.specs.declared.reader.LabReader.{LabReader}
use Rattle.lab_readers.specs.OneReader.{IsAt, IsOfCard, IsSeatedAt, OnSeat, OnSeats, ops_of}
use Rattle.lab_readers.specs.OpenReader.{RunsLines, HasRunAt, IsReaderHeard, IsReaderInformed, IsSameBut}

-- a card is over a snoop ring of a geometry
pub record IsOver (ring : TableId) (geometry : Geometry) (c : Card) : Type 0 where
  pub of_ring : writer_ring (writer_of c) ≡ ring
  pub of_geometry : writer_geometry (writer_of c) ≡ geometry

-- it stays over it, whatever it does
pub IsOver-same : (ring : TableId) (geometry : Geometry) (c d : Card) → IsSameCard c d → IsOver ring geometry c → IsOver ring geometry d
IsOver-same ring geometry c d same over = record { of_ring = same.writer.ring ∙ over.of_ring; of_geometry = same.writer.geometry ∙ over.of_geometry }

pub IsOver-moved : (ring : TableId) (geometry : Geometry) (c d : Card) (n : ℕ) (xs ys : List ℤ) (ps : List ℕ) (b : Bool) → CardMoves c d n xs ys ps b → IsOver ring geometry c
    → IsOver ring geometry d
IsOver-moved ring geometry c d n xs ys ps b moves over = record { of_ring = moves.writer.ring ∙ over.of_ring; of_geometry = moves.writer.geometry ∙ over.of_geometry }

-- ---- a reader of a card

-- a reader that is at its port is of each card over its ring
pub IsOfCard-at : (ring : TableId) (geometry : Geometry) (c : Card) (r : LabReader) (before : AtPort) → IsOver ring geometry c → IsAt ring geometry r before → IsOfCard c r
IsOfCard-at ring geometry c r before over at = by_seat r.seat at
  where
    by_seat : (p : Option ReaderSeat) → IsSeatedAt ring geometry r.actor p before → OnSeat p (IsReaderOf c)
    by_seat None is = tt
    by_seat (Some s) is = (is.of_ring ∙ sym over.of_ring, is.of_geometry ∙ sym over.of_geometry)

-- seats of one ring are of one card
of-ring : (c : Card) (s t : ReaderSeat) → ring_of t ≡ ring_of s → geometry_of t ≡ geometry_of s → IsReaderOf c s → IsReaderOf c t
of-ring c s t ring geometry is = (ring ∙ is.0, geometry ∙ is.1)

OnSeat-more : (P Q : ReaderSeat → Type 0) (p : Option ReaderSeat) → ((s : ReaderSeat) → P s → Q s) → OnSeat p P → OnSeat p Q
OnSeat-more P Q None more is = tt
OnSeat-more P Q (Some s) more is = more s is

OnSeats-follow : (P Q : ReaderSeat → Type 0) (R : ReaderSeat → ReaderSeat → Type 0) (p q : Option ReaderSeat) → ((s t : ReaderSeat) → R s t → P s → Q t) → OnSeats p q R → OnSeat p P
    → OnSeat q Q
OnSeats-follow P Q R None None follow on is = tt
OnSeats-follow P Q R (Some s) (Some t) follow on is = follow s t on is
OnSeats-follow P Q R None (Some t) follow on is = absurd on
OnSeats-follow P Q R (Some s) None follow on is = absurd on

-- whatever the card does
pub IsOfCard-same : (c d : Card) (r : LabReader) → IsSameCard c d → IsOfCard c r → IsOfCard d r
IsOfCard-same c d r same is = OnSeat-more (IsReaderOf c) (IsReaderOf d) r.seat (λ s. IsReaderOf-same c d s same) is

pub IsOfCard-moved : (c d : Card) (r : LabReader) (n : ℕ) (xs ys : List ℤ) (ps : List ℕ) (b : Bool) → CardMoves c d n xs ys ps b → IsOfCard c r → IsOfCard d r
IsOfCard-moved c d r n xs ys ps b moves is = OnSeat-more (IsReaderOf c) (IsReaderOf d) r.seat (λ s. IsReaderOf-moved c d s n xs ys ps b moves) is

-- whatever the reader does
pub IsOfCard-kept : (c : Card) (r s : LabReader) → IsSameBut r s → IsOfCard c r → IsOfCard c s
IsOfCard-kept c r s same is = subst (λ (seat : Option ReaderSeat). OnSeat seat (IsReaderOf c)) (sym same.seat) is

pub IsOfCard-informed : (c d : Card) (r s : LabReader) → IsReaderInformed d r s → IsOfCard c r → IsOfCard c s
IsOfCard-informed c d r s informed is =
    OnSeats-follow (IsReaderOf c) (IsReaderOf c) (IsInformedReader d) r.seat s.seat (λ p q on. of-ring c p q on.ring on.geometry) informed.seats is

pub IsOfCard-heard : (c d : Card) (r s : LabReader) → IsReaderHeard d r s → IsOfCard c r → IsOfCard c s
IsOfCard-heard c d r s heard is = OnSeats-follow (IsReaderOf c) (IsReaderOf c) IsSameReader r.seat s.seat (λ p q on. of-ring c p q on.ring on.geometry) heard.seats is

pub IsOfCard-ran : (c : Card) (phase stops after asks : ℕ) (lines : List Line) (r s : LabReader) → RunsLines phase stops after asks lines r s → IsOfCard c r → IsOfCard c s
IsOfCard-ran c phase stops after asks lines r s has is = by_seats r.seat s.seat has.ran is
  where
    by_seats : (p q : Option ReaderSeat) → HasRunAt phase stops after asks (played_in lines) (ops_of r lines) r.actor s.actor p q → OnSeat p (IsReaderOf c) → OnSeat q (IsReaderOf c)
    by_seats None None has of = tt
    by_seats (Some t) (Some u) has of = of-ring c t u has.same_ring.0 has.same_ring.1 of
    by_seats None (Some u) has of = absurd has
    by_seats (Some t) None has of = absurd has
