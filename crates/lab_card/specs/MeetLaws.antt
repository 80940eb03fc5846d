-- Meets one after the other: what stays of a card, of its rings and of what a phase allows.
use Rattle.std.specs.Prelude.{◌≡◌, ℕ, ◌≤◌, Bool, true, List, Option}
use Rattle.std.proofs.Common.{refl, sym, ap, subst, ◌∙◌}
use Rattle.snd_base.specs.declared.geometry.Geometry.{Geometry}
use Rattle.snd_base.specs.declared.places.Cursor.{Cursor}
use Rattle.snd_base.specs.Places.{first_frame}
use Rattle.ring_rule.specs.Positions.{last_number}
use Rattle.sum_table.specs.declared.seats.mix.MixSeat.{MixSeat}
use Rattle.sum_table.specs.declared.view.Key.{Key}
use Rattle.sum_table.specs.declared.view.Track.{Track}
use Rattle.snoop_table.specs.declared.seats.reader.ReaderSeat.{ReaderSeat}
use Rattle.snoop_table.specs.declared.view.Track as snoop_track
use Rattle.snoop_table.specs.Writers.{writer_track}
use Rattle.sum_table.specs.Players.{track_of}
use Rattle.card_sim.specs.declared.card.Card.{Card}
use Rattle.card_sim.specs.Runs.{period_of, records_of, writer_of}
use Rattle.wav_io.specs.Sound.{Sound}
use Rattle.lab_lines.specs.declared.line.Line.{Line}
use Rattle.lab_run.specs.ActorPart.{Each}
use Rattle.lab_run.specs.Phases.{phase_positions}
use Rattle.lab_run.specs.Rules.{Rules}
use Rattle.lab_card.specs.declared.card.CardActor.{CardActor}
use Rattle.lab_card.specs.Findings.{CardPhase, rules_between}
use Rattle.lab_card.specs.Meets.{IsClientOf, IsReaderOf, IsSameCard}
use Rattle.lab_card.specs.Moves.{CardMoves, frame_of_card, geometry_of_card, is_gone, seat_of_card}
use Rattle.lab_card.specs.Rests.{Rests}
use Rattle.std.specs.Prelude.{ℤ}

pub IsSameCard-none : (c : Card) → IsSameCard c c
IsSameCard-none c = record {
  player = record { ring = refl; key = refl; track = refl; next = refl };
  writer = record { ring = refl; geometry = refl; track = refl; next = refl };
  period = refl;
  records = refl;
}

pub IsSameCard-joined : (c d e : Card) → IsSameCard c d → IsSameCard d e → IsSameCard c e
IsSameCard-joined c d e first then_ = record {
  player = record {
    ring = then_.player.ring ∙ first.player.ring;
    key = then_.player.key ∙ first.player.key;
    track = then_.player.track ∙ first.player.track;
    next = then_.player.next ∙ first.player.next;
  };
  writer = record {
    ring = then_.writer.ring ∙ first.writer.ring;
    geometry = then_.writer.geometry ∙ first.writer.geometry;
    track = then_.writer.track ∙ first.writer.track;
    next = then_.writer.next ∙ first.writer.next;
  };
  period = then_.period ∙ first.period;
  records = then_.records ∙ first.records;
}

-- a card that gave notes and met some is the same, seen from either end
pub IsSameCard-back : (c d : Card) → IsSameCard c d → IsSameCard d c
IsSameCard-back c d same = record {
  player = record { ring = sym same.player.ring; key = sym same.player.key; track = sym same.player.track; next = sym same.player.next };
  writer = record { ring = sym same.writer.ring; geometry = sym same.writer.geometry; track = sym same.writer.track; next = sym same.writer.next };
  period = sym same.period;
  records = sym same.records;
}

-- it plays the same frame next, and its rings have the same shape
pub frame-same : (c d : Card) → IsSameCard c d → frame_of_card d ≡ frame_of_card c
frame-same c d same = ap (λ (at : Cursor). at.frame) same.player.next

pub geometry-same : (c d : Card) → IsSameCard c d → geometry_of_card d ≡ geometry_of_card c
geometry-same c d same = ap (λ (k : Key). k.geometry) same.player.key

-- a card that rested rests
pub Rests-same : (c d : Card) → IsSameCard c d → Rests c → Rests d
Rests-same c d same rests = record {
  played = subst (λ (t : Track). Each (λ (x : ℕ). x ≤ frame_of_card d) t.published) (sym same.player.track)
      (subst (λ (n : ℕ). Each (λ (x : ℕ). x ≤ n) (track_of (seat_of_card c)).published) (sym (frame-same c d same)) rests.played);
  captured = subst (λ (t : snoop_track.Track). Each (λ (x : ℕ). x ≤ frame_of_card d) t.published) (sym same.writer.track)
      (subst (λ (n : ℕ). Each (λ (x : ℕ). x ≤ n) (writer_track (writer_of c)).published) (sym (frame-same c d same)) rests.captured);
  position = λ (recorded : records_of d ≡ true).
      ap (λ (t : snoop_track.Track). last_number (first_frame (geometry_of_card d)) t.published) same.writer.track
      ∙ (ap (λ (g : Geometry). last_number (first_frame g) (writer_track (writer_of c)).published) (geometry-same c d same)
      ∙ (rests.position (sym same.records ∙ recorded) ∙ sym (frame-same c d same)));
  gone = ap (λ (t : snoop_track.Track). t.gone) same.writer.track ∙ (rests.gone ∙ sym (ap (λ (t : Track). t.gone) same.player.track));
}

-- a seat of a card's ring stays one, whether the card met notes or did its lines
pub IsClientOf-same : (c d : Card) (s : MixSeat) → IsSameCard c d → IsClientOf c s → IsClientOf d s
IsClientOf-same c d s same is = (is.0 ∙ sym same.player.ring, is.1 ∙ sym same.player.key)

pub IsReaderOf-same : (c d : Card) (s : ReaderSeat) → IsSameCard c d → IsReaderOf c s → IsReaderOf d s
IsReaderOf-same c d s same is = (is.0 ∙ sym same.writer.ring, is.1 ∙ sym same.writer.geometry)

pub IsClientOf-moved : (c d : Card) (s : MixSeat) (n : ℕ) (xs ys : List ℤ) (ps : List ℕ) (b : Bool) → CardMoves c d n xs ys ps b → IsClientOf c s → IsClientOf d s
IsClientOf-moved c d s n xs ys ps b moves is = (is.0 ∙ sym moves.player.ring, is.1 ∙ sym moves.player.key)

pub IsReaderOf-moved : (c d : Card) (s : ReaderSeat) (n : ℕ) (xs ys : List ℤ) (ps : List ℕ) (b : Bool) → CardMoves c d n xs ys ps b → IsReaderOf c s → IsReaderOf d s
IsReaderOf-moved c d s n xs ys ps b moves is = (is.0 ∙ sym moves.writer.ring, is.1 ∙ sym moves.writer.geometry)

-- a phase allows the same, whichever of the meets before it the card is at
pub rules_between-same : (c e d : Card) (lines : List Line) → IsSameCard c e → rules_between e d lines ≡ rules_between c d lines
rules_between-same c e d lines same =
    ap (λ (g : Geometry). rules_by g (is_gone e) (period_of e) (frame_of_card e)) (geometry-same c e same)
    ∙ (ap (λ (t : Track). rules_by (geometry_of_card c) t.gone (period_of e) (frame_of_card e)) same.player.track
    ∙ (ap (λ (p : ℕ). rules_by (geometry_of_card c) (is_gone c) p (frame_of_card e)) same.period ∙ ap (rules_by (geometry_of_card c) (is_gone c) (period_of c)) (frame-same c e same)))
  where
    rules_by : Geometry → Bool → ℕ → ℕ → Rules
    rules_by g gone period from = record { at = record { ring = g; position = frame_of_card d; gone = gone }; published = phase_positions period from lines }

-- a phase of a card, from any of the meets before it to any of those after it
pub CardPhase-between : (capture : Option Sound) (phase : ℕ) (c : Card) (a b : CardActor) (d e f : Card) (lines : List Line) → IsSameCard c e → IsSameCard d f
    → CardPhase capture phase c a b d lines → CardPhase capture phase e a b f lines
CardPhase-between capture phase c a b d e f lines before after is = record {
  rests = Rests-same c e before is.rests;
  before = IsSameCard-joined e c a.card (IsSameCard-back c e before) is.before;
  part = is.part;
  plugged = is.plugged;
  after = IsSameCard-joined b.card d f is.after after;
}
