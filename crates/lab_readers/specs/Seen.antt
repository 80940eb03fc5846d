-- In a phase a reader's seat sees no more frames than the card plays, since it sees no position that the card didn't publish.
use Rattle.std.specs.Prelude.{◌≡◌, ℕ, ◌≤◌, ◌⊎◌, true, List, [], ◌∷◌, ◌++◌, map, Option}
use Rattle.std.proofs.Common.{sym, ap, ◌∙◌, arith, inl, inr, append_assoc, refl}
use mathlib.Core.Option.{some}
use lib.ListN.{get_elem?}
use Rattle.snd_base.specs.declared.geometry.Geometry.{Geometry}
use Rattle.snd_base.specs.declared.places.Cursor.{Cursor}
use Rattle.snd_base.specs.Places.{first_frame}
use Rattle.ring_rule.specs.Lists.{at_second}
use Rattle.ring_rule.specs.Positions.{IsPosition}
use Rattle.mix_core.specs.declared.port.Position.{Position}
use Rattle.mix_core.specs.Port.{last_frame}
use Rattle.snoop_table.specs.declared.seats.reader.ReaderSeat.{ReaderSeat}
use Rattle.snoop_table.specs.declared.view.View.{View}
use Rattle.snoop_table.specs.Captured.{position_of}
use Rattle.snoop_table.specs.Readers.{SeatLoaded, seat_view, seen_of, view_of}
use Rattle.snoop_table.specs.Writers.{writer_geometry, writer_track}
use Rattle.wav_io.specs.Sound.{Sound}
use Rattle.card_sim.specs.declared.card.Card.{Card}
use Rattle.card_sim.specs.Runs.{records_of, writer_of}
use Rattle.lab_lines.specs.declared.line.Line.{Line}
use Rattle.lab_lines.specs.Script.{is_of_card}
use Rattle.lab_run.specs.Phases.{ops_by, played_in}
use Rattle.lab_readers.specs.Progress.{SeesAtMost}
use Rattle.lab_card.specs.declared.card.CardActor.{CardActor}
use Rattle.lab_card.specs.Findings.{CardPhase}
use Rattle.lab_card.specs.Lists.{Each-at}
use Rattle.lab_card.specs.MeetLaws.{Rests-same}
use Rattle.lab_card.specs.Meets.{IsInformedReader, IsSameCard, IsSameReader, KnowsReader}
use Rattle.lab_card.specs.Moves.{frame_of_card, geometry_of_card}
use Rattle.lab_card.specs.MovesLaws.{frame-least}
use Rattle.lab_card.specs.PositionLaws.{frames_by-ops_by}
use Rattle.lab_card.specs.Rests.{Rests, Rests-after}

-- between the meets of a card before a phase and after it, each seat sees no more frames than the card plays in it
abbrev pub SeesPlayed : Card → Card → ℕ → Type 0
SeesPlayed c d played =
    (s t u v : ReaderSeat) (loads : List Position) → IsInformedReader c s t
    → SeatLoaded t u loads → IsSameReader u v → KnowsReader d v
    → SeesAtMost played (seat_view t) (seat_view u)

-- the last position is no later than each that is known, unless none was loaded
last_frame-known : (most : ℕ) (old : List ℕ) (low : ℕ) (ps : List Position)
    → ((i x : ℕ) → get_elem? (old ++ map (λ (p : Position). p.frame) ps) i ≡ some x → x ≤ most) → (last_frame low ps ≤ most) ⊎ (last_frame low ps ≡ low)
last_frame-known most old low [] known = inr refl
last_frame-known most old low (p ∷ ps) known =
    let here = at_second old (p.frame ∷ map (λ (x : Position). x.frame) ps) 0 p.frame refl in
    let below : p.frame ≤ most = known here.0 p.frame here.1 in
    elim (last_frame-known most (old ++ p.frame ∷ []) p.frame ps
    (λ i x at. known i x (ap (λ (xs : List ℕ). get_elem? xs i) (sym (append_assoc old (p.frame ∷ []) (map (λ (y : Position). y.frame) ps))) ∙ at))) [
      | inl fits ↦ inl fits
      | inr same ↦ inl (omega (arith, same, below))
    ]

frame-same : (c d : Card) → IsSameCard c d → frame_of_card d ≡ frame_of_card c
frame-same c d same = ap (λ (at : Cursor). at.frame) same.player.next

-- a position of a card that rests isn't past its frame
position-most : (d : Card) (x : ℕ) → Rests d → IsPosition (writer_geometry (writer_of d)) (writer_track (writer_of d)).published x → x ≤ frame_of_card d
position-most d x rests is =
    let least = frame-least d in
    let first : first_frame (writer_geometry (writer_of d)) ≡ first_frame (geometry_of_card d) = ap first_frame (sym d.in_step.geometry) in
    elim is [
      | inl start ↦ omega (arith, start, first, least)
      | inr inside ↦ Each-at (λ (y : ℕ). y ≤ frame_of_card d) (writer_track (writer_of d)).published inside.0 x inside.1 rests.captured
    ]

pub sees-played : {capture : Option Sound} {phase : ℕ} (c : Card) (a b : CardActor) (d : Card) (lines : List Line) → CardPhase capture phase c a b d lines → records_of c ≡ true
    → SeesPlayed c d (played_in lines)
sees-played {capture = capture} {phase = phase} c a b d lines is records s t u v loads informed loaded same knows =
    let start : position_of (writer_geometry (writer_of c)) (writer_track (writer_of c)) ≡ frame_of_card c =
    ap (λ (h : Geometry). position_of h (writer_track (writer_of c))) (sym c.in_step.geometry) ∙ is.rests.position records in
    let rests : Rests d = Rests-same b.card d is.after (Rests-after capture phase a b (ops_by is_of_card lines) (Rests-same c a.card is.before is.rests) is.part) in
    let before = frame-same c a.card is.before in
    let moved = is.part.did.moves.frame in
    let after = frame-same b.card d is.after in
    let frames = frames_by-ops_by lines in
    let seen = informed.seen in
    let last = loaded.last in
    let positions = ap (λ (w : View). w.positions) same.view ∙ loaded.positions in
    elim (last_frame-known (frame_of_card d) (view_of t).positions (seen_of t) loads
    (λ i x at. position-most d x rests (knows.positions i x (ap (λ (xs : List ℕ). get_elem? xs i) positions ∙ at)))) [
      | inl low ↦ omega (arith, low, last, before, moved, after, frames, seen, start)
      | inr none ↦ omega (arith, none, last)
    ]
