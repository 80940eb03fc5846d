-- A card between phases.
use Rattle.std.specs.Prelude.{◌≡◌, ℕ, ◌≤◌, ◌||◌, Bool, true, false, List, [], ◌++◌, Option}
use Rattle.std.proofs.Common.{sym, ap, subst, ◌∙◌, arith}
use Rattle.snd_base.specs.Places.{first_frame}
use Rattle.wav_io.specs.Sound.{Sound}
use Rattle.ring_rule.specs.Positions.{last_number}
use Rattle.sum_table.specs.declared.view.Key.{Key}
use Rattle.sum_table.specs.Players.{track_of}
use Rattle.snoop_table.specs.Writers.{writer_track}
use Rattle.card_player.specs.PlayLaws.{last_number-append}
use Rattle.card_sim.specs.declared.card.Card.{Card}
use Rattle.card_sim.specs.Runs.{captured_if, period_of, records_of, writer_of}
use Rattle.lab_lines.specs.declared.line.Op.{Op}
use Rattle.lab_run.specs.ActorPart.{Each}
use Rattle.lab_card.specs.declared.card.CardActor.{CardActor}
use Rattle.lab_card.specs.CardLines.{CardPart, positions_by, unplugs_by}
use Rattle.lab_card.specs.Lists.{Each-append, Each-less}
use Rattle.lab_card.specs.Moves.{frame_of_card, geometry_of_card, is_gone, seat_of_card}
use Rattle.lab_card.specs.PositionLaws.{last_number-positions_by, positions_by-most}

-- A card that rests: neither ring has a position that is past the frame that it plays next, which is the snoop ring's position too where it records,
-- as it is the sum ring's; and the card is gone from both rings or from none.
pub record Rests (c : Card) : Type 0 where
  pub played : Each (λ (x : ℕ). x ≤ frame_of_card c) (track_of (seat_of_card c)).published
  pub captured : Each (λ (x : ℕ). x ≤ frame_of_card c) (writer_track (writer_of c)).published
  pub position : records_of c ≡ true
      → last_number (first_frame (geometry_of_card c)) (writer_track (writer_of c)).published
      ≡ frame_of_card c
  pub gone : (writer_track (writer_of c)).gone ≡ is_gone c

-- a card over new rings rests
pub Rests-new : (c : Card) → (track_of (seat_of_card c)).published ≡ [] → (writer_track (writer_of c)).published ≡ [] → frame_of_card c ≡ first_frame (geometry_of_card c)
    → (writer_track (writer_of c)).gone ≡ is_gone c → Rests c
Rests-new c none_played none_captured first gone = record {
  played = subst (Each (λ (x : ℕ). x ≤ frame_of_card c)) (sym none_played) tt;
  captured = subst (Each (λ (x : ℕ). x ≤ frame_of_card c)) (sym none_captured) tt;
  position = λ recorded. ap (last_number (first_frame (geometry_of_card c))) none_captured ∙ sym first;
  gone = gone;
}

Each-captured_if : (P : ℕ → Type 0) (records : Bool) (xs : List ℕ) → Each P xs → Each P (captured_if records xs)
Each-captured_if P true xs each = each
Each-captured_if P false xs each = tt

-- a card that did its lines rests again
pub Rests-after : (capture : Option Sound) (phase : ℕ) (a b : CardActor) (ops : List Op) → Rests a.card → CardPart capture phase a b ops → Rests b.card
Rests-after capture phase a b ops rests part =
    let c : Card = a.card in
    let d : Card = b.card in
    let moves = part.did.moves in
    let period : ℕ = period_of c in
    let from : ℕ = frame_of_card c in
    let positions : List ℕ = positions_by period from ops in
    let later : (x : ℕ) → x ≤ from → x ≤ frame_of_card d = λ x low. omega (arith, low, moves.frame) in
    let most : Each (λ (x : ℕ). x ≤ frame_of_card d) positions = positions_by-most period from ops (frame_of_card d) (omega (arith, moves.frame)) in
    let captured : List ℕ = captured_if (records_of c) positions in
    let first : first_frame (geometry_of_card d) ≡ first_frame (geometry_of_card c) = ap (λ (k : Key). first_frame k.geometry) moves.player.key in
    record {
      played = subst (Each (λ (x : ℕ). x ≤ frame_of_card d)) (sym moves.player.published)
          (Each-append (λ (x : ℕ). x ≤ frame_of_card d) (track_of (seat_of_card c)).published positions
          (Each-less (λ (x : ℕ). x ≤ from) (λ (x : ℕ). x ≤ frame_of_card d) (track_of (seat_of_card c)).published later rests.played) most);
      captured = subst (Each (λ (x : ℕ). x ≤ frame_of_card d)) (sym moves.writer.published)
          (Each-append (λ (x : ℕ). x ≤ frame_of_card d) (writer_track (writer_of c)).published captured
          (Each-less (λ (x : ℕ). x ≤ from) (λ (x : ℕ). x ≤ frame_of_card d) (writer_track (writer_of c)).published later rests.captured)
          (Each-captured_if (λ (x : ℕ). x ≤ frame_of_card d) (records_of c) positions most));
      position = λ (recorded : records_of d ≡ true).
          let records : records_of c ≡ true = sym moves.records ∙ recorded in
          ap (λ (n : ℕ). last_number n (writer_track (writer_of d)).published) first
          ∙ (ap (last_number (first_frame (geometry_of_card c))) (moves.writer.published ∙ ap (λ (b : Bool). (writer_track (writer_of c)).published ++ captured_if b positions) records)
          ∙ (last_number-append (first_frame (geometry_of_card c)) (writer_track (writer_of c)).published positions
          ∙ (ap (λ (n : ℕ). last_number n positions) (rests.position records) ∙ (last_number-positions_by period from ops ∙ sym moves.frame))));
      gone = moves.writer.gone ∙ (ap (λ (b : Bool). b || unplugs_by ops) rests.gone ∙ sym moves.player.gone);
    }
