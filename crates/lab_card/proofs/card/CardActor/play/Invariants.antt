use Rattle.lab_card.specs.Prelude.{◌%◌, ◌+◌, ◌-◌, ◌<◌, ◌≡◌, ◌≤◌, option_copied, false, ◌⊎◌, periods_to, period_of, CardDid, frame_of_card, KeepsRoom}
use Rattle.lab_card.proofs.card.CardActor.play.Given as goal

abbrev pub invariant-loop-piece : goal.invariant-loop-piece
invariant-loop-piece l = record {
  least : 1 ≤ l.piece;
  most : l.piece ≤ period_of l.self.card;
  ends : (frame_of_card l.self.card + l.piece) % period_of l.self.card ≡ 0;
  few : l.left ≤ l.frames;
  some : (l.left ≡ l.frames) ⊎ (0 < l.left);
  did : CardDid (option_copied l.capture) l.fn.self l.self (l.frames - l.left) (periods_to (period_of l.fn.self.card) (frame_of_card l.fn.self.card) (l.frames - l.left)) false;
  keeps : KeepsRoom l.fn.self l.self 0 (l.frames - l.left);
  rows : l.self.rows ≡ l.fn.self.rows;
}

abbrev pub decreases-loop-piece : goal.decreases-loop-piece
decreases-loop-piece l = l.left
