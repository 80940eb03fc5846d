use Rattle.std.proofs.Common.{◌≡◌, ℕ, ◌+◌, Bool, false, true, List, [], ◌∷◌, if◌then◌else◌, ap, refl, subst, sym, ◌∙◌, arith}
use Rattle.snd_base.specs.declared.places.Cursor.{Cursor}
use Rattle.sum_table.specs.Players.{next_of_player}
use Rattle.card_player.specs.declared.player.CardPlayer.{CardPlayer}
use Rattle.card_player.specs.DueLaws.{IsDue-past, is_multiple-before, is_multiple-due}
use Rattle.card_player.specs.PlayLaws.{HasPlayed-none, HasPlayed-published}
use Rattle.card_player.specs.Plays.{HasPlayed, IsDue, frame_of, is_multiple, period_at, seat_of}
use Rattle.card_player.proofs.player.CardPlayer.publish_period.Goals as goal

pub returns-then-next-due-clause-publishes : goal.returns-then-next-due-clause-publishes
returns-then-next-due-clause-publishes c =
    let p : CardPlayer = c.args.self.now in
    let frame : c.next.result.frame ≡ frame_of p = ap (λ (x : Cursor). x.frame) c.next.ensures.value in
    let within : is_multiple c.args.period (frame_of p) ≡ false = is_multiple-before c.args.period (frame_of p) c.args.due c.requires.due (λ at. c.if-next-due.true (frame ∙ at)) in
    let none : period_at c.args.period (frame_of p) ≡ [] = ap (λ (b : Bool). if b then frame_of p ∷ [] else []) within in
    record {
      played = subst (λ (ps : List ℕ). HasPlayed (seat_of p) (seat_of p) [] ps) (sym none) (HasPlayed-none (seat_of p));
      next = refl;
      period = refl;
    }

pub returns-clause-publishes : goal.returns-clause-publishes
returns-clause-publishes c =
    let p : CardPlayer = c.args.self.now in
    let frame : c.next.result.frame ≡ frame_of p = ap (λ (x : Cursor). x.frame) c.next.ensures.value in
    let at : frame_of p ≡ c.args.due = omega (arith, frame, c.if-next-due.false) in
    let multiple : is_multiple c.args.period (frame_of p) ≡ true = is_multiple-due c.args.period (frame_of p) c.args.due c.requires.due at in
    let one : period_at c.args.period (frame_of p) ≡ frame_of p ∷ [] = ap (λ (b : Bool). if b then frame_of p ∷ [] else []) multiple in
    record {
      played = subst (λ (ps : List ℕ). HasPlayed (seat_of p) c.publish.new.self [] ps) (sym one) (HasPlayed-published (seat_of p) c.publish.new.self c.publish.ensures);
      next = c.publish.ensures.next;
      period = refl;
    }

pub returns-clause-due : goal.returns-clause-due
returns-clause-due c =
    let p : CardPlayer = c.args.self.now in
    let frame : c.next.result.frame ≡ frame_of p = ap (λ (x : Cursor). x.frame) c.next.ensures.value in
    let at : frame_of p ≡ c.args.due = omega (arith, frame, c.if-next-due.false) in
    let stays : (next_of_player c.publish.new.self).frame ≡ frame_of p = ap (λ (x : Cursor). x.frame) c.publish.ensures.next in
    subst (λ (n : ℕ). IsDue c.args.period (n + 1) (c.args.due + c.args.period)) (sym stays)
    (IsDue-past c.args.period (frame_of p) c.args.due c.requires.period c.requires.due at)
