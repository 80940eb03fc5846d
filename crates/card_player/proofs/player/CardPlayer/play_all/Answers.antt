use Rattle.std.proofs.Common.{◌≡◌, ◌*◌, ◌+◌, ◌&&◌, ℕ, ℤ, List, nat_lt, ◌∙◌, arith, subst, sym, ap}
use Rattle.sum_table.specs.declared.view.Key.{Key}
use Rattle.snd_base.specs.declared.places.Cursor.{Cursor}
use Rattle.card_player.specs.declared.player.CardPlayer.{CardPlayer}
use Rattle.card_player.specs.Plays.{IsDue, ends_period, frame_of, geometry_of, is_multiple, seat_of}
use Rattle.card_player.specs.FillLaws.{HasFilled, HasFilled-ended, HasFilled-more, HasFilled-published}
use Rattle.card_player.proofs.player.CardPlayer.play_all.Goals as goal

pub publish_period-due-requires-clause-due : goal.publish_period-due-requires-clause-due
publish_period-due-requires-clause-due c =
    let next : frame_of c.take_frame_of.new.self ≡ frame_of c.loop-frame.self + 1 = ap (λ (x : Cursor). x.frame) c.take_frame_of.ensures.next in
    subst (λ (n : ℕ). IsDue c.args.period n c.loop-frame.due) (sym next) c.loop-frame.invariant.due

pub take_frame_of-requires-clause-channels : goal.take_frame_of-requires-clause-channels
take_frame_of-requires-clause-channels c =
    c.requires.channels ∙ sym (ap (λ (k : Key). k.geometry.channels) c.loop-frame.invariant.filled.played.goes.key)

pub loop-frame-preserved : goal.loop-frame-preserved
loop-frame-preserved c =
    let was = c.loop-frame.invariant in
    let at_is : c.loop-frame.frame * c.args.channels ≡ c.loop-frame.frame * (geometry_of c.args.self.now).channels = ap (λ n. c.loop-frame.frame * n) c.requires.channels in
    record {
      filled = HasFilled-more c.args.self.now.seat c.loop-frame.self.seat c.take_frame_of.new.self.seat c.publish_period-due.new.self.seat c.args.period
          c.loop-frame.frame (c.loop-frame.frame * c.args.channels) c.args.out.now c.loop-frame.out c.take_frame_of.new.out
          was.filled at_is c.take_frame_of.ensures.played c.take_frame_of.ensures.next c.take_frame_of.ensures.before c.take_frame_of.ensures.rest
          c.publish_period-due.ensures.publishes.played c.publish_period-due.ensures.publishes.next;
      period = c.publish_period-due.ensures.publishes.period ∙ (c.take_frame_of.ensures.period ∙ was.period);
      due = c.publish_period-due.ensures.due;
    }

-- what the test of the last period says, where all frames were played
ended_is : (p q : CardPlayer) (period frames : ℕ) (old new : List ℤ) → HasFilled (seat_of p) (seat_of q) period frames old new
    → (nat_lt 0 frames && is_multiple period (frame_of q)) ≡ ends_period period (frame_of p) frames
ended_is p q period frames old new was = ap (λ (w : Cursor). nat_lt 0 frames && is_multiple period w.frame) was.next

pub returns-then-not-has_ended_period : goal.returns-then-not-has_ended_period
returns-then-not-has_ended_period c =
    let all : c.loop-frame.frame ≡ c.args.frames = omega (arith, c.loop-frame-test.false, c.loop-frame.auto.frame-end) in
    let was = subst (λ n. HasFilled c.args.self.now.seat c.loop-frame.self.seat c.args.period n c.args.out.now c.loop-frame.out) all c.loop-frame.invariant.filled in
    let ended = sym (ended_is c.args.self.now c.loop-frame.self c.args.period c.args.frames c.args.out.now c.loop-frame.out was) ∙ (sym c.has_ended_period.ensures ∙ c.if-not-has_ended_period.true) in
    record {
      played = HasFilled-published c.args.self.now.seat c.loop-frame.self.seat c.publish.new.self c.args.period c.args.frames c.args.out.now c.loop-frame.out was ended c.publish.ensures;
      next = c.publish.ensures.next ∙ was.next;
      rest = was.rest;
      period = c.loop-frame.invariant.period;
    }

pub returns-else-not-has_ended_period : goal.returns-else-not-has_ended_period
returns-else-not-has_ended_period c =
    let all : c.loop-frame.frame ≡ c.args.frames = omega (arith, c.loop-frame-test.false, c.loop-frame.auto.frame-end) in
    let was = subst (λ n. HasFilled c.args.self.now.seat c.loop-frame.self.seat c.args.period n c.args.out.now c.loop-frame.out) all c.loop-frame.invariant.filled in
    let ended = sym (ended_is c.args.self.now c.loop-frame.self c.args.period c.args.frames c.args.out.now c.loop-frame.out was) ∙ (sym c.has_ended_period.ensures ∙ c.if-not-has_ended_period.false) in
    record {
      played = HasFilled-ended c.args.self.now.seat c.loop-frame.self.seat c.args.period c.args.frames c.args.out.now c.loop-frame.out was ended;
      next = was.next;
      rest = was.rest;
      period = c.loop-frame.invariant.period;
    }
