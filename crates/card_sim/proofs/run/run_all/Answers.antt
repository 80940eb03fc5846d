use Rattle.card_sim.specs.Prelude.{ap, arith, drop, length, List, nat_lt, subst, sym, take, ℕ, ℤ, [], ◌&&◌, ◌*◌, ◌+◌, ◌<◌, ◌∙◌, ◌≡◌, ◌≤◌, Cursor, end_frame}
use Rattle.card_sim.specs.Prelude.{last_number, WriterSeat, CardPlayer, HasFilled, HasFilled-more, ends_period, first_samples, frame_of, geometry_of}
use Rattle.card_sim.specs.Prelude.{is_multiple, IsDue, periods_to, seat_of, moments_to, position_of_writer, HasCaptured-more, RunsFrames-ended}
use Rattle.card_sim.specs.Prelude.{RunsFrames-published, HasCaptured}
use Rattle.std.proofs.lemmas.Nat.{mul-le}
use Rattle.sum_table.specs.declared.view.Key.{Key}
use Rattle.card_sim.proofs.Watching.{position_of_writer-captured, saw-ended, saw-more, saw-published}
use Rattle.card_sim.proofs.run.run_all.Goals as goal

-- a frame's samples are among those of all frames
frame_within : (p q : CardPlayer) (period frame frames channels n : ℕ) (old new : List ℤ) → HasFilled (seat_of p) (seat_of q) period frame old new → frame < frames
    → channels ≡ (geometry_of p).channels → frames * (geometry_of p).channels ≤ n → frame * channels + (geometry_of q).channels ≤ n
frame_within p q period frame frames channels n old new filled before is holds =
    let same : (geometry_of q).channels ≡ channels = ap (λ (k : Key). k.geometry.channels) filled.played.goes.key ∙ sym is in
    let all : frames * channels ≤ n = rw is holds in
    omega (arith, same, all, mul-le (frame + 1) channels frames channels (omega (arith, before)) (omega arith))

pub run_frame-requires-clause-captured : goal.run_frame-requires-clause-captured
run_frame-requires-clause-captured g c =
    frame_within c.args.player.now c.loop-frame.player _ c.loop-frame.frame c.args.frames c.args.channels (length c.args.captured.now) _ _ c.loop-frame.invariant.filled
    c.loop-frame-test.true c.requires.channels c.requires.can_run.captured_holds

pub run_frame-requires-clause-room : goal.run_frame-requires-clause-room
run_frame-requires-clause-room g c =
    subst (λ (n : ℕ). c.loop-frame.frame * c.args.channels + (geometry_of c.loop-frame.player).channels ≤ n) (sym c.loop-frame.auto.out)
    (frame_within c.args.player.now c.loop-frame.player _ c.loop-frame.frame c.args.frames c.args.channels (length c.args.out.now) _ _ c.loop-frame.invariant.filled
    c.loop-frame-test.true c.requires.channels c.requires.can_run.out_holds)

-- the ring has a frame more
frame_left : (at first frame frames end_then end : ℕ) → at ≡ first + frame → frame < frames → first + frames ≤ end → end_then ≡ end → at < end_then
frame_left at first frame frames end_then end at_is before holds same = omega (arith, at_is, before, holds, same)

pub run_frame-requires-clause-fits : goal.run_frame-requires-clause-fits
run_frame-requires-clause-fits g c =
    let filled = c.loop-frame.invariant.filled in
    frame_left (frame_of c.loop-frame.player) (frame_of c.args.player.now) c.loop-frame.frame c.args.frames (end_frame (geometry_of c.loop-frame.player)) (end_frame (geometry_of c.args.player.now))
    (ap (λ (x : Cursor). x.frame) filled.next) c.loop-frame-test.true c.requires.can_run.rings_hold (ap (λ (k : Key). end_frame k.geometry) filled.played.goes.key)

pub publish_period-due-requires-clause-due : goal.publish_period-due-requires-clause-due
publish_period-due-requires-clause-due g c =
    let next : frame_of c.run_frame.new.player ≡ frame_of c.loop-frame.player + 1 = ap (λ (x : Cursor). x.frame) c.run_frame.ensures.runs.takes.next in
    subst (λ (n : ℕ). IsDue c.args.period n c.loop-frame.due) (sym next) c.loop-frame.invariant.due

pub run_frame-requires-clause-channels : goal.run_frame-requires-clause-channels
run_frame-requires-clause-channels g c =
    c.requires.channels ∙ sym (ap (λ (k : Key). k.geometry.channels) c.loop-frame.invariant.filled.played.goes.key)

pub loop-frame-preserved : goal.loop-frame-preserved
loop-frame-preserved g c =
    let p : CardPlayer = c.args.player.now in
    let q : CardPlayer = c.loop-frame.player in
    let w : WriterSeat = c.args.writer.now in
    let v : WriterSeat = c.loop-frame.writer in
    let u : WriterSeat = c.run_frame.new.writer in
    let at : ℕ = c.loop-frame.frame * c.args.channels in
    let filled = c.loop-frame.invariant.filled in
    let ran = c.run_frame.ensures.runs in
    let at_is : at ≡ c.loop-frame.frame * (geometry_of p).channels = ap (λ (n : ℕ). c.loop-frame.frame * n) c.requires.channels in
    let same : (geometry_of q).channels ≡ (geometry_of p).channels = ap (λ (k : Key). k.geometry.channels) filled.played.goes.key in
    let frame_is : frame_of q ≡ frame_of p + c.loop-frame.frame = ap (λ (x : Cursor). x.frame) filled.next in
    let last_is : frame_of c.run_frame.new.player ≡ frame_of p + c.loop-frame.frame + 1 =
    ap (λ (x : Cursor). x.frame) ran.takes.next ∙ ap (λ (n : ℕ). n + 1) frame_is in
    record {
      filled = HasFilled-more (seat_of p) (seat_of q) (seat_of c.run_frame.new.player) (seat_of c.publish_period-due.new.player) c.args.period c.loop-frame.frame at c.args.out.now c.loop-frame.out c.run_frame.new.out
          filled at_is ran.takes.played ran.takes.next ran.takes.before ran.takes.rest c.publish_period-due.ensures.publishes.played c.publish_period-due.ensures.publishes.next;
      captured = HasCaptured-more w v u c.publish_period-due.new.writer c.args.captured.now c.args.period (frame_of p) c.loop-frame.frame at (geometry_of p).channels (frame_of c.run_frame.new.player)
          c.loop-frame.invariant.captured at_is
          (subst (λ (n : ℕ). HasCaptured v u (drop at (take (at + n) c.args.captured.now)) []) same ran.stored)
          last_is c.publish_period-due.ensures.publishes.stored;
      in_step = c.publish_period-due.ensures.publishes.in_step;
      due = c.publish_period-due.ensures.due;
      watched = saw-more g.W.Watch.saw g.met.W.Watch.saw_composes _ _ _ _ c.args.period (frame_of p) (position_of_writer w) c.loop-frame.frame _ _ _ _ _
          c.loop-frame.invariant.watched
          c.run_frame.ensures.watched frame_is
          (filled.played.position ∙ ap (λ (n : ℕ). last_number n (periods_to c.args.period (frame_of p) c.loop-frame.frame)) c.requires.can_run.published)
          (position_of_writer-captured w v _ _ c.loop-frame.invariant.captured)
          c.publish_period-due.ensures.watched last_is
          (position_of_writer-captured v u _ [] ran.stored);
    }

-- what the test of the last period says, where all frames were run
ended_is : (p q : CardPlayer) (period n : ℕ) (old new : List ℤ) → HasFilled (seat_of p) (seat_of q) period n old new
    → (nat_lt 0 n && is_multiple period (frame_of q)) ≡ ends_period period (frame_of p) n
ended_is p q period n old new filled = ap (λ (x : Cursor). nat_lt 0 n && is_multiple period x.frame) filled.next

-- the loop ran all frames
all_run : (frame frames : ℕ) → frames ≤ frame → frame ≤ frames → frame ≡ frames
all_run frame frames least most = omega (arith, least, most)

pub returns-then-not-has_ended_period : goal.returns-then-not-has_ended_period
returns-then-not-has_ended_period g c =
    let p : CardPlayer = c.args.player.now in
    let q : CardPlayer = c.loop-frame.player in
    let all : c.loop-frame.frame ≡ c.args.frames = all_run c.loop-frame.frame c.args.frames c.loop-frame-test.false c.loop-frame.auto.frame-end in
    let filled = subst (λ (n : ℕ). HasFilled (seat_of p) (seat_of q) c.args.period n c.args.out.now c.loop-frame.out) all c.loop-frame.invariant.filled in
    let caught = subst (λ (n : ℕ). HasCaptured c.args.writer.now c.loop-frame.writer (first_samples p n c.args.captured.now) (periods_to c.args.period (frame_of p) n)) all c.loop-frame.invariant.captured in
    let watched = subst (λ (n : ℕ). g.W.Watch.saw c.args.watch.now c.loop-frame.watch (moments_to c.args.period (frame_of p) (position_of_writer c.args.writer.now) n)) all c.loop-frame.invariant.watched in
    let not_ended = sym (ended_is p q c.args.period c.args.frames c.args.out.now c.loop-frame.out filled) ∙ (sym c.has_ended_period.ensures ∙ c.if-not-has_ended_period.true) in
    record {
      runs = RunsFrames-published p q c.publish.new.player c.args.writer.now c.loop-frame.writer c.publish.new.writer c.args.period c.args.frames c.args.captured.now c.args.out.now c.loop-frame.out
          filled caught not_ended c.publish.ensures.publishes.played c.publish.ensures.publishes.stored c.publish.ensures.publishes.next c.publish.ensures.publishes.in_step;
      watched = saw-published g.W.Watch.saw g.met.W.Watch.saw_composes _ _ _ c.args.period (frame_of p) (position_of_writer c.args.writer.now) c.args.frames _ _
          watched not_ended c.publish.ensures.watched
          (ap (λ (x : Cursor). x.frame) filled.next)
          (position_of_writer-captured c.args.writer.now c.loop-frame.writer _ _ caught);
    }

pub returns-else-not-has_ended_period : goal.returns-else-not-has_ended_period
returns-else-not-has_ended_period g c =
    let p : CardPlayer = c.args.player.now in
    let q : CardPlayer = c.loop-frame.player in
    let all : c.loop-frame.frame ≡ c.args.frames = all_run c.loop-frame.frame c.args.frames c.loop-frame-test.false c.loop-frame.auto.frame-end in
    let filled = subst (λ (n : ℕ). HasFilled (seat_of p) (seat_of q) c.args.period n c.args.out.now c.loop-frame.out) all c.loop-frame.invariant.filled in
    let caught = subst (λ (n : ℕ). HasCaptured c.args.writer.now c.loop-frame.writer (first_samples p n c.args.captured.now) (periods_to c.args.period (frame_of p) n)) all c.loop-frame.invariant.captured in
    let watched = subst (λ (n : ℕ). g.W.Watch.saw c.args.watch.now c.loop-frame.watch (moments_to c.args.period (frame_of p) (position_of_writer c.args.writer.now) n)) all c.loop-frame.invariant.watched in
    let ended = sym (ended_is p q c.args.period c.args.frames c.args.out.now c.loop-frame.out filled) ∙ (sym c.has_ended_period.ensures ∙ c.if-not-has_ended_period.false) in
    record {
      runs = RunsFrames-ended p q c.args.writer.now c.loop-frame.writer c.args.period c.args.frames c.args.captured.now c.args.out.now c.loop-frame.out
          filled caught ended c.loop-frame.invariant.in_step;
      watched = saw-ended g.W.Watch.saw _ _ c.args.period (frame_of p) (position_of_writer c.args.writer.now) c.args.frames watched ended;
    }
