use Rattle.card_sim.specs.Prelude.{ap, Bool, false, length, List, min, refl, subst, sym, true, ℕ, ℤ, ◌-◌, ◌/◌, ◌∙◌, ◌≡◌, Geometry, Cursor, end_frame}
use Rattle.card_sim.specs.Prelude.{next_of_player, position_of_player, WriterSeat, CardPlayer, last_number-positions_of, frame_of, frames_left, geometry_of}
use Rattle.card_sim.specs.Prelude.{seat_of, RunsFrames-alone, RunsFrames, AreSeatsOfCard}
use Rattle.card_sim.proofs.card.Card.run.Goals as goal

pub invariant_of-self : goal.invariant_of-self
invariant_of-self g c =
    let p : CardPlayer = c.args.self.now.player in
    let plays = c.play_by.ensures.plays in
    let runs = RunsFrames-alone p c.play_by.new.self c.args.self.now.writer c.args.self.now.period (frames_left p c.args.out.now) c.args.captured.now c.args.out.now
    c.play_by.new.out plays c.args.self.now.in_step.geometry in
    record {
      period_least = c.args.self.now.period_least;
      in_step = subst (λ (b : Bool). AreSeatsOfCard b c.play_by.new.self c.args.self.now.writer) (sym c.if-not-self.true) runs.in_step;
      published = plays.played.position
          ∙ (last_number-positions_of (position_of_player (seat_of p)) c.args.self.now.period (frame_of p) (frames_left p c.args.out.now)
          ∙ sym (ap (λ (x : Cursor). x.frame) plays.next));
    }

pub invariant_of-self-2 : goal.invariant_of-self-2
invariant_of-self-2 g c =
    let runs = c.run_frames.ensures.runs in
    record {
      period_least = c.args.self.now.period_least;
      in_step = subst (λ (b : Bool). AreSeatsOfCard b c.run_frames.new.player c.run_frames.new.writer) (sym c.if-not-self.false) runs.in_step;
      published = runs.played.position
          ∙ (last_number-positions_of (position_of_player (seat_of c.args.self.now.player)) c.args.self.now.period (frame_of c.args.self.now.player) c.min-left.result
          ∙ sym (ap (λ (x : Cursor). x.frame) runs.next));
    }

-- the number of frames that the card runs for, as it is reckoned
left_is : (p : CardPlayer) (g : Geometry) (next : Cursor) (end left : ℕ) (out : List ℤ) → left ≡ min (end - next.frame) (length out / g.channels)
    → end ≡ end_frame g → g ≡ geometry_of p → next ≡ next_of_player (seat_of p) → left ≡ frames_left p out
left_is p g next end left out left_of end_of same next_of =
    left_of ∙ (ap (λ (n : ℕ). min (n - next.frame) (length out / g.channels)) end_of
    ∙ (ap (λ (h : Geometry). min (end_frame h - next.frame) (length out / h.channels)) same
    ∙ ap (λ (x : Cursor). min (end_frame (geometry_of p) - x.frame) (length out / (geometry_of p).channels)) next_of))

-- a run of a card that records, and of one that doesn't
runs_as : (records is : Bool) (p q : CardPlayer) (w v : WriterSeat) (period n m : ℕ) (captured old new : List ℤ) → records ≡ is → n ≡ m → RunsFrames is p w q v period n captured old new
    → RunsFrames records p w q v period m captured old new
runs_as records is p q w v period n m captured old new same count runs =
    subst (λ (k : ℕ). RunsFrames records p w q v period k captured old new) count (subst (λ (b : Bool). RunsFrames b p w q v period n captured old new) (sym same) runs)

pub returns-then-not-self-clause-runs : goal.returns-then-not-self-clause-runs
returns-then-not-self-clause-runs g c =
    let p : CardPlayer = c.args.self.now.player in
    runs_as c.args.self.now.records false p c.play_by.new.self c.args.self.now.writer c.args.self.now.writer c.args.self.now.period (frames_left p c.args.out.now) (frames_left p c.args.out.now)
    c.args.captured.now c.args.out.now c.play_by.new.out c.if-not-self.true refl
    (RunsFrames-alone p c.play_by.new.self c.args.self.now.writer c.args.self.now.period (frames_left p c.args.out.now) c.args.captured.now c.args.out.now c.play_by.new.out c.play_by.ensures.plays c.args.self.now.in_step.geometry)

pub returns-then-left-frames-clause-runs : goal.returns-then-left-frames-clause-runs
returns-then-left-frames-clause-runs g c =
    let p : CardPlayer = c.args.self.now.player in
    runs_as c.args.self.now.records true p c.run_frames.new.player c.args.self.now.writer c.run_frames.new.writer c.args.self.now.period c.min-left.result (frames_left p c.args.out.now)
    c.args.captured.now c.args.out.now c.run_frames.new.out c.if-not-self.false
    (left_is p c.geometry-geometry.result c.next-first.result c.end_frame.result c.min-left.result c.args.out.now c.min-left.ensures c.end_frame.ensures c.geometry-geometry.ensures c.next-first.ensures)
    c.run_frames.ensures.runs

pub returns-clause-runs : goal.returns-clause-runs
returns-clause-runs g c =
    let p : CardPlayer = c.args.self.now.player in
    runs_as c.args.self.now.records true p c.run_frames.new.player c.args.self.now.writer c.run_frames.new.writer c.args.self.now.period c.min-left.result (frames_left p c.args.out.now)
    c.args.captured.now c.args.out.now c.run_frames.new.out c.if-not-self.false
    (left_is p c.geometry-geometry.result c.next-first.result c.end_frame.result c.min-left.result c.args.out.now c.min-left.ensures c.end_frame.ensures c.geometry-geometry.ensures c.next-first.ensures)
    c.run_frames.ensures.runs
