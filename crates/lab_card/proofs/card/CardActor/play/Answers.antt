use Rattle.lab_card.specs.Prelude.{arith, inl, inr, refl, subst, ℕ, ◌+◌, ◌-◌, ◌<◌, ◌∙◌, ◌≡◌, option_copied, false, Option, ◌⊎◌, periods_to, positions_of}
use Rattle.lab_card.specs.Prelude.{period_of, Sound, CardActor, CardDid, frame_of_card, CardDid-none, KeepsRoom}
use Rattle.lab_card.proofs.Rooms.{HasRoom-after, KeepsRoom-joined, KeepsRoom-none}
use Rattle.lab_card.proofs.Running.{play-end, play-more}
use Rattle.lab_card.proofs.card.CardActor.play.Goals as goal

pub loop-piece-init : goal.loop-piece-init
loop-piece-init c =
    let a : CardActor = c.args.self.now in
    let none : 0 ≡ c.args.frames - c.args.frames = omega arith in
    record {
      least = c.frames_to_period-piece.ensures.least;
      most = c.frames_to_period-piece.ensures.most;
      ends = c.frames_to_period-piece.ensures.ends;
      few = omega arith;
      some = inl refl;
      did = subst (λ (n : ℕ). CardDid (option_copied c.args.capture) a a n (periods_to (period_of a.card) (frame_of_card a.card) n) false) none (CardDid-none (option_copied c.args.capture) a);
      keeps = subst (λ (n : ℕ). KeepsRoom a a 0 n) none (KeepsRoom-none a);
      rows = refl;
    }

pub run_piece-requires-clause-room : goal.run_piece-requires-clause-room
run_piece-requires-clause-room c =
    let was = c.loop-piece.invariant in
    HasRoom-after c.args.self.now c.loop-piece.self 0 0 (c.args.frames - c.loop-piece.left) c.loop-piece.piece 0 c.args.frames was.keeps c.requires.room (omega arith)
    (omega (arith, was.few, c.loop-piece-test.true))

pub loop-piece-preserved : goal.loop-piece-preserved
loop-piece-preserved c =
    let a : CardActor = c.args.self.now in
    let b : CardActor = c.run_piece.new.self in
    let capture : Option Sound = option_copied c.args.capture in
    let was = c.loop-piece.invariant in
    let done : ℕ = c.args.frames - c.loop-piece.left in
    let piece : ℕ = c.loop-piece.piece in
    let next : done + piece ≡ c.args.frames - (c.loop-piece.left - piece) = omega (arith, was.few, c.loop-piece-test.true) in
    record {
      least = c.frames_to_period-piece-in-loop-piece.ensures.least;
      most = c.frames_to_period-piece-in-loop-piece.ensures.most;
      ends = c.frames_to_period-piece-in-loop-piece.ensures.ends;
      few = omega (arith, was.few);
      some = inr (omega (arith, c.loop-piece-test.true));
      did = subst (λ (n : ℕ). CardDid capture a b n (periods_to (period_of a.card) (frame_of_card a.card) n) false) next
          (play-more capture a c.loop-piece.self b done piece was.did c.run_piece.ensures.did (omega (arith, was.least)) was.ends);
      keeps = subst (λ (n : ℕ). KeepsRoom a b 0 n) next (KeepsRoom-joined a c.loop-piece.self b 0 0 done piece was.keeps c.run_piece.ensures.room);
      rows = c.run_piece.ensures.rows ∙ was.rows;
    }

pub run_piece-requires-2-clause-room : goal.run_piece-requires-2-clause-room
run_piece-requires-2-clause-room c =
    let was = c.loop-piece.invariant in
    HasRoom-after c.args.self.now c.loop-piece.self 0 0 (c.args.frames - c.loop-piece.left) c.loop-piece.left 0 c.args.frames was.keeps c.requires.room (omega arith)
    (omega (arith, was.few))

pub returns-clause-did : goal.returns-clause-did
returns-clause-did c =
    let a : CardActor = c.args.self.now in
    let b : CardActor = c.run_piece-2.new.self in
    let capture : Option Sound = option_copied c.args.capture in
    let was = c.loop-piece.invariant in
    let done : ℕ = c.args.frames - c.loop-piece.left in
    let all : done + c.loop-piece.left ≡ c.args.frames = omega (arith, was.few) in
    let last : (done ≡ 0) ⊎ (0 < c.loop-piece.left) = elim was.some [ inl none ↦ inl (omega (arith, none)) | inr more ↦ inr more ] in
    subst (λ (n : ℕ). CardDid capture a b n (positions_of (period_of a.card) (frame_of_card a.card) n) false) all
    (play-end capture a c.loop-piece.self b done c.loop-piece.left was.did c.run_piece-2.ensures.did last)

pub returns-clause-room : goal.returns-clause-room
returns-clause-room c =
    let was = c.loop-piece.invariant in
    let done : ℕ = c.args.frames - c.loop-piece.left in
    let all : done + c.loop-piece.left ≡ c.args.frames = omega (arith, was.few) in
    subst (λ (n : ℕ). KeepsRoom c.args.self.now c.run_piece-2.new.self 0 n) all
    (KeepsRoom-joined c.args.self.now c.loop-piece.self c.run_piece-2.new.self 0 0 done c.loop-piece.left was.keeps c.run_piece-2.ensures.room)
