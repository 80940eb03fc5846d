use Rattle.card_sim.specs.Prelude.{ap, arith, Bool, false, if◌then◌else◌, List, refl, subst, sym, ℕ, [], ◌+◌, ◌∙◌, ◌∷◌, ◌≡◌, Cursor, WriterSeat, CardPlayer}
use Rattle.card_sim.specs.Prelude.{HasPlayed-none, frame_of, is_multiple, IsDue, period_at, seat_of, position_of_writer, publish_moments, HasCaptured-none}
use Rattle.card_sim.specs.Prelude.{PublishesBoth}
use Rattle.card_player.specs.DueLaws.{IsDue-past, is_multiple-before}
use Rattle.card_sim.proofs.run.publish_period.Goals as goal

pub returns-then-next-due-clause-publishes : goal.returns-then-next-due-clause-publishes
returns-then-next-due-clause-publishes g c =
    let p : CardPlayer = c.args.player.now in
    let w : WriterSeat = c.args.writer.now in
    let frame : c.next.result.frame ≡ frame_of p = ap (λ (x : Cursor). x.frame) c.next.ensures in
    let within : is_multiple c.args.period (frame_of p) ≡ false = is_multiple-before c.args.period (frame_of p) c.args.due c.requires.due (λ at. c.if-next-due.true (frame ∙ at)) in
    let none : period_at c.args.period (frame_of p) ≡ [] = ap (λ (b : Bool). if b then frame_of p ∷ [] else []) within in
    subst (λ (ps : List ℕ). PublishesBoth p w p w ps) (sym none)
    (record { played = HasPlayed-none (seat_of p); stored = HasCaptured-none w; next = refl; in_step = c.requires.in_step })

pub returns-then-next-due-clause-watched : goal.returns-then-next-due-clause-watched
returns-then-next-due-clause-watched g c =
    let p : CardPlayer = c.args.player.now in
    let w : WriterSeat = c.args.writer.now in
    let frame : c.next.result.frame ≡ frame_of p = ap (λ (x : Cursor). x.frame) c.next.ensures in
    let within : is_multiple c.args.period (frame_of p) ≡ false = is_multiple-before c.args.period (frame_of p) c.args.due c.requires.due (λ at. c.if-next-due.true (frame ∙ at)) in
    subst (λ (b : Bool). g.W.Watch.saw c.args.watch.now c.args.watch.now (if b then publish_moments (frame_of p) (position_of_writer w) else [])) (sym within)
    (g.met.W.Watch.saw_composes.none c.args.watch.now)

pub returns-clause-due : goal.returns-clause-due
returns-clause-due g c =
    let p : CardPlayer = c.args.player.now in
    let frame : c.next.result.frame ≡ frame_of p = ap (λ (x : Cursor). x.frame) c.next.ensures in
    let at : frame_of p ≡ c.args.due = omega (arith, frame, c.if-next-due.false) in
    let stays : frame_of c.publish.new.player ≡ frame_of p = ap (λ (x : Cursor). x.frame) c.publish.ensures.publishes.next in
    subst (λ (n : ℕ). IsDue c.args.period (n + 1) (c.args.due + c.args.period)) (sym stays)
    (IsDue-past c.args.period (frame_of p) c.args.due c.requires.period c.requires.due at)
