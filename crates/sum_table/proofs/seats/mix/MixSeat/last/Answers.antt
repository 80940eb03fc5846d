use Rattle.sum_table.specs.Prelude.{arith, IfSome, Option, subst, sym, ℕ, ◌<◌, ◌∙◌, suc-le-end_frame, end_frame, IsFrom, free_from}
use Rattle.sum_table.proofs.Seated.{last_frame-before}
use Rattle.sum_table.proofs.seats.mix.MixSeat.last.Goals as goal

pub returns-clause-before_end : goal.returns-clause-before_end
returns-clause-before_end c =
    let s = c.args.self.now in
    subst (λ (o : Option ℕ). IfSome o (λ frame. frame < end_frame s.key.geometry)) (s.known.same_last ∙ sym c.last.ensures)
    (last_frame-before s.seat.me.0.laid (end_frame s.key.geometry) (λ i e there. let fits = suc-le-end_frame s.key.geometry e.frame (s.known.laid i e there).fits in omega (arith, fits)))

pub returns-clause-before_high : goal.returns-clause-before_high
returns-clause-before_high c = c.last.ensures ∙ sym c.args.self.now.known.reach_is.high

pub returns-clause-cursor_free : goal.returns-clause-cursor_free
returns-clause-cursor_free c =
    let s = c.args.self.now in
    subst (λ (o : Option ℕ). IsFrom s.reach.marks.cursor (free_from s.key.geometry o) 0) (sym c.last.ensures) s.known.reach_is.cursor

pub returns-clause-floor_free : goal.returns-clause-floor_free
returns-clause-floor_free c =
    let s = c.args.self.now in
    subst (λ (o : Option ℕ). IsFrom s.reach.marks.floor (free_from s.key.geometry o) 0) (sym c.last.ensures) s.known.reach_is.floor
