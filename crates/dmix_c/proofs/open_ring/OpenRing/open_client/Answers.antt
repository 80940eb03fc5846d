use Rattle.dmix_c.specs.Prelude.{inl, inr, subst, sym, ℕ, ◌∙◌, None, Option, Some, MixSeat, member_of, KeepsRing}
use Rattle.std.proofs.lemmas.Result.{err_from_is_err_and}
use Rattle.dmix_c.proofs.Ringed.{KeepsRing-since, KeepsRing-then}
use Rattle.dmix_c.proofs.open_ring.OpenRing.open_client.Goals as goal

pub returns-in_err-back-clause-keeps : goal.returns-in_err-back-clause-keeps
returns-in_err-back-clause-keeps c =
    let failed = err_from_is_err_and c.from_residual.result c.from_residual.ensures.1 in
    rw failed.1 c.collect.ensures.keeps

pub returns-in_err-back-clause-none : goal.returns-in_err-back-clause-none
returns-in_err-back-clause-none c =
    let failed = err_from_is_err_and c.from_residual.result c.from_residual.ensures.1 in
    rw failed.1 (inr failed.2)

pub returns-in_err-seat-clause-keeps : goal.returns-in_err-seat-clause-keeps
returns-in_err-seat-clause-keeps c =
    let failed = err_from_is_err_and c.from_residual-in_err-seat.result c.from_residual-in_err-seat.ensures.1 in
    rw failed.1 (KeepsRing-then None c.args.self.now c.collect.new.self c.attach.new.self c.collect.ensures.keeps c.in_err-seat.ensures.keeps)

pub returns-in_err-seat-clause-none : goal.returns-in_err-seat-clause-none
returns-in_err-seat-clause-none c =
    let failed = err_from_is_err_and c.from_residual-in_err-seat.result c.from_residual-in_err-seat.ensures.1 in
    rw failed.1 (inl (failed.2 ∙ c.in_err-seat.ensures.none.0, c.in_err-seat.ensures.none.1))

pub returns-clause-keeps : goal.returns-clause-keeps
returns-clause-keeps c =
    let s : MixSeat = c.in_ok-seat.seat in
    let given : Option ℕ = Some (member_of s) in
    let made = c.seat_client.ensures in
    subst (λ (x : MixSeat). KeepsRing (Some (member_of x)) c.args.self.now c.seat_client.new.self) (sym made.seat)
    (KeepsRing-since given c.args.self.now c.attach.new.self c.seat_client.new.self
    (KeepsRing-then given c.args.self.now c.collect.new.self c.attach.new.self c.collect.ensures.keeps c.in_ok-seat.ensures.keeps) made.keeps)
