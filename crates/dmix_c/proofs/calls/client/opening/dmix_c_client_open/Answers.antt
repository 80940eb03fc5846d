use Rattle.dmix_c.specs.Prelude.{refl, to_z-of_z, w64, ℤ, Option, Opened, Ring, OpensAt, OpensBy, stands_for}
use Rattle.dmix_c.proofs.Handed.{handed}
use Rattle.dmix_c.proofs.HandleLaws.{OpensStream-closed, OpensStream-open, closed-none}
use Rattle.dmix_c.proofs.calls.client.opening.dmix_c_client_open.Goals as goal

pub returns-then-is_open : goal.returns-then-is_open
returns-then-is_open c = OpensStream-open OpensAt _ _ _ _ c.is_open.result _ c.is_open.ensures c.if-is_open.true refl refl refl

pub open_at-answer-requires : goal.open_at-answer-requires
open_at-answer-requires c = closed-none (stands_for c.args.client.now) c.is_open.result c.is_open.ensures c.if-is_open.false

-- what was taken from the ring's handle was called, and put back
pub returns : goal.returns
returns c =
    let own = stands_for c.args.client.now in
    let made = stands_for c.open_at-answer.new.client in
    OpensStream-closed OpensAt own _ _ _ _ (closed-none own c.is_open.result c.is_open.ensures c.if-is_open.false)
    (handed (λ (before after : Option Opened) (z : ℤ). OpensBy OpensAt before made after z) (Ring c.in-Ring.places) c.in-Some.ensures.value
    c.deref_mut.ensures.value c.in-Ring.is c.put-2.ensures (to_z-of_z {w = w64} {z = c.open_at-answer.result} (record { sfits = c.open_at-answer.type_inv }))
    (c.open_at-answer.new.ring, refl, c.open_at-answer.ensures))
