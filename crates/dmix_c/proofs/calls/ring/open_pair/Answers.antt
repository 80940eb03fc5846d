use Rattle.dmix_c.specs.Prelude.{subst, sym, to_z-of_z, w64, ℤ, OpensBoth, stands_for}
use Rattle.dmix_c.proofs.HandleLaws.{OpensPair-done, some_or-closed}
use Rattle.dmix_c.proofs.calls.ring.open_pair.Goals as goal

-- both handles were closed
pub returns : goal.returns
returns c =
    let params = c.args.params.now in
    let ring = stands_for c.args.ring.now in
    let card = stands_for c.args.card.now in
    let made_ring = stands_for c.open_both.new.ring in
    let made_card = stands_for c.open_both.new.card in
    OpensPair-done c.args.captures params ring card made_ring made_card _
    (some_or-closed ring card c.is_open.result c.is_open-else-is_open.result c.is_open.ensures c.is_open-else-is_open.ensures c.if-is_open.false c.if-is_open-2.false)
    (c.can_open.ensures.0 c.if-not-can_open.false)
    (subst (λ (z : ℤ). OpensBoth c.args.captures params made_ring made_card z) (sym (to_z-of_z {w = w64} {z = c.open_both.result} (record { sfits = c.open_both.type_inv }))) c.open_both.ensures)
