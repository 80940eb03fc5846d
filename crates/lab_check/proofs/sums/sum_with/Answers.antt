use Rattle.lab_check.specs.Prelude.{ap, of_z, rules, to_z, w16, ◌∙◌, ◌≡◌, wrapping_add_is, int_wrap, w64, ◌+ℤ◌}
use Rattle.lab_check.proofs.sums.sum_with.Goals as goal

pub returns : goal.returns
returns c =
    let read : to_z w16 (of_z w16 c.args.sample) ≡ c.args.sample = search rules in
    wrapping_add_is w64 c.args.sum c.from.result (search (rules, c.ranges.sum)) (search (rules, c.from.type_inv))
    ∙ ap (λ x. int_wrap w64 (c.args.sum +ℤ x)) c.from.ensures
    ∙ ap (λ x. int_wrap w64 (c.args.sum +ℤ x)) read
