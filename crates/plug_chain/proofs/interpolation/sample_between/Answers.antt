use Rattle.plug_chain.specs.Prelude.{ap, arith, FitsSigned, pos, subst, sym, ◌∙◌, ◌≡◌, ints, to_z-of_z, int_div_euclid, w16, w64, ◌*ℤ◌, ◌+ℤ◌, ◌-ℤ◌, of_z, to_z}
use Rattle.plug_chain.proofs.Lines.{FitsSigned-part, IsPartOf, IsPartOf-div_euclid}
use Rattle.plug_chain.proofs.interpolation.sample_between.Goals as goal

-- the part of the rise, without casts
part_is : (c : goal.After-part_of_rise) → c.part_of_rise.result ≡ int_div_euclid ((c.args.to -ℤ c.args.from) *ℤ pos c.args.part) (pos c.args.parts)
part_is c =
    let x : c.from-2.result ≡ c.args.from = c.from-2.ensures ∙ to_z-of_z w16 c.args.from c.ranges.from in
    let y : c.from.result ≡ c.args.to = c.from.ensures ∙ to_z-of_z w16 c.args.to c.ranges.to in
    let x_fits : FitsSigned w16 c.args.from = c.ranges.from in
    let y_fits : FitsSigned w16 c.args.to = c.ranges.to in
    let rise : to_z w64 (of_z w64 (to_z w64 (of_z w64 c.from.result) -ℤ to_z w64 (of_z w64 c.from-2.result))) ≡ c.args.to -ℤ c.args.from = omega (arith, ints) in
    c.part_of_rise.ensures ∙ ap (λ z. int_div_euclid (z *ℤ pos c.args.part) (pos c.args.parts)) rise

from_fits : (c : goal.After-part_of_rise) → FitsSigned w16 (c.args.from +ℤ c.part_of_rise.result)
from_fits c =
    FitsSigned-part c.args.from c.args.to c.part_of_rise.result c.ranges.from c.ranges.to
    (subst (λ z. IsPartOf (c.args.to -ℤ c.args.from) z) (sym (part_is c)) (IsPartOf-div_euclid (c.args.to -ℤ c.args.from) c.args.part c.args.parts c.requires.some c.requires.within))

from_is : (c : goal.After-part_of_rise) → c.from-3.result ≡ c.args.from
from_is c = c.from-3.ensures ∙ to_z-of_z w16 c.args.from c.ranges.from

pub overflow_add-result : goal.overflow_add-result
overflow_add-result c =
    let fits : FitsSigned w16 (c.args.from +ℤ c.part_of_rise.result) = from_fits c in
    let is : c.from-3.result ≡ c.args.from = from_is c in
    omega (arith, ints)

pub overflow_cast-result : goal.overflow_cast-result
overflow_cast-result c =
    let fits : FitsSigned w16 (c.args.from +ℤ c.part_of_rise.result) = from_fits c in
    let is : c.from-3.result ≡ c.args.from = from_is c in
    omega (arith, ints)

pub returns : goal.returns
returns c =
    let fits : FitsSigned w16 (c.args.from +ℤ c.part_of_rise.result) = from_fits c in
    let is : c.from-3.result ≡ c.args.from = from_is c in
    let sum : to_z w16 (of_z w16 (to_z w64 (of_z w64 (to_z w64 (of_z w64 c.from-3.result) +ℤ to_z w64 (of_z w64 c.part_of_rise.result))))) ≡ c.args.from +ℤ c.part_of_rise.result = omega (arith, ints) in
    sum ∙ ap (λ z. c.args.from +ℤ z) (part_is c)
