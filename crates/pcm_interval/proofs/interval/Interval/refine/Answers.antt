-- What the refinement leaves is the normal form of the common part.
use Rattle.pcm_interval.specs.Prelude.{ap, subst, sym, ◌∙◌, refl, ◌≡◌, Interval, refined-empty, refined-IsMember, common_part, is_empty, IsEmpty, IsMember}
use Rattle.pcm_interval.specs.Prelude.{IsNonEmpty, normal_form, refinement}
use Rattle.std.proofs.lemmas.Bool.{both_ways}
use Rattle.pcm_interval.proofs.interval.Interval.refine.Goals as goal

-- what is left after both steps
left_is : (a b common left : Interval) → common ≡ common_part a b → left ≡ normal_form common → left ≡ refinement a b
unfolding refinement
left_is a b common left common_is left_is_normal = left_is_normal ∙ ap normal_form common_is

pub returns-then-is_empty-clause-empty : goal.returns-then-is_empty-clause-empty
returns-then-is_empty-clause-empty c =
    let empty : IsEmpty c.common_part-common.result = sym c.is_empty.ensures ∙ c.if-is_empty.true in
    (λ told. refined-empty c.args.self.now c.args.other.now (subst IsEmpty c.common_part-common.ensures empty), λ h. refl)

pub returns-then-is_empty-2-clause-empty : goal.returns-then-is_empty-2-clause-empty
returns-then-is_empty-2-clause-empty c =
    let empty : IsEmpty c.normal_form-left.result = sym c.is_empty-2.ensures ∙ c.if-is_empty-2.true in
    let left = left_is c.args.self.now c.args.other.now c.common_part-common.result c.normal_form-left.result c.common_part-common.ensures c.normal_form-left.ensures in
    (λ told. subst IsEmpty left empty, λ h. refl)

pub returns-clause-ok : goal.returns-clause-ok
returns-clause-ok c =
    left_is c.args.self.now c.args.other.now c.common_part-common.result c.normal_form-left.result c.common_part-common.ensures c.normal_form-left.ensures

pub returns-clause-empty : goal.returns-clause-empty
returns-clause-empty c =
    let filled : IsNonEmpty c.normal_form-left.result = sym c.is_empty-2.ensures ∙ c.if-is_empty-2.false in
    let left = left_is c.args.self.now c.args.other.now c.common_part-common.result c.normal_form-left.result c.common_part-common.ensures c.normal_form-left.ensures in
    (λ told. absurd (cc), λ empty. absurd (both_ways (is_empty (refinement c.args.self.now c.args.other.now)) (subst IsNonEmpty left filled) empty))

pub returns-clause-members : goal.returns-clause-members
returns-clause-members c =
    let left = left_is c.args.self.now c.args.other.now c.common_part-common.result c.normal_form-left.result c.common_part-common.ensures c.normal_form-left.ensures in
    λ n d in_self in_other.
    subst (λ (i : Interval). IsMember i n d) (sym left) (refined-IsMember c.args.self.now c.args.other.now n d in_self in_other)
