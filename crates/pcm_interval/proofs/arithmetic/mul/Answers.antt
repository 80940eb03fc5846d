-- The interval between the two fractions is the one of the definition, and members of it come of members.
use Rattle.pcm_interval.specs.Prelude.{rules, subst, sym, ◌*◌, Interval, product_of, product_of-IsMember, IsMember}
use Rattle.pcm_interval.proofs.arithmetic.mul.Goals as goal

pub returns-clause-product : goal.returns-clause-product
unfolding product_of
returns-clause-product c = search rules

pub returns-clause-members : goal.returns-clause-members
returns-clause-members c n d m e in_a in_b low =
    subst (λ (i : Interval). IsMember i (n * m) (d * e)) (sym (returns-clause-product c)) (product_of-IsMember c.args.a.now c.args.b.now n d m e c.requires.a_min c.requires.b_min in_a in_b low)
