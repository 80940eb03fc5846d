-- The interval between the two fractions is the one of the definition, and members of it come of members.
use Rattle.pcm_interval.specs.Prelude.{rules, subst, sym, ◌*◌, Interval, scaled_product_of, scaled_product_of-IsMember, IsMember}
use Rattle.pcm_interval.proofs.arithmetic.muldivk.Goals as goal

pub returns-clause-scaled : goal.returns-clause-scaled
unfolding scaled_product_of
returns-clause-scaled c = search rules

pub returns-clause-members : goal.returns-clause-members
returns-clause-members c n d m e in_a in_b low =
    subst (λ (i : Interval). IsMember i (n * m) (d * e * c.args.k)) (sym (returns-clause-scaled c)) (scaled_product_of-IsMember c.args.a.now c.args.b.now c.args.k n d m e c.requires.a_min c.requires.b_min c.requires.k_min in_a in_b low)
