-- Adding to a count after it is taken modulo the boundary gives the same as before.
use Rattle.std.proofs.Common.{◌+◌, ◌%◌, ◌∙◌, ap}
use Rattle.std.proofs.Math.Nat.{mod-add-mod}
use Rattle.ring_pointers.proofs.pointers.Pointers.forward_appl.Goals as goal

pub returns-clause-counts : goal.returns-clause-counts
returns-clause-counts c = λ hw appl s. let t = rw (← c.self.view_is) at s in record {
  hw_wraps = t.hw_wraps;
  appl_wraps = c.moved_on-self-inside.ensures ∙ ap (λ x. (x + c.args.frames) % c.self.inside.boundary) t.appl_wraps ∙ mod-add-mod appl c.self.inside.boundary c.args.frames;
}
