-- Adding to a count after it is taken modulo the boundary gives the same as before.
use Rattle.std.proofs.Common.{◌+◌, ◌%◌, ◌∙◌, ap}
use Rattle.std.proofs.Math.Nat.{mod-add-mod}
use Rattle.ring_pointers.proofs.pointers.Pointers.forward_hw.Goals as goal

pub returns-clause-counts : goal.returns-clause-counts
returns-clause-counts c = λ hw appl s. let t = rw (← c.self.view_is) at s in record {
  hw_wraps = c.moved_on-self-inside.ensures ∙ ap (λ x. (x + c.args.frames) % c.self.inside.boundary) t.hw_wraps ∙ mod-add-mod hw c.self.inside.boundary c.args.frames;
  appl_wraps = t.appl_wraps;
}
