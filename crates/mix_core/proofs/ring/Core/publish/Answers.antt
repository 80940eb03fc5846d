use Rattle.mix_core.specs.Prelude.{refl, IsPublished, IsSound, View}
use Rattle.mix_core.proofs.History.{RepresentsHistory-published}
use Rattle.mix_core.proofs.ring.Core.publish.Goals as goal

published : (v : View) → IsSound v → IsPublished v (record v { position = v.next.frame })
published v s = record { changed = refl; stands = λ h. RepresentsHistory-published v h s.position_most }

pub returns : goal.returns
returns c = rw (← c.self.view_is) (published _ c.self.invariant)
