use Rattle.mix_core.specs.Prelude.{refl, true, IsUnplugged, View}
use Rattle.mix_core.proofs.History.{RepresentsHistory-unplugged}
use Rattle.mix_core.proofs.ring.Core.unplug.Goals as goal

unplugged : (v : View) → IsUnplugged v (record v { gone = true })
unplugged v = record { changed = refl; stands = λ h. RepresentsHistory-unplugged v h true }

pub returns : goal.returns
returns c = rw (← c.self.view_is) (unplugged _)
