use Rattle.dmix_c.specs.Prelude.{ap, refl, sym, channels_held}
use Rattle.dmix_c.proofs.handle.Handle.take.Goals as goal

-- a closed handle
pub invariant_of-closed : goal.invariant_of-closed
invariant_of-closed c = record {
  tied = (λ zero. c.empty.ensures, λ none. refl);
  counted = ap channels_held (sym c.empty.ensures);
}
