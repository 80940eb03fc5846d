-- What a handle owns.
use Rattle.std.specs.Prelude.{Option, None, Some}
use base.Fml.{Fml, ftrue}
use denote.RattleType.{RattleType}
use denote.RawPtr.{Ptr}
use Rattle.std.specs.declared.alloc.Global.{Global}
use Rattle.std.specs.contracts.impls.GlobalAllocator.TheImpl.{ghosts}
use Rattle.std_alloc.specs.Box.Ownership.{box_owns}

-- nothing, or a box at an address with a value, and the right to free it
abbrev pub may_own : (R : RattleType) → Global → Ptr → Option R.Denot → Fml
may_own R a p None = ftrue
may_own R a p (Some x) = box_owns (ghosts.dealloc_token a) R p x
