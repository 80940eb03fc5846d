-- What a handle owns may go to another thread: what is in the box is `Send`, and any thread may free a block of the C heap.
use Rattle.dmix_c.specs.Prelude.{None, Option, Some, Global, lone, RattleType, Ptr, fields, shape, to, exits_of, raw, may_own}
use Rattle.std.proofs.Crossing.{frees}
use Rattle.std_alloc.proofs.SendSync.{lies, quiet}
use base.Shift.{Keyless}
use denote.Param.Send.{AllSend, IsSend, owning_send, sendable, struct_send}
use Rattle.dmix_c.specs.contracts.handle.Held.{the_row, the_type}
use Rattle.dmix_c.proofs.opened.Opened.TheSendSync.{the_send as opened_send}
use Rattle.std.proofs.alloc.Global.TheSendSync as heap
use Rattle.dmix_c.specs.contracts.opened.Opened as opened

may_own_keyless : (R : RattleType) → IsSend R → (a : Global) (p : Ptr) (held : Option R.Denot) → Keyless (may_own R a p held)
may_own_keyless R s a p None = tt
may_own_keyless R s a p (Some x) = (lies R s p x, frees.frees a (raw (lone R.mir)) p)

pub send : IsSend the_row
send =
    let all : AllSend (fields the_type) = (search sendable, (heap.the_field_send, tt)) in
    owning_send the_type all (λ d. may_own_keyless opened.the_row opened_send d.alloc d.at d.value)
    (λ k. quiet (to the_type) (exits_of k (fields the_type)) ((struct_send (shape the_type) all).leaving k))
