-- A client with other software parameters can use its seat, and is backed there.
use Rattle.dmix_c.specs.Prelude.{∥∥₁_map, SwParams, PortView, MixSeat, with_params, CanUse, ClientView, IsBackedSeat}

abbrev pub given : ClientView → SwParams → ClientView
given c p = record c { stream = with_params c.stream p }

pub CanUse-given : (c : ClientView) (p : SwParams) (v : PortView) → CanUse c.stream v → CanUse (given c p).stream v
CanUse-given c p v usable = assumption

pub backed-given : (s : MixSeat) (c : ClientView) (p : SwParams) → IsBackedSeat s c → IsBackedSeat s (given c p)
backed-given s c p backed = λ has. ∥∥₁_map (backed has) (λ found. (found.0, record { stands = found.1.stands; segment = found.1.segment }))
