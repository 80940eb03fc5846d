-- What stands at the end of what a client's seat placed: the client's segment, by the samples that it accepted.
use Rattle.std.specs.Prelude.{◌≡◌, true, ℤ, List}
use Rattle.sum_table.specs.declared.seats.mix.MixSeat.{MixSeat}
use Rattle.sum_table.specs.Seats.{SeatEndsIn}
use Rattle.dmix_client.specs.Growth.{IsBacked}
use Rattle.dmix_client.specs.View.{ClientView}

-- a client represents some samples, and its seat's standing adds end in its segment by them
abbrev pub IsBackedBy : MixSeat → ClientView → List ℤ → Type 0
IsBackedBy s c samples = IsBacked SeatEndsIn s c samples

-- this is so of some samples, while the client has a configuration
abbrev pub IsBackedSeat : MixSeat → ClientView → Type 0
IsBackedSeat s c = c.stream.setup.configured ≡ true → ∥ ((samples : List ℤ) × IsBackedBy s c samples) ∥₁

-- a call gives a client no configuration, and of whichever samples it was so, it is so still
pub record StaysBacked (s : MixSeat) (c : ClientView) (t : MixSeat) (d : ClientView) : Type 0 where
  pub configured : d.stream.setup.configured ≡ true → c.stream.setup.configured ≡ true
  pub backed : d.stream.setup.configured ≡ true → (samples : List ℤ) → IsBackedBy s c samples → IsBackedBy t d samples
