-- The numbers that a call answers after its sync.
use Rattle.std.specs.Prelude.{ℕ}
use Rattle.dmix_client.specs.declared.stream.PlaybackStream.{PlaybackStream}
use Rattle.dmix_client.specs.declared.status.Asked.{Asked}
use Rattle.dmix_client.specs.declared.status.Asked.TheVariants.{Avail, Delay}
use Rattle.dmix_client.specs.Calls.{avail_answer, delay_answer}

abbrev pub asked_number : Asked → PlaybackStream → ℕ
asked_number Avail = avail_answer
asked_number Delay = delay_answer
