-- A client doesn't ask how often its own gate stopped it before, or was asked.
use Rattle.std.specs.Prelude.{◌≡◌, ℕ, Option, Some, None}
use Rattle.std.proofs.Common.{refl}
use Rattle.dmix_client.specs.declared.stream.PlaybackStream as playing
use Rattle.wav_io.specs.Sound.{Sound}
use Rattle.lab_lines.specs.declared.line.Op.{Op}
use Rattle.lab_run.specs.Client.{client_kind}
use Rattle.lab_run.specs.Client as client
use Rattle.lab_run.specs.Rules.{AtPort}
use Rattle.lab_actors.specs.Raised.{with_counts, IsBlind, dies_if-raised, dies_if-asks}

client-begins : (k n : ℕ) (a : AtPort) (own : Option playing.PlaybackStream) (asked : Op) → client.begins own asked (with_counts k n a) ≡ with_counts k n (client.begins own asked a)
client-begins k n a None asked = refl
client-begins k n a (Some c) asked = dies_if-raised k n c.status.stopped asked a

client-asks : (a : AtPort) (own : Option playing.PlaybackStream) (asked : Op) → (client.begins own asked a).at_gate ≡ a.at_gate
client-asks a None asked = refl
client-asks a (Some c) asked = dies_if-asks c.status.stopped asked a

pub client_is_blind : (phase : ℕ) (wav : Sound) (number : ℕ) → IsBlind (client_kind phase wav number)
client_is_blind phase wav number = record {
  begins = λ k n a c asked. client-begins k n a c.own asked;
  same_asks = λ a c asked. client-asks a c.own asked;
  course = λ k n a c asked. refl;
}
