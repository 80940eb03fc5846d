-- A reader doesn't ask how often its own gate stopped it before, or was asked.
use Rattle.std.specs.Prelude.{◌≡◌, ℕ, Option, Some, None}
use Rattle.std.proofs.Common.{refl}
use Rattle.dsnoop_client.specs.declared.stream.CaptureStream as reading
use Rattle.lab_lines.specs.declared.line.Op.{Op}
use Rattle.lab_run.specs.Reader.{reader_kind}
use Rattle.lab_run.specs.Reader as reader
use Rattle.lab_run.specs.Rules.{AtPort}
use Rattle.lab_actors.specs.Raised.{with_counts, IsBlind, dies_if-raised, dies_if-asks}

reader-begins : (k n : ℕ) (a : AtPort) (own : Option reading.CaptureStream) (asked : Op) → reader.begins own asked (with_counts k n a) ≡ with_counts k n (reader.begins own asked a)
reader-begins k n a None asked = refl
reader-begins k n a (Some r) asked = dies_if-raised k n r.status.stopped asked a

reader-asks : (a : AtPort) (own : Option reading.CaptureStream) (asked : Op) → (reader.begins own asked a).at_gate ≡ a.at_gate
reader-asks a None asked = refl
reader-asks a (Some r) asked = dies_if-asks r.status.stopped asked a

pub reader_is_blind : (phase number : ℕ) → IsBlind (reader_kind phase number)
reader_is_blind phase number = record {
  begins = λ k n a r asked. reader-begins k n a r.own asked;
  same_asks = λ a r asked. reader-asks a r.own asked;
  course = λ k n a r asked. refl;
}
