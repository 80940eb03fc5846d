-- The rows of an actor that isn't open are its part of a run.
use Rattle.lab_actors.specs.Prelude.{ap, append_assoc, length, List, refl, sym, take, ℕ, [], ◌++◌, ◌+◌, ◌<◌, ◌∷◌, ◌≡◌, map-append, Bool, None, Option, true}
use Rattle.lab_actors.specs.Prelude.{BadState, Sound, Actor, Line, ops_by, line_at, own-line, AreRefused, refused_row, refused_rows}
use Rattle.snd_base.specs.declared.geometry.Geometry.{Geometry}
use Rattle.dmix_client.specs.declared.stream.PlaybackStream.{PlaybackStream}
use Rattle.lab_lines.specs.declared.line.Op.{Op}
use Rattle.lab_lines.specs.declared.row.Answer.TheVariants.{Failed}
use Rattle.lab_lines.specs.declared.row.Row.{Row}
use Rattle.lab_run.specs.ActorPart.{ActorPart, Findings}
use Rattle.lab_run.specs.ClientAtPort.{ClientLinesWithoutCall}
use Rattle.lab_run.specs.ReaderAtPort.{ReaderLinesWithoutCall}
use Rattle.lab_run.specs.Rules.{AtPort}
use Rattle.dsnoop_client.specs.declared.stream.CaptureStream as reading
use Rattle.lab_lines.specs.declared.line.Actor.TheVariants as actor
use Rattle.lab_run.specs.Client as clients
use Rattle.lab_run.specs.Reader as readers

client-refused : (ring : Geometry) (phase : ℕ) (wav : Sound) (number : ℕ) → ClientLinesWithoutCall ring phase wav number → (a : AtPort) (found : Findings) (client : clients.Client)
    → client.own ≡ None → (ops : List Op)
    → ActorPart (clients.client_kind phase wav number) ring ((a, client), found) ops ((a, client), found) (refused_rows phase (actor.Client number) ops)
client-refused ring phase wav number laws a found client closed [] = (refl, refl)
client-refused ring phase wav number laws a found client closed (asked ∷ ops) = (
  ((a, client), found),
  Failed BadState,
  refused_rows phase (actor.Client number) ops,
  laws.closed a found client asked closed,
  client-refused ring phase wav number laws a found client closed ops,
  ap (λ (own : Option PlaybackStream). clients.row_by phase number asked own (Failed BadState) ∷ refused_rows phase (actor.Client number) ops) (sym closed),
)

reader-refused : (ring : Geometry) (phase number : ℕ) → ReaderLinesWithoutCall ring phase number → (a : AtPort) (found : Findings) (reader : readers.Reader)
    → reader.own ≡ None → (ops : List Op)
    → ActorPart (readers.reader_kind phase number) ring ((a, reader), found) ops ((a, reader), found) (refused_rows phase (actor.Reader number) ops)
reader-refused ring phase number laws a found reader closed [] = (refl, refl)
reader-refused ring phase number laws a found reader closed (asked ∷ ops) = (
  ((a, reader), found),
  Failed BadState,
  refused_rows phase (actor.Reader number) ops,
  laws.closed a found reader asked closed,
  reader-refused ring phase number laws a found reader closed ops,
  ap (λ (own : Option reading.CaptureStream). readers.row_by phase number asked own (Failed BadState) ∷ refused_rows phase (actor.Reader number) ops) (sym closed),
)

pub are-refused : ((ring : Geometry) (phase : ℕ) (wav : Sound) (number : ℕ) → ClientLinesWithoutCall ring phase wav number)
    → ((ring : Geometry) (phase number : ℕ) → ReaderLinesWithoutCall ring phase number) → (phase number : ℕ) (ops : List Op) → AreRefused phase number ops
are-refused client_laws reader_laws phase number ops = record {
  clients = λ wav ring a found client closed. client-refused ring phase wav number (client_laws ring phase wav number) a found client closed ops;
  readers = λ ring a found reader closed. reader-refused ring phase number (reader_laws ring phase number) a found reader closed ops;
}

-- the rows of the lines so far, after one line more of the actor's
pub refused-next : (phase : ℕ) (who : Actor) (mine : Actor → Bool) (lines : List Line) (k : ℕ) → k < length lines → mine (line_at lines k).actor ≡ true
    → (start before : List Row) → before ≡ start ++ refused_rows phase who (ops_by mine (take k lines))
    → before ++ refused_row phase who (line_at lines k).op ∷ [] ≡ start ++ refused_rows phase who (ops_by mine (take (k + 1) lines))
refused-next phase who mine lines k within own start before were =
    rw (were, append_assoc, own-line mine lines k within own, map-append (refused_row phase who) (ops_by mine (take k lines)) ((line_at lines k).op ∷ [])) refl
