-- The lines of an actor that isn't open: each is refused, and nothing is done.
use Rattle.std.specs.Prelude.{◌≡◌, ℕ, List, map, None}
use Rattle.snd_base.specs.declared.errors.PcmError.TheVariants.{BadState}
use Rattle.snd_base.specs.declared.geometry.Geometry.{Geometry}
use Rattle.pcm_states.specs.declared.states.State.TheVariants.{Open}
use Rattle.wav_io.specs.Sound.{Sound}
use Rattle.lab_lines.specs.declared.line.Actor.{Actor}
use Rattle.lab_lines.specs.declared.line.Actor.TheVariants as actor
use Rattle.lab_lines.specs.declared.line.Op.{Op}
use Rattle.lab_lines.specs.declared.row.Answer.TheVariants.{Failed}
use Rattle.lab_lines.specs.declared.row.Row.{Row}
use Rattle.lab_run.specs.ActorPart.{ActorPart, Findings}
use Rattle.lab_run.specs.Client.{Client, client_kind}
use Rattle.lab_run.specs.Reader.{Reader, reader_kind}
use Rattle.lab_run.specs.Rules.{AtPort}

-- the row of such a line
abbrev pub refused_row : ℕ → Actor → Op → Row
refused_row phase who asked =
    record {
      phase = phase;
      actor = who;
      op = asked;
      answer = Failed BadState;
      state = Open;
      seen = None;
    }

abbrev pub refused_rows : ℕ → Actor → List Op → List Row
refused_rows phase who ops = map (refused_row phase who) ops

-- these rows are the part of a run of each client, and of each reader, of a number that isn't open: it is as before
pub record AreRefused (phase number : ℕ) (ops : List Op) : Type 0 where
  pub clients : (wav : Sound) (ring : Geometry) (a : AtPort) (found : Findings) (client : Client)
      → client.own ≡ None
      → ActorPart (client_kind phase wav number) ring ((a, client), found) ops
      ((a, client), found) (refused_rows phase (actor.Client number) ops)
  pub readers : (ring : Geometry) (a : AtPort) (found : Findings) (reader : Reader)
      → reader.own ≡ None
      → ActorPart (reader_kind phase number) ring ((a, reader), found) ops
      ((a, reader), found) (refused_rows phase (actor.Reader number) ops)
