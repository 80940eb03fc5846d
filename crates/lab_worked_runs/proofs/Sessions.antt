-- Sessions for worked examples: a card of 256 frames with a period of 64, and files of silence; and the reports of their runs.
use Rattle.std.proofs.Common.{ℕ, Option, Some, None, length}
use Rattle.std.specs.Prelude.{List, [], ◌∷◌, map}
use Rattle.snd_base.specs.declared.geometry.Geometry.{Geometry}
use Rattle.snd_base.specs.declared.places.Segment.{Segment}
use Rattle.pcm_states.specs.declared.states.State.{State}
use Rattle.pcm_states.specs.declared.states.State.TheVariants as state
use Rattle.wav_io.specs.Sound.{Sound}
use Rattle.lab_lines.specs.declared.line.Actor.{Actor}
use Rattle.lab_lines.specs.declared.line.Actor.TheVariants.{Card, Client, Reader}
use Rattle.lab_lines.specs.declared.line.Item.{Item}
use Rattle.lab_lines.specs.declared.line.Item.TheVariants as item
use Rattle.lab_lines.specs.declared.line.Line.{Line}
use Rattle.lab_lines.specs.declared.line.Op.{Op}
use Rattle.lab_lines.specs.declared.line.Op.TheVariants as op
use Rattle.lab_lines.specs.declared.script.CardLine.{CardLine}
use Rattle.lab_lines.specs.declared.report.Report.{Report}
use Rattle.lab_lines.specs.declared.script.Share.{Share}
use Rattle.lab_lines.specs.declared.script.Share.TheVariants as share
use Rattle.lab_lines.specs.declared.row.Answer.{Answer}
use Rattle.lab_lines.specs.declared.row.Answer.TheVariants.{Count, Done}
use Rattle.lab_lines.specs.declared.row.Row.{Row}
use Rattle.lab_run.specs.LabRun.{lab_text}
use Rattle.lab_run.specs.Stage.{Session, Setup}
use Rattle.lab_worked_runs.proofs.Printouts.{a_file, mono, printout_of, silence}

unfoldable pub card : ℕ → ℕ → Share → CardLine
card channels places share =
    record { number = 1; channels = channels; rate = 48000; period = 64; ring = 256; places = places; lap = 0; capture = None; share = share }

-- an actor with a period of 64 and a buffer of 256 frames
unfoldable pub setup : ℕ → List ℕ → Setup
setup stop bindings = record {
  config = record { channels = length bindings; rate = 48000; period_size = 64; buffer_size = 256; periods = 4 };
  bindings = bindings;
  params = record { start_threshold = 1; stop_threshold = stop; avail_min = 64 };
  lead = 64;
}

unfoldable pub some : List ℕ → Option Setup
some bindings = Some (setup 256 bindings)

-- clients with these files and bindings, and no readers
unfoldable pub players : CardLine → Geometry → List Sound → List (Option Setup) → Session
players card ring sounds clients = record { card = card; ring = ring; sounds = sounds; clients = clients; readers = [] }

-- one client, with 64 frames and with 512
unfoldable pub one : Session
one = players (card 1 64 share.Dmix) mono (a_file 1 (silence 64) ∷ []) (some (0 ∷ []) ∷ [])

unfoldable pub long : Session
long = record one { sounds = a_file 1 (silence 512) ∷ [] }

-- ---- actors, and their items

unfoldable pub the_card : Actor
the_card = Card

unfoldable pub a : Actor
a = Client 0

unfoldable pub b : Actor
b = Client 1

unfoldable pub c : Actor
c = Client 2

unfoldable pub r : Actor
r = Reader 0

unfoldable pub line : Actor → Op → Line
line actor asked = record { number = 0; actor = actor; op = asked }

-- a phase of one actor's lines, and one in which the card plays
unfoldable pub phase : Actor → List Op → Item
phase actor ops = item.Phase (map (line actor) ops)

unfoldable pub play : ℕ → Item
play frames = phase the_card (op.Play frames ∷ [])

-- ---- rows, and what else a report has

unfoldable pub row : ℕ → Actor → Op → Answer → State → Option ℕ → Row
row phase actor asked answer after seen =
    record { phase = phase; actor = actor; op = asked; answer = answer; state = after; seen = seen }

unfoldable pub opened : ℕ → Actor → Row
opened phase actor = row phase actor op.Opens Done state.Prepared None

unfoldable pub played : ℕ → ℕ → ℕ → Row
played phase frames position = row phase the_card (op.Play frames) (Count frames) state.Running (Some position)

-- a client's segment: where it is in the file and on the card, its whole frames, and the samples past them
unfoldable pub segment : ℕ → ℕ → ℕ → ℕ → ℕ → ℕ × Segment
segment client source card whole part = (client, record { source = source; card = card; whole = whole; part = part })

-- a report of a card that began at frame 0
unfoldable pub reported : List Row → List (ℕ × Segment) → List (ℕ × ℕ × ℕ) → ℕ → Report
reported rows segments runs frames = record { rows = rows; segments = segments; runs = runs; first = 0; frames = frames }

-- a session, its items, and what its report is
pub record Worked : Type 0 where
  pub session : Session
  pub items : List Item
  pub report : Report

unfoldable pub works : Session → List Item → Report → Worked
works session items report = record { session = session; items = items; report = report }

-- the reports of worked sessions, by all that computes them; and those that were worked out
unfoldable pub reports_of : List Worked → List Report
unfolding printout_of a b c r card row setup some the_card line phase play opened played segment reported works players one long
reports_of rows = map (λ (w : Worked). (lab_text w.session None w.items).report) rows

abbrev pub worked_out : List Worked → List Report
worked_out rows = map (λ (w : Worked). w.report) rows
