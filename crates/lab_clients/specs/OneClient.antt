-- A client of the lab, open or not: which client of a run it is, and what each of its calls makes of it.
use Rattle.std.specs.Prelude.{◌≡◌, ℕ, ◌++◌, List, Option, Some, None, IfSome, is_some, Bool, ◌+◌, ⊤}
use Rattle.std.specs.Option.{option_to_list}
use Rattle.snd_base.specs.declared.places.Segment.{Segment}
use Rattle.sum_table.specs.declared.view.Key.{Key}
use Rattle.sum_table.specs.Players.{player_key, player_ring}
use Rattle.sum_table.specs.Seats.{TableId, view_of}
use Rattle.wav_io.specs.Sound.{Sound}
use Rattle.card_sim.specs.declared.card.Card.{Card}
use Rattle.lab_lines.specs.declared.line.Actor.TheVariants as actor
use Rattle.lab_lines.specs.declared.line.Line.{Line}
use Rattle.lab_lines.specs.declared.row.Row.{Row}
use Rattle.dmix_client.specs.declared.stream.PlaybackStream.{PlaybackStream}
use Rattle.lab_run.specs.Client.{Client, stretch_of}
use Rattle.lab_run.specs.Phases.{is_client, ops_by}
use Rattle.lab_run.specs.Rules.{AtPort}
use Rattle.lab_run.specs.Stage.{new_port}
use Rattle.lab_clients.specs.Parts.{client_of}
use Rattle.lab_actors.specs.Refused.{AreRefused, refused_rows}
use Rattle.lab_actors.specs.Room.{HasSpace}
use Rattle.lab_actors.specs.Lines.{line_count}
use Rattle.lab_card.specs.Meets.{IsClientOf}
use Rattle.lab_card.specs.Moves.{seat_of_card}
use Rattle.lab_clients.specs.declared.client.LabClient.{LabClient}
use Rattle.lab_clients.specs.declared.open_client.OpenClient.{OpenClient}
use Rattle.lab_clients.specs.OpenClient.{HasLaidPhase, HasRun, IsHeard, IsInformed, IsOpenAt, IsOpenReady, IsSameOpen, stream_of}

abbrev pub number_of : LabClient → ℕ
number_of d = d.number

abbrev pub open_of : LabClient → Option OpenClient
open_of d = d.own

abbrev pub is_open : LabClient → Bool
is_open d = is_some (open_of d)

-- the rows of its lines, by whether it is open
abbrev pub rows_by : List Row → Option OpenClient → List Row
rows_by rows None = rows
rows_by rows (Some o) = o.actor.rows.items

abbrev pub rows_of : LabClient → List Row
rows_of d = rows_by d.rows.items (open_of d)

-- while a client isn't open, the segments of its stretches: those of its earlier ones, and then that which its closing ended
abbrev pub ended_of : LabClient → List Segment
ended_of d = d.ended.items ++ option_to_list d.last

-- the client of a run
abbrev pub client_by : List Segment → Option OpenClient → Client
client_by ended None = record { own = None; ended = ended }
client_by ended (Some o) = client_of o.actor

abbrev pub client_in : LabClient → Client
client_in d = client_by (ended_of d) (open_of d)

-- the same in two parts: its segments but the last one, which is that of its present stretch, or of its last closing
abbrev pub ended_segments : LabClient → Option OpenClient → List Segment
ended_segments d None = d.ended.items
ended_segments d (Some o) = o.actor.ended.items

abbrev pub last_by : LabClient → Option OpenClient → List Segment
last_by d None = option_to_list d.last
last_by d (Some o) = stretch_of (stream_of o)

-- the position of the card that a client of a run loaded last
abbrev pub seen_by : Option PlaybackStream → Option ℕ
seen_by None = None
seen_by (Some c) = c.seen

-- A client of the lab with its file is a client of a run at its port: where it is open at its place of the ring, by which the last frame before
-- is known, and else at a new port.
abbrev pub IsAtBy : TableId → Key → Sound → Option ℕ → ℕ → Option OpenClient → AtPort → Type 0
IsAtBy ring key wav last number None a = a ≡ new_port key.geometry a.by_gate a.at_gate
IsAtBy ring key wav last number (Some o) a = IsOpenAt ring key wav last number o a

abbrev pub IsAt : TableId → Key → Sound → Option ℕ → LabClient → AtPort → Type 0
IsAt ring key wav last d a = IsAtBy ring key wav last (number_of d) (open_of d) a

-- a card's sum ring
pub record IsCardOfRing (ring : TableId) (key : Key) (c : Card) : Type 0 where
  pub of_ring : player_ring (seat_of_card c) ≡ ring
  pub of_key : player_key (seat_of_card c) ≡ key

-- where a client is open, its seat is of the card's ring, and it can use it with its file
abbrev pub IsOfCard : Card → LabClient → Type 0
IsOfCard c d = IfSome (open_of d) (λ (o : OpenClient). IsClientOf c o.seat)

abbrev pub CanRun : Sound → LabClient → Type 0
CanRun wav d = IfSome (open_of d) (IsOpenReady wav)

-- it has room for the rows of its lines, and for the segments of the stretches that they end
pub record HasRoomAt (lines : List Line) (o : OpenClient) : Type 0 where
  pub rows : HasSpace (line_count (actor.Client o.actor.number) lines) o.actor.rows
  pub ended : HasSpace (line_count (actor.Client o.actor.number) lines) o.actor.ended

abbrev pub HasRoomBy : List Line → LabClient → Option OpenClient → Type 0
HasRoomBy lines d None = HasSpace (line_count (actor.Client d.number) lines) d.rows
HasRoomBy lines d (Some o) = HasRoomAt lines o

abbrev pub HasRoom : List Line → LabClient → Type 0
HasRoom lines d = HasRoomBy lines d (open_of d)

-- what is so of a client that is open before and after, and of one that is open neither before nor after
abbrev pub GoesOrRests : (OpenClient → OpenClient → Type 0) → Type 0 → Option OpenClient
    → Option OpenClient → Type 0
GoesOrRests Goes Rests None None = Rests
GoesOrRests Goes Rests (Some o) (Some p) = Goes o p
GoesOrRests Goes Rests before after = ⊥

-- what a client keeps beside its stream
pub record IsSameRest (d e : LabClient) : Type 0 where
  pub number : number_of e ≡ number_of d
  pub ended : ended_of e ≡ ended_of d

-- the lines of a client that isn't open were refused, and its gate wasn't asked
pub record AllRefused (before after asks : ℕ) (phase number : ℕ) (lines : List Line)
    (rows_before rows_after : List Row) : Type 0 where
  pub rows : rows_after ≡ rows_before
      ++ refused_rows phase (actor.Client number) (ops_by (is_client number) lines)
  pub part : AreRefused phase number (ops_by (is_client number) lines)
  pub gate : after ≡ before
  pub none : asks ≡ 0

-- before a phase a client's seat met a note of the card; in it the client did its lines; and after it the card met a note of the seat
pub record IsClientInformed (c : Card) (d e : LabClient) : Type 0 where
  pub own : GoesOrRests (IsInformed c) (e.rows ≡ d.rows) (open_of d) (open_of e)
  pub rest : IsSameRest d e

pub record RunsLines (before after asks : ℕ) (phase : ℕ) (wav : Sound) (lines : List Line)
    (d e : LabClient) : Type 0 where
  pub own : GoesOrRests (HasRun before after asks phase wav lines)
      (AllRefused before after asks phase (number_of d) lines d.rows.items e.rows.items)
      (open_of d) (open_of e)
  pub rest : IsSameRest d e

pub record IsClientHeard (c : Card) (d e : LabClient) : Type 0 where
  pub own : GoesOrRests (IsHeard c) (e.rows ≡ d.rows) (open_of d) (open_of e)
  pub rest : IsSameRest d e

-- what was placed for a client in a phase, in which its segments grew by these
abbrev pub HasLaidBy : Sound → List Segment → OpenClient → OpenClient → Type 0
HasLaidBy wav ended o p =
    HasLaidPhase wav.samples (view_of o.seat).laid (view_of p.seat).laid (stream_of o)
    (stream_of p) ended

-- the same client as before, but for its rows and its room
pub record IsSameBut (d e : LabClient) : Type 0 where
  pub own : GoesOrRests IsSameOpen ⊤ (open_of d) (open_of e)
  pub rest : IsSameRest d e
