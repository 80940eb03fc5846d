-- An opening and a closing of a client of the lab: what is asked before them.
use Rattle.std.specs.Prelude.{◌≡◌, ◌≢◌, ℕ, zero, suc, List, [], ◌∷◌, length, Option, None, Some, slice_index_or, slice_set}
use Rattle.snd_base.specs.declared.geometry.Geometry.{Geometry}
use Rattle.dmix_client.specs.declared.stream.PlaybackStream.{PlaybackStream}
use Rattle.lab_run.specs.Client.{Client}
use Rattle.lab_run.specs.Items.{Held, held_of, held_without}
use Rattle.lab_run.specs.Rules.{AtPort}
use Rattle.lab_run.specs.Stage.{Session, Setup, Stage, ended_client, no_client, opened_client}
use Rattle.lab_clients.specs.declared.client.LabClient.{LabClient}
use Rattle.lab_clients.specs.declared.open_client.OpenClient.{OpenClient}
use Rattle.lab_clients.specs.OneClient.{open_of}
use Rattle.lab_clients.specs.OneOpening.{HasKeptLast}
use Rattle.lab_clients.specs.declared.clients.LabClients.{LabClients}
use Rattle.lab_clients.specs.AtStage.{AreAt}

-- the open client of a number, if it is open
abbrev pub open_at : List LabClient → ℕ → Option OpenClient
open_at [] at = None
open_at (d ∷ ds) zero = open_of d
open_at (d ∷ ds) (suc at) = open_at ds at

-- and the segment that the last closing of the client of a number ended is among its others
abbrev pub HasKeptLastAt : ℕ → List LabClient → Type 0
HasKeptLastAt number ds = (d : LabClient) → HasKeptLast (slice_index_or ds number d)

-- a stream was made with what its client is opened with, for a place of a ring, if there is one
abbrev pub IsMadeFor : Geometry → Option ℕ → Setup → PlaybackStream → Type 0
IsMadeFor ring next setup stream =
    (place : ℕ) → next ≡ Some place → stream ≡ opened_client ring place setup

-- the clients of the lab are those of some run, between two phases
pub record AreOfRun (cs : LabClients) : Type 0 where
  pub session : Session
  pub held : Held
  pub xs : List (AtPort × Client)
  pub are : AreAt session held xs cs

-- they are at a stage of a run, after so many phases
pub record AreAtStage (session : Session) (stage : Stage) (phase : ℕ)
    (cs : LabClients) : Type 0 where
  pub are : AreAt session (held_of stage) stage.clients cs
  pub phase_is : phase ≡ stage.phases

-- they are so before the client of a number is opened with what the session leaves it, at a position of the card
pub record AreBeforeOpening (session : Session) (stage : Stage) (number : ℕ)
    (setup : Option Setup) (position phase : ℕ) (cs : LabClients) : Type 0 where
  pub at : AreAtStage session stage phase cs
  pub setup_is : setup ≡ slice_index_or session.clients number None
  pub position_is : position ≡ stage.position

-- a client of a run in a list of them
abbrev pub client_among : Session → List (AtPort × Client) → ℕ → AtPort × Client
client_among session xs number = slice_index_or xs number (no_client session.ring)

-- what is held, and the clients, after the client of a number, which was open, was closed
abbrev pub held_but : Session → Held → List (AtPort × Client) → ℕ → Held
held_but session held xs number =
    held_without session number (client_among session xs number).0
    (client_among session xs number).1.own held

abbrev pub clients_but : Session → List (AtPort × Client) → ℕ → List (AtPort × Client)
clients_but session xs number =
    slice_set xs number (ended_client session.ring (client_among session xs number))

-- one client isn't open any more, and the others are open as they were
pub record IsClosedAt (number : ℕ) (ds es : List LabClient) : Type 0 where
  pub len : length es ≡ length ds
  pub own : open_at es number ≡ None
  pub others : (n : ℕ) → n ≢ number → open_at es n ≡ open_at ds n
