-- The clients of the lab are the clients of a run at a stage of it, with the places and the channels that they hold, and with what was placed for them.
use Rattle.std.specs.Prelude.{◌≡◌, ℕ, ◌≤◌, false, List, [], ◌∷◌, ◌++◌, length, Option, Some, None, slice_index_or, ⊤}
use Rattle.snd_base.specs.Places as rings
use Rattle.sum_table.specs.declared.seats.mix.MixSeat.{MixSeat}
use Rattle.sum_table.specs.declared.view.Key.{Key}
use Rattle.sum_table.specs.Seats.{TableId, geometry_of, member_of, places_of_seat}
use Rattle.lobby.specs.Lobbies.{free_seats}
use Rattle.lab_lines.specs.declared.script.Share.{Share}
use Rattle.lab_lines.specs.Script.{first_frame}
use Rattle.lab_lines.specs.declared.row.Row.{Row}
use Rattle.lab_run.specs.Client.{Client}
use Rattle.lab_run.specs.Items.{Held, held_of, is_stopped}
use Rattle.lab_run.specs.Rules.{AtPort}
use Rattle.lab_run.specs.Stage.{Session, Setup, Stage}
use Rattle.lab_actors.specs.Usable.{IsUsable}
use Rattle.lab_places.specs.declared.places.Places.{Places}
use Rattle.lab_places.specs.Held.{IsHeldBy, key_of_places, lobby_of, ring_of_places, share_of, shares_of}
use Rattle.lab_places.specs.Laid.{laid_lists}
use Rattle.lab_places.specs.Holdings.{AreHeld, Holding, Holdings}
use Rattle.lab_clients.specs.declared.client.LabClient.{LabClient}
use Rattle.lab_clients.specs.declared.open_client.OpenClient.{OpenClient}
use Rattle.lab_clients.specs.OneClient.{IsAt, client_in, number_of, open_of, rows_of}
use Rattle.lab_clients.specs.OpenClient.{stream_of}
use Rattle.lab_clients.specs.declared.clients.LabClients.{LabClients}
use Rattle.lab_clients.specs.Placed.{IsReported}
use Rattle.lab_clients.specs.Steps.{sound_at}
use Rattle.lab_actors.specs.Walks.{AreEach}

-- the clients, in the order of their lines
abbrev pub clients_of : LabClients → List LabClient
clients_of cs = cs.clients.items

-- the places and channels of the card that they hold
abbrev pub places_of : LabClients → Places
places_of cs = cs.places

-- what a client holds, where it is open; the last frame at its place before its opening is known
abbrev pub holding_by : Option ℕ → Option OpenClient → Option Holding
holding_by last None = None
holding_by last (Some o) =
    Some (record { place = member_of o.seat; before = last; channels = o.bindings })

-- where a client is open, it was opened with what its line and its file leave it
abbrev pub IsSetUp : Option Setup → Option OpenClient → Type 0
IsSetUp setup None = ⊤
IsSetUp setup (Some o) =
    (own : Setup) × (setup ≡ Some own) × ((stream_of o).setup.bindings ≡ own.bindings)

-- a client of the lab is the client of a number in a run, with what it holds
pub record IsClientIn (session : Session) (ring : TableId) (key : Key)
    (holdings : Holdings) (number : ℕ) (d : LabClient) (x : AtPort × Client) : Type 0 where
  pub numbered : number_of d ≡ number
  pub client : client_in d ≡ x.1
  pub last : Option ℕ
  pub at : IsAt ring key (sound_at session.sounds number) last d x.0
  pub holds : holdings number ≡ holding_by last (open_of d)
  pub setup : IsSetUp (slice_index_or session.clients number None) (open_of d)

-- the same after the lines of a phase: its rows are the lab's
pub record IsClientDone (session : Session) (ring : TableId) (key : Key)
    (holdings : Holdings) (number : ℕ) (d : LabClient) (x : AtPort × Client) : Type 0 where
  pub is : IsClientIn session ring key holdings number d x
  pub rows : rows_of d ≡ []

-- the same between two phases: no gate stopped it, and its rows are the lab's
pub record IsClientAt (session : Session) (ring : TableId) (key : Key)
    (holdings : Holdings) (number : ℕ) (d : LabClient) (x : AtPort × Client) : Type 0 where
  pub is : IsClientIn session ring key holdings number d x
  pub goes : is_stopped x.1.own ≡ false
  pub rows : rows_of d ≡ []

-- with what a client is opened fits the card's ring and the client's file
pub record FitsCard (session : Session) (number : ℕ) (own : Setup) : Type 0 where
  pub usable : IsUsable session.ring.channels session.ring.frames own
  pub channels : length own.bindings ≡ (sound_at session.sounds number).channels

abbrev pub AllFitCard : Session → Type 0
AllFitCard session =
    (number : ℕ) (own : Setup) → slice_index_or session.clients number None ≡ Some own
    → FitsCard session number own

-- the card of a session: its ring, and how clients share it; each client of the session can be opened at it
pub record IsCardOf (session : Session) (p : Places) : Type 0 where
  pub setups : AllFitCard session
  pub ring : (key_of_places p).geometry ≡ session.ring
  pub share : share_of p ≡ session.card.share
  pub channels : (shares_of p).channels ≡ session.ring.channels

-- each client of the lab is one of a run, with what is held; nobody else holds anything
pub record AreIn
    (Is : Session → TableId → Key → Holdings → ℕ → LabClient → AtPort × Client → Type 0)
    (session : Session) (held : Held) (xs : List (AtPort × Client))
    (cs : LabClients) : Type 0 where
  pub card : IsCardOf session cs.places
  pub holdings : Holdings
  pub held_by : IsHeldBy cs.places held
  pub are_held : AreHeld (share_of cs.places) held holdings
  pub no_others : (n : ℕ) → length (clients_of cs) ≤ n → holdings n ≡ None
  pub each : AreEach (Is session (ring_of_places cs.places) (key_of_places cs.places) holdings)
      0 cs.clients.items xs
  pub reported : IsReported session (laid_lists (free_seats (lobby_of cs.places)))
      cs.clients.items xs

-- the clients of the lab between two phases
abbrev pub AreAt : Session → Held → List (AtPort × Client) → LabClients → Type 0
AreAt = AreIn IsClientAt

-- the clients of the lab after the lines of a phase, before the stopped ones are reaped
abbrev pub AreDone : Session → Held → List (AtPort × Client) → LabClients → Type 0
AreDone = AreIn IsClientDone

-- the clients of the lab after an item of a body, which has one row
pub record AreAfter (session : Session) (stage after : Stage) (row : Row)
    (cs : LabClients) : Type 0 where
  pub are : AreAt session (held_of after) after.clients cs
  pub rows : after.rows ≡ stage.rows ++ row ∷ []

-- a new card of a session: its ring, of which a seat has all places, and how clients share it; each client of the session can be opened at it
pub record IsNewCardOf (session : Session) (seat : MixSeat) (share : Share) : Type 0 where
  pub setups : AllFitCard session
  pub ring : geometry_of seat ≡ session.ring
  pub places : places_of_seat seat ≡ session.card.places
  pub first : first_frame session.card ≡ rings.first_frame session.ring
  pub share_is : share ≡ session.card.share
