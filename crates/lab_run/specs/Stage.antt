-- A run of a script between two items of its body, and what an opening and a closing make of it.
use Rattle.std.specs.Prelude.{ℕ, Bool, false, List, [], ◌∷◌, ◌++◌, map, slice_index_or, slice_set, Option, Some, None, Result, Ok, Err}
use Rattle.snd_base.specs.declared.errors.PcmError.{PcmError}
use Rattle.snd_base.specs.declared.errors.PcmError.TheVariants.{BadState, Invalid}
use Rattle.snd_base.specs.declared.errors.Why.TheVariants as why
use Rattle.snd_base.specs.declared.geometry.Geometry.{Geometry}
use Rattle.mix_core.specs.Marks.{high_frame, start_marks}
use Rattle.pcm_states.specs.declared.states.State.{State}
use Rattle.pcm_states.specs.declared.states.State.TheVariants as state
use Rattle.hw_space.specs.declared.config.Config.{Config}
use Rattle.sw_limits.specs.declared.params.SwParams.{SwParams}
use Rattle.wav_io.specs.Sound.{Sound}
use Rattle.dmix_client.specs.declared.stream.PlaybackStream.{PlaybackStream}
use Rattle.dmix_client.specs.Calls.{configured_with, new_client, with_params}
use Rattle.dsnoop_client.specs.declared.stream.CaptureStream as reading
use Rattle.dsnoop_client.specs.Calls as reading_calls
use Rattle.dshare.specs.Owners as owners
use Rattle.lab_lines.specs.declared.line.Actor.{Actor}
use Rattle.lab_lines.specs.declared.line.Actor.TheVariants as actor
use Rattle.lab_lines.specs.declared.line.Op.{Op}
use Rattle.lab_lines.specs.declared.line.Op.TheVariants as op
use Rattle.lab_lines.specs.declared.script.CardLine.{CardLine}
use Rattle.lab_lines.specs.Script.{first_frame}
use Rattle.lab_lines.specs.declared.row.Answer.{Answer}
use Rattle.lab_lines.specs.declared.row.Answer.TheVariants.{Done, Failed}
use Rattle.lab_lines.specs.declared.row.Row.{Row}
use Rattle.lab_run.specs.Claims.{claim_refusal, with_claim, with_release}
use Rattle.lab_run.specs.Client.{Client, row_by, segments_of}
use Rattle.lab_run.specs.Places.{Lobby, after_attach, left_by, new_lobby}
use Rattle.lab_run.specs.Reader.{Reader}
use Rattle.lab_run.specs.Reader as readers
use Rattle.lab_run.specs.Rules.{AtPort}

-- what an actor is opened with; a reader has no lead, which is 0 then
pub record Setup : Type 0 where
  pub config : Config
  pub bindings : List ℕ
  pub params : SwParams
  pub lead : ℕ

-- what a run is of: the card, the shape of its ring, the samples of each client's file, and with what each actor is opened, where its
-- line and its file leave it a configuration
pub record Session : Type 0 where
  pub card : CardLine
  pub ring : Geometry
  pub sounds : List Sound
  pub clients : List (Option Setup)
  pub readers : List (Option Setup)

-- a run between two items: how many phases are done, the card's position and whether it is gone, the places, the claims, each
-- client and each reader with how it is at its port, and the rows
pub record Stage : Type 0 where
  pub phases : ℕ
  pub position : ℕ
  pub gone : Bool
  pub lobby : Lobby
  pub claims : List owners.ClaimRow
  pub clients : List (AtPort × Client)
  pub readers : List (AtPort × Reader)
  pub rows : List Row

-- a new port of an actor that its own gate stopped so often, and that asked it so often: it saw no position and placed nothing, and no
-- `die` counts
abbrev pub new_port : Geometry → ℕ → ℕ → AtPort
new_port ring stops asks =
    record { seen = 0; marks = start_marks ring; left = None; by_gate = stops; at_gate = asks }

-- an actor that was never open
abbrev pub no_client : Geometry → AtPort × Client
no_client ring = (new_port ring 0 0, record { own = None; ended = [] })

abbrev pub no_reader : Geometry → AtPort × Reader
no_reader ring = (new_port ring 0 0, record { own = None; frames = [] })

-- a run before the first item
abbrev pub first_stage : Session → Stage
first_stage session = record {
  phases = 0;
  position = first_frame session.card;
  gone = false;
  lobby = new_lobby session.card.places (first_frame session.card);
  claims = [];
  clients = map (λ setup. no_client session.ring) session.clients;
  readers = map (λ setup. no_reader session.ring) session.readers;
  rows = [];
}

abbrev pub stage_row : Stage → Actor → Op → Answer → State → Option ℕ → Row
stage_row stage actor asked answer after seen =
    record {
      phase = stage.phases;
      actor = actor;
      op = asked;
      answer = answer;
      state = after;
      seen = seen;
    }

-- with one row more
abbrev pub with_row : Row → Stage → Stage
with_row row stage = record stage { rows = stage.rows ++ row ∷ [] }

abbrev pub client_at : Session → Stage → ℕ → AtPort × Client
client_at session stage number = slice_index_or stage.clients number (no_client session.ring)

abbrev pub reader_at : Session → Stage → ℕ → AtPort × Reader
reader_at session stage number = slice_index_or stage.readers number (no_reader session.ring)

abbrev pub with_client_at : ℕ → AtPort × Client → Stage → Stage
with_client_at number client stage = record stage { clients = slice_set stage.clients number client }

abbrev pub with_reader : ℕ → AtPort × Reader → Stage → Stage
with_reader number reader stage = record stage { readers = slice_set stage.readers number reader }

-- an actor's port anew
abbrev pub renewed_port : Geometry → AtPort → AtPort
renewed_port ring a = new_port ring a.by_gate a.at_gate

-- ---- open

-- the client of a number that is opened
abbrev pub opened_client : Geometry → ℕ → Setup → PlaybackStream
opened_client ring number setup =
    with_params (configured_with (new_client ring number setup.lead) setup.config setup.bindings)
    setup.params

abbrev pub opened_reader : Geometry → Setup → reading.CaptureStream
opened_reader ring setup =
    reading_calls.with_params
    (reading_calls.configured_with (reading_calls.new_reader ring) setup.config setup.bindings)
    setup.params

-- an opening that is refused
abbrev pub refused_open : Actor → PcmError → Stage → Stage
refused_open who e stage = with_row (stage_row stage who op.Opens (Failed e) state.Open None) stage

-- an opening that went well
abbrev pub done_open : Actor → Stage → Stage
done_open who stage = with_row (stage_row stage who op.Opens Done state.Prepared None) stage

-- a client with a configuration that claimed its channels attaches; where that is refused it claimed none
abbrev pub attached_client : Session → Stage → ℕ → Setup → AtPort × Client
    → Lobby × Result (Unit {0}) PcmError → Stage
attached_client session stage number setup (a, client) (lobby, Ok done) =
    done_open (actor.Client number)
    (with_client_at number
    (renewed_port session.ring a, record client { own = Some (opened_client session.ring number setup) })
    (record stage {
      lobby = lobby;
      claims = with_claim session.card.share setup.bindings stage.claims;
    }))
attached_client session stage number setup actor_before (lobby, Err e) =
    refused_open (actor.Client number) e (record stage { lobby = lobby })

abbrev pub claimed_client : Session → Stage → ℕ → Setup → AtPort × Client → Option PcmError → Stage
claimed_client session stage number setup client (Some e) =
    refused_open (actor.Client number) e stage
claimed_client session stage number setup client None =
    attached_client session stage number setup client (after_attach number stage.position stage.lobby)

-- a client that isn't open is opened: first its configuration, then its claim, then its place
abbrev pub open_client_with : Session → Stage → ℕ → Option Setup → AtPort × Client → Stage
open_client_with session stage number None client =
    refused_open (actor.Client number) (Invalid why.Config) stage
open_client_with session stage number (Some setup) client =
    claimed_client session stage number setup client
    (claim_refusal session.card.share stage.claims setup.bindings stage.position)

abbrev pub open_client : Session → Stage → ℕ → AtPort × Client → Option PlaybackStream → Stage
open_client session stage number client (Some c) =
    with_row (row_by stage.phases number op.Opens (Some c) (Failed BadState)) stage
open_client session stage number client None =
    open_client_with session stage number (slice_index_or session.clients number None) client

abbrev pub open_reader_with : Session → Stage → ℕ → Option Setup → AtPort × Reader → Stage
open_reader_with session stage number None reader =
    refused_open (actor.Reader number) (Invalid why.Config) stage
open_reader_with session stage number (Some setup) (a, reader) =
    done_open (actor.Reader number)
    (with_reader number
    (renewed_port session.ring a, record reader { own = Some (opened_reader session.ring setup) }) stage)

abbrev pub open_reader : Session → Stage → ℕ → AtPort × Reader → Option reading.CaptureStream
    → Stage
open_reader session stage number reader (Some r) =
    with_row (readers.row_by stage.phases number op.Opens (Some r) (Failed BadState)) stage
open_reader session stage number reader None =
    open_reader_with session stage number (slice_index_or session.readers number None) reader

-- ---- close

-- an actor that isn't open any more
abbrev pub ended_client : Geometry → AtPort × Client → AtPort × Client
ended_client ring (a, client) = (renewed_port ring a, record { own = None; ended = segments_of client })

abbrev pub ended_reader : Geometry → AtPort × Reader → AtPort × Reader
ended_reader ring (a, reader) = (renewed_port ring a, record reader { own = None })

-- an open client gives its place and its channels back
abbrev pub lobby_without : Geometry → ℕ → AtPort → Lobby → Lobby
lobby_without ring number a lobby = left_by number (high_frame ring a.marks) lobby

abbrev pub claims_without : Session → AtPort → PlaybackStream → List owners.ClaimRow → List owners.ClaimRow
claims_without session a c claims =
    with_release session.card.share c.setup.bindings (high_frame session.ring a.marks) claims

abbrev pub close_client : Session → Stage → ℕ → AtPort × Client → Option PlaybackStream → Stage
close_client session stage number client None =
    with_row (stage_row stage (actor.Client number) op.Closes (Failed BadState) state.Open None) stage
close_client session stage number client (Some c) =
    with_row (stage_row stage (actor.Client number) op.Closes Done state.Open c.seen)
    (with_client_at number (ended_client session.ring client)
    (record stage {
      lobby = lobby_without session.ring number client.0 stage.lobby;
      claims = claims_without session client.0 c stage.claims;
    }))

abbrev pub close_reader : Session → Stage → ℕ → AtPort × Reader → Option reading.CaptureStream
    → Stage
close_reader session stage number reader None =
    with_row (stage_row stage (actor.Reader number) op.Closes (Failed BadState) state.Open None) stage
close_reader session stage number reader (Some r) =
    with_row (stage_row stage (actor.Reader number) op.Closes Done state.Open r.seen)
    (with_reader number (ended_reader session.ring reader) stage)

-- ---- of an actor

abbrev pub after_open : Session → Stage → Actor → Stage
after_open session stage (actor.Client number) =
    open_client session stage number (client_at session stage number)
    (client_at session stage number).1.own
after_open session stage (actor.Reader number) =
    open_reader session stage number (reader_at session stage number)
    (reader_at session stage number).1.own
after_open session stage actor.Card = stage

abbrev pub after_close : Session → Stage → Actor → Stage
after_close session stage (actor.Client number) =
    close_client session stage number (client_at session stage number)
    (client_at session stage number).1.own
after_close session stage (actor.Reader number) =
    close_reader session stage number (reader_at session stage number)
    (reader_at session stage number).1.own
after_close session stage actor.Card = stage
