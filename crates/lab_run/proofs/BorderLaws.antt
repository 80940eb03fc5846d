-- What an opening or closing leaves of a stage, case by case: the row of a refusal, or a client or reader that is open, or no longer. So what
-- holds of these, and of phases, holds of any items.
use Rattle.lab_run.specs.Prelude.{ap, None, Option, refl, Some, subst, sym, ℕ, ◌≡◌, append-nil, list_all, list_any, position, Bool, cond, Err, false, IfErr}
use Rattle.lab_run.specs.Prelude.{IfSome, List, Ok, Result, slice_index_or, true, [], ⊤, ◌++◌, ◌∷◌, PcmError, Geometry, State, PlaybackStream, CaptureStream}
use Rattle.lab_run.specs.Prelude.{Actor, Item, Line, Op, Done, Failed, Row, claim_refusal, is_free_channel, with_claim, Client, present_of, segments_of}
use Rattle.lab_run.specs.Prelude.{ItemMay, ItemsMay, PhaseMay, after_attach, attached_by, is_free, is_silent, Lobby, after_close, after_open, attached_client}
use Rattle.lab_run.specs.Prelude.{claimed_client, claims_without, client_at, close_client, close_reader, ended_client, ended_reader, lobby_without, open_client}
use Rattle.lab_run.specs.Prelude.{open_client_with, open_reader, open_reader_with, opened_client, opened_reader, reader_at, renewed_port, Session, Stage}
use Rattle.lab_run.specs.Prelude.{stage_row, with_client_at, with_reader, with_row}
use Rattle.lab_lines.specs.declared.script.Share.{Share}
use Rattle.lab_run.specs.Stage.{Setup}
use Rattle.snd_base.specs.declared.errors.PcmError.TheVariants as error
use Rattle.snd_base.specs.declared.errors.Why.TheVariants as why
use Rattle.pcm_states.specs.declared.states.State.TheVariants as state
use Rattle.lab_lines.specs.declared.line.Op.TheVariants as op
use Rattle.lab_lines.specs.declared.script.Share.TheVariants as share
use Rattle.dsnoop_client.specs.declared.stream.CaptureStream as reading
use Rattle.dshare.specs.Owners as owners
use Rattle.lab_lines.specs.declared.line.Actor.TheVariants as actor
use Rattle.lab_lines.specs.declared.line.Item.TheVariants as item

-- ---- refusals

-- why an opening or closing may be refused
abbrev pub IsRefusal : PcmError → Type 0
IsRefusal error.BadState = ⊤
IsRefusal (error.Invalid why.Config) = ⊤
IsRefusal (error.Busy until seen) = ⊤
IsRefusal other = ⊥

attached-refusal : (n at : ℕ) (lobby : Lobby) → IfErr (after_attach n at lobby).1 IsRefusal
attached-refusal n at lobby = by_test (list_any is_free lobby.places) (position (is_silent at) lobby.places)
  where
    by_test : (free : Bool) (place : Option ℕ) → IfErr (cond free (attached_by place n at lobby) (lobby, Err (error.Busy None lobby.seen))).1 IsRefusal
    by_test true (Some place) = tt
    by_test true None = tt
    by_test false place = tt

claim-refusal : (shared : Share) (claims : List owners.ClaimRow) (channels : List ℕ) (at : ℕ) → IfSome (claim_refusal shared claims channels at) IsRefusal
claim-refusal share.Dmix claims channels at = tt
claim-refusal share.Dshare claims channels at = by_test (list_all (is_free_channel claims at) channels)
  where
    by_test : (free : Bool) → IfSome (cond free None (Some (owners.busy claims channels at))) IsRefusal
    by_test true = tt
    by_test false = tt

-- the state of a client, and of a reader, that may be open
abbrev pub IsClientState : Option PlaybackStream → State → Type 0
IsClientState None s = s ≡ state.Open
IsClientState (Some c) s = s ≡ c.status.state

abbrev pub IsReaderState : Option CaptureStream → State → Type 0
IsReaderState None s = s ≡ state.Open
IsReaderState (Some r) s = s ≡ r.status.state

abbrev pub IsStateOf : Session → Stage → Actor → State → Type 0
IsStateOf session stage actor.Card s = ⊤
IsStateOf session stage (actor.Client n) s = IsClientState (client_at session stage n).1.own s
IsStateOf session stage (actor.Reader n) s = IsReaderState (reader_at session stage n).1.own s

-- ---- the cases

-- a fact of what an opening or closing of an actor leaves of a stage
pub record AtBorder (session : Session) (stage : Stage) (who : Actor) (asked : Op) (P : Stage → Type 0) : Type 0 where
  pub none : who ≡ actor.Card → P stage
  pub refused : (lobby : Lobby) (e : PcmError) (s : State) (seen : Option ℕ) → IsRefusal e → IsStateOf session stage who s
      → P (with_row (stage_row stage who asked (Failed e) s seen) (record stage { lobby = lobby }))
  pub opens : (n : ℕ) (setup : Setup) (lobby : Lobby) → who ≡ actor.Client n → slice_index_or session.clients n None ≡ Some setup → (client_at session stage n).1.own ≡ None
      → claim_refusal session.card.share stage.claims setup.bindings stage.position ≡ None
      → P (with_row (stage_row stage who asked Done state.Prepared None)
      (with_client_at n (renewed_port session.ring (client_at session stage n).0, record (client_at session stage n).1 { own = Some (opened_client session.ring n setup) })
      (record stage { lobby = lobby; claims = with_claim session.card.share setup.bindings stage.claims })))
  pub ends : (n : ℕ) (c : PlaybackStream) → who ≡ actor.Client n → (client_at session stage n).1.own ≡ Some c
      → P (with_row (stage_row stage who asked Done state.Open c.seen) (with_client_at n (ended_client session.ring (client_at session stage n))
      (record stage { lobby = lobby_without session.ring n (client_at session stage n).0 stage.lobby; claims = claims_without session (client_at session stage n).0 c stage.claims })))
  pub reader_opens : (n : ℕ) (setup : Setup) → who ≡ actor.Reader n → slice_index_or session.readers n None ≡ Some setup
      → P (with_row (stage_row stage who asked Done state.Prepared None)
      (with_reader n (renewed_port session.ring (reader_at session stage n).0, record (reader_at session stage n).1 { own = Some (opened_reader session.ring setup) }) stage))
  pub reader_ends : (n : ℕ) (seen : Option ℕ) → who ≡ actor.Reader n
      → P (with_row (stage_row stage who asked Done state.Open seen) (with_reader n (ended_reader session.ring (reader_at session stage n)) stage))

module _ (session : Session) (stage : Stage) (P : Stage → Type 0) where
  client-opens : (n : ℕ) → AtBorder session stage (actor.Client n) op.Opens P → (own : Option PlaybackStream) → (client_at session stage n).1.own ≡ own
      → P (open_client session stage n (client_at session stage n) own)
  client-opens n at (Some c) is = at.refused stage.lobby error.BadState c.status.state c.seen tt (subst (λ own. IsClientState own c.status.state) (sym is) refl)
  client-opens n at None is = by_setup (slice_index_or session.clients n None) refl
    where
      refused : (lobby : Lobby) (e : PcmError) → IsRefusal e → P (with_row (stage_row stage (actor.Client n) op.Opens (Failed e) state.Open None) (record stage { lobby = lobby }))
      refused lobby e why_not = at.refused lobby e state.Open None why_not (subst (λ own. IsClientState own state.Open) (sym is) refl)

      by_answer : (setup : Setup) → slice_index_or session.clients n None ≡ Some setup → claim_refusal session.card.share stage.claims setup.bindings stage.position ≡ None
          → (to : Lobby × Result (Unit {0}) PcmError) → IfErr to.1 IsRefusal → P (attached_client session stage n setup (client_at session stage n) to)
      by_answer setup there granted (lobby, Ok done) why_not = at.opens n setup lobby refl there is granted
      by_answer setup there granted (lobby, Err e) why_not = refused lobby e why_not

      by_claim : (setup : Setup) → slice_index_or session.clients n None ≡ Some setup → (refusal : Option PcmError)
          → claim_refusal session.card.share stage.claims setup.bindings stage.position ≡ refusal → IfSome refusal IsRefusal
          → P (claimed_client session stage n setup (client_at session stage n) refusal)
      by_claim setup there (Some e) claimed why_not = refused stage.lobby e why_not
      by_claim setup there None granted why_not = by_answer setup there granted (after_attach n stage.position stage.lobby) (attached-refusal n stage.position stage.lobby)

      by_setup : (setup : Option Setup) → slice_index_or session.clients n None ≡ setup → P (open_client_with session stage n setup (client_at session stage n))
      by_setup None there = refused stage.lobby (error.Invalid why.Config) tt
      by_setup (Some setup) there = by_claim setup there (claim_refusal session.card.share stage.claims setup.bindings stage.position) refl
          (claim-refusal session.card.share stage.claims setup.bindings stage.position)

  client-closes : (n : ℕ) → AtBorder session stage (actor.Client n) op.Closes P → (own : Option PlaybackStream) → (client_at session stage n).1.own ≡ own
      → P (close_client session stage n (client_at session stage n) own)
  client-closes n at None is = at.refused stage.lobby error.BadState state.Open None tt (subst (λ own. IsClientState own state.Open) (sym is) refl)
  client-closes n at (Some c) is = at.ends n c refl is

  reader-opens : (n : ℕ) → AtBorder session stage (actor.Reader n) op.Opens P → (own : Option CaptureStream) → (reader_at session stage n).1.own ≡ own
      → P (open_reader session stage n (reader_at session stage n) own)
  reader-opens n at (Some r) is = at.refused stage.lobby error.BadState r.status.state r.seen tt (subst (λ own. IsReaderState own r.status.state) (sym is) refl)
  reader-opens n at None is = by_setup (slice_index_or session.readers n None) refl
    where
      by_setup : (setup : Option Setup) → slice_index_or session.readers n None ≡ setup → P (open_reader_with session stage n setup (reader_at session stage n))
      by_setup None there = at.refused stage.lobby (error.Invalid why.Config) state.Open None tt (subst (λ own. IsReaderState own state.Open) (sym is) refl)
      by_setup (Some setup) there = at.reader_opens n setup refl there

  reader-closes : (n : ℕ) → AtBorder session stage (actor.Reader n) op.Closes P → (own : Option CaptureStream) → (reader_at session stage n).1.own ≡ own
      → P (close_reader session stage n (reader_at session stage n) own)
  reader-closes n at None is = at.refused stage.lobby error.BadState state.Open None tt (subst (λ own. IsReaderState own state.Open) (sym is) refl)
  reader-closes n at (Some r) is = at.reader_ends n r.seen refl

  pub opens-to : (who : Actor) → AtBorder session stage who op.Opens P → P (after_open session stage who)
  opens-to actor.Card at = at.none refl
  opens-to (actor.Client n) at = client-opens n at (client_at session stage n).1.own refl
  opens-to (actor.Reader n) at = reader-opens n at (reader_at session stage n).1.own refl

  pub closes-to : (who : Actor) → AtBorder session stage who op.Closes P → P (after_close session stage who)
  closes-to actor.Card at = at.none refl
  closes-to (actor.Client n) at = client-closes n at (client_at session stage n).1.own refl
  closes-to (actor.Reader n) at = reader-closes n at (reader_at session stage n).1.own refl

-- ---- facts that don't ask for the case

-- a reader that was opened, or that isn't open
abbrev pub IsAnew : Geometry → Option reading.CaptureStream → Type 0
IsAnew ring None = ⊤
IsAnew ring (Some r) = (setup : Setup) × (r ≡ opened_reader ring setup)

-- A fact of what an opening or closing of an actor leaves: of the stage itself, where it is the card's; with the row of a refusal; with a
-- client whose port is new and whose segments are the same; and with a reader whose port is new and whose frames are the same.
pub record Border (session : Session) (stage : Stage) (who : Actor) (P : Stage → Type 0) : Type 0 where
  pub none : who ≡ actor.Card → P stage
  pub refused : (lobby : Lobby) (row : Row) → row.actor ≡ who → P (with_row row (record stage { lobby = lobby }))
  pub client : (n : ℕ) (client : Client) (lobby : Lobby) (claims : List owners.ClaimRow) (row : Row) → who ≡ actor.Client n → row.actor ≡ actor.Client n
      → segments_of client ≡ segments_of (client_at session stage n).1
      → P (with_row row (with_client_at n (renewed_port session.ring (client_at session stage n).0, client) (record stage { lobby = lobby; claims = claims })))
  pub reader : (n : ℕ) (own : Option reading.CaptureStream) → IsAnew session.ring own → (row : Row) → who ≡ actor.Reader n → row.actor ≡ actor.Reader n
      → P (with_row row (with_reader n (renewed_port session.ring (reader_at session stage n).0, record (reader_at session stage n).1 { own = own }) stage))

-- so has what is left in each case
at-border : {session : Session} {stage : Stage} {who : Actor} {P : Stage → Type 0} (asked : Op) → Border session stage who P → AtBorder session stage who asked P
at-border {session = session} {stage = stage} asked border = record {
  none = border.none;
  refused = λ lobby e s seen refusal own. border.refused lobby _ refl;
  opens = λ n setup lobby is there closed granted. border.client n (record (client_at session stage n).1 { own = Some (opened_client session.ring n setup) }) lobby _ _ is is
      (ap (λ own. (client_at session stage n).1.ended ++ present_of own) (sym closed));
  ends = λ n c is is_open. border.client n (ended_client session.ring (client_at session stage n)).1 _ _ _ is is (append-nil (segments_of (client_at session stage n).1));
  reader_opens = λ n setup is there. border.reader n (Some (opened_reader session.ring setup)) (setup, refl) _ is is;
  reader_ends = λ n seen is. border.reader n None tt _ is is;
}

module _ (session : Session) (stage : Stage) (P : Stage → Type 0) (who : Actor) (border : Border session stage who P) where
  pub open-by : P (after_open session stage who)
  open-by = opens-to session stage P who (at-border op.Opens border)

  pub close-by : P (after_close session stage who)
  close-by = closes-to session stage P who (at-border op.Closes border)

-- what holds from a stage to the next, over an opening or closing and over a phase, and over two steps where it holds over each
pub record OverItems (session : Session) (R : Stage → Stage → Type 0) : Type 0 where
  pub same : (stage : Stage) → R stage stage
  pub border : (stage : Stage) (who : Actor) → Border session stage who (R stage)
  pub phase : (stage after : Stage) (lines : List Line) → PhaseMay session stage lines after → R stage after
  pub then : (x y z : Stage) → R x y → R y z → R x z

module _ (session : Session) (R : Stage → Stage → Type 0) (over : OverItems session R) where
  pub item-over : (stage after : Stage) (one : Item) → ItemMay session stage one after → R stage after
  item-over stage after (item.Opens number who) is = subst (R stage) (sym is) (open-by session stage (R stage) who (over.border stage who))
  item-over stage after (item.Closes number who) is = subst (R stage) (sym is) (close-by session stage (R stage) who (over.border stage who))
  item-over stage after (item.Phase lines) may = over.phase stage after lines may

  pub items-over : (stage after : Stage) (items : List Item) → ItemsMay session stage items after → R stage after
  items-over stage after [] is = subst (R stage) (sym is) (over.same stage)
  items-over stage after (one ∷ items) (between, may, rest) =
      over.then stage between after (item-over stage between one may) (items-over between after items rest)
