-- A run has as many places at each stage as its card.
use Rattle.std.specs.Prelude.{◌≡◌, ℕ, zero, suc, ◌+◌, Bool, true, false, if◌then◌else◌, List, [], ◌∷◌, length, slice_index_or, Option, None, Some, Result, Ok, Err}
use Rattle.std.specs.List.{list_any, position}
use Rattle.std.proofs.Common.{refl, ap, ◌∙◌}
use Rattle.std.proofs.lemmas.List.{length-map, length-replicate}
use Rattle.snd_base.specs.declared.errors.PcmError.{PcmError}
use Rattle.snd_base.specs.declared.errors.PcmError.TheVariants.{Busy}
use Rattle.mix_core.specs.Marks.{high_frame}
use Rattle.dmix_client.specs.declared.stream.PlaybackStream.{PlaybackStream}
use Rattle.lab_lines.specs.declared.line.Actor.TheVariants as actor
use Rattle.lab_lines.specs.declared.line.Item.{Item}
use Rattle.lab_lines.specs.declared.line.Item.TheVariants as item
use Rattle.lab_lines.specs.declared.line.Line.{Line}
use Rattle.lab_run.specs.Claims.{claim_refusal}
use Rattle.lab_run.specs.Client.{Client}
use Rattle.lab_run.specs.Items.{Held, ItemMay, ItemsMay, PhaseMay, held_after, held_of, held_without, is_stopped, reaped_one}
use Rattle.lab_run.specs.Places.{Lobby, Place, after_attach, attached_by, held_by, is_free, is_silent, left_place}
use Rattle.lab_run.specs.Rules.{AtPort}
use Rattle.lab_run.specs.Stage.{Session, Setup, Stage, attached_client, claimed_client, client_at, close_client, first_stage, open_client, open_client_with}
use Rattle.lab_phase.specs.Borders.{after_close-keeps_clients, after_open-keeps_clients}

abbrev pub place_count : Stage → ℕ
place_count stage = length stage.lobby.places

length-held_by : (client place : ℕ) (places : List Place) → length (held_by client place places) ≡ length places
length-held_by client place [] = refl
length-held_by client zero (first ∷ places) = refl
length-held_by client (suc place) (first ∷ places) = ap suc (length-held_by client place places)

-- ---- an attach

length-attached_by : (place : Option ℕ) (client at : ℕ) (lobby : Lobby) → length (attached_by place client at lobby).0.places ≡ length lobby.places
length-attached_by (Some place) client at lobby = length-held_by client place lobby.places
length-attached_by None client at lobby = refl

length-attached : (client at : ℕ) (lobby : Lobby) → length (after_attach client at lobby).0.places ≡ length lobby.places
length-attached client at lobby = by_free (list_any is_free lobby.places)
  where
    by_free : (free : Bool)
        → length (if free then attached_by (position (is_silent at) lobby.places) client at lobby else (lobby, Err (Busy None lobby.seen))).0.places
        ≡ length lobby.places
    by_free true = length-attached_by (position (is_silent at) lobby.places) client at lobby
    by_free false = refl

-- ---- an opening and a closing of a client

module _ (session : Session) (stage : Stage) (number : ℕ) where
  attached_client-places : (setup : Setup) (client : AtPort × Client) (attach : Lobby × Result (Unit {0}) PcmError)
      → place_count (attached_client session stage number setup client attach) ≡ length attach.0.places
  attached_client-places setup (a, client) (lobby, Ok done) = refl
  attached_client-places setup client (lobby, Err e) = refl

  claimed_client-places : (setup : Setup) (client : AtPort × Client) (refusal : Option PcmError)
      → place_count (claimed_client session stage number setup client refusal) ≡ place_count stage
  claimed_client-places setup client (Some e) = refl
  claimed_client-places setup client None =
      attached_client-places setup client (after_attach number stage.position stage.lobby) ∙ length-attached number stage.position stage.lobby

  open_client_with-places : (setup : Option Setup) (client : AtPort × Client) → place_count (open_client_with session stage number setup client) ≡ place_count stage
  open_client_with-places None client = refl
  open_client_with-places (Some setup) client = claimed_client-places setup client (claim_refusal session.card.share stage.claims setup.bindings stage.position)

  open_client-places : (client : AtPort × Client) (own : Option PlaybackStream) → place_count (open_client session stage number client own) ≡ place_count stage
  open_client-places client (Some c) = refl
  open_client-places client None = open_client_with-places (slice_index_or session.clients number None) client

  close_client-places : (client : AtPort × Client) (own : Option PlaybackStream) → place_count (close_client session stage number client own) ≡ place_count stage
  close_client-places client None = refl
  close_client-places client (Some c) = length-map stage.lobby.places (left_place number (high_frame session.ring client.0.marks))

-- ---- the end of a phase

held_without-places : (session : Session) (number : ℕ) (a : AtPort) (own : Option PlaybackStream) (held : Held)
    → length (held_without session number a own held).lobby.places ≡ length held.lobby.places
held_without-places session number a None held = refl
held_without-places session number a (Some c) held = length-map held.lobby.places (left_place number (high_frame session.ring a.marks))

reaped_one-places : (session : Session) (number : ℕ) (client : AtPort × Client) (stopped : Bool) (held : Held)
    → length (reaped_one session number client stopped held).lobby.places ≡ length held.lobby.places
reaped_one-places session number client true held = held_without-places session number client.0 client.1.own held
reaped_one-places session number client false held = refl

held_after-places : (session : Session) (number : ℕ) (clients : List (AtPort × Client)) (held : Held)
    → length (held_after session number clients held).lobby.places ≡ length held.lobby.places
held_after-places session number [] held = refl
held_after-places session number (client ∷ clients) held =
    held_after-places session (number + 1) clients (reaped_one session number client (is_stopped client.1.own) held)
    ∙ reaped_one-places session number client (is_stopped client.1.own) held

PhaseMay-places : (session : Session) (stage after : Stage) (lines : List Line) → PhaseMay session stage lines after → place_count after ≡ place_count stage
PhaseMay-places session stage after lines may =
    ap (λ (s : Stage). place_count s) may.is ∙ held_after-places session 0 may.clients (held_of stage)

-- ---- the items of a body

ItemMay-places : (session : Session) (stage after : Stage) (one : Item) → ItemMay session stage one after → place_count after ≡ place_count stage
ItemMay-places session stage after (item.Phase lines) may = PhaseMay-places session stage after lines may
ItemMay-places session stage after (item.Opens number actor.Card) may = ap (λ (s : Stage). place_count s) may
ItemMay-places session stage after (item.Closes number actor.Card) may = ap (λ (s : Stage). place_count s) may
ItemMay-places session stage after (item.Opens number (actor.Client n)) may =
    ap (λ (s : Stage). place_count s) may ∙ open_client-places session stage n (client_at session stage n) (client_at session stage n).1.own
ItemMay-places session stage after (item.Closes number (actor.Client n)) may =
    ap (λ (s : Stage). place_count s) may ∙ close_client-places session stage n (client_at session stage n) (client_at session stage n).1.own
ItemMay-places session stage after (item.Opens number (actor.Reader n)) may =
    ap (λ (s : Stage). place_count s) may ∙ ap (λ (held : Held). length held.lobby.places) (after_open-keeps_clients session stage n).held
ItemMay-places session stage after (item.Closes number (actor.Reader n)) may =
    ap (λ (s : Stage). place_count s) may ∙ ap (λ (held : Held). length held.lobby.places) (after_close-keeps_clients session stage n).held

ItemsMay-places : (session : Session) (stage after : Stage) (items : List Item) → ItemsMay session stage items after → place_count after ≡ place_count stage
ItemsMay-places session stage after [] may = ap (λ (s : Stage). place_count s) may
ItemsMay-places session stage after (one ∷ items) (between, first, others) =
    ItemsMay-places session between after items others ∙ ItemMay-places session stage between one first

-- a place that was never held
abbrev new_place : Place
new_place = record { holder = None; last = None }

-- at each stage that a run may reach
pub place_count-reached : (session : Session) (stage : Stage) (items : List Item) → ItemsMay session (first_stage session) items stage → place_count stage ≡ session.card.places
place_count-reached session stage items may =
    ItemsMay-places session (first_stage session) stage items may ∙ length-replicate session.card.places new_place
