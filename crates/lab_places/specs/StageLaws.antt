-- An opening and a closing in a run, by what they make of the places and claims.
use Rattle.std.specs.Prelude.{◌≡◌, ℕ, Option, Some, None, Result, Ok, Err}
use Rattle.std.proofs.Common.{refl, ap, ◌∙◌}
use Rattle.snd_base.specs.declared.errors.PcmError.{PcmError}
use Rattle.pcm_states.specs.declared.states.State.TheVariants as state
use Rattle.lab_lines.specs.declared.line.Actor.TheVariants as actor
use Rattle.lab_lines.specs.declared.line.Op.TheVariants as op
use Rattle.lab_run.specs.Claims.{claim_refusal}
use Rattle.lab_run.specs.Client.{Client}
use Rattle.lab_run.specs.Items.{Held, held_of}
use Rattle.lab_run.specs.Places.{Lobby, after_attach}
use Rattle.lab_run.specs.Rules.{AtPort}
use Rattle.lab_run.specs.Stage.{Session, Setup, Stage, attached_client, claimed_client, done_open, open_client_with, opened_client, refused_open, renewed_port, with_client_at}
use Rattle.lab_places.specs.Held.{attached_held, opened_held, opened_if}
use Rattle.lab_places.specs.HeldLaws.{Came}

-- a stage with these places and claims
abbrev pub with_held : Held → Stage → Stage
with_held held stage = record stage { lobby = held.lobby; claims = held.claims }

-- a client that is opened with a setup
abbrev pub with_opened : Session → ℕ → Setup → AtPort × Client → Stage → Stage
with_opened session number setup client stage =
    with_client_at number (renewed_port session.ring client.0, record client.1 { own = Some (opened_client session.ring number setup) }) stage

-- the stage after an opening, by what came of it
abbrev pub opened_stage : Session → Stage → ℕ → Setup → AtPort × Client → Came → Stage
opened_stage session stage number setup client (held, Ok done) = done_open (actor.Client number) (with_opened session number setup client (with_held held stage))
opened_stage session stage number setup client (held, Err e) = refused_open (actor.Client number) e (with_held held stage)

-- what comes of an opening at a stage
abbrev pub came_of : Session → Stage → ℕ → Setup → Came
came_of session stage number setup = opened_held session.card.share number setup.bindings stage.position (held_of stage)

module _ (session : Session) (stage : Stage) (number : ℕ) where
  attached-opened : (setup : Setup) (client : AtPort × Client) (attach : Lobby × Result (Unit {0}) PcmError)
      → attached_client session stage number setup client attach ≡ opened_stage session stage number setup client (attached_held session.card.share setup.bindings (held_of stage) attach)
  attached-opened setup client (lobby, Ok done) = refl
  attached-opened setup client (lobby, Err e) = refl

  claimed-opened : (setup : Setup) (client : AtPort × Client) (refusal : Option PcmError)
      → claimed_client session stage number setup client refusal
      ≡ opened_stage session stage number setup client (opened_if session.card.share number setup.bindings stage.position (held_of stage) refusal)
  claimed-opened setup client (Some e) = refl
  claimed-opened setup client None = attached-opened setup client (after_attach number stage.position stage.lobby)

  -- an opening with a setup makes of the stage what came of it
  pub open_client_with-came_of : (setup : Setup) (client : AtPort × Client)
      → open_client_with session stage number (Some setup) client ≡ opened_stage session stage number setup client (came_of session stage number setup)
  open_client_with-came_of setup client = claimed-opened setup client (claim_refusal session.card.share stage.claims setup.bindings stage.position)

  opened_stage-done : (setup : Setup) (client : AtPort × Client) (came : Came) → came.1 ≡ Ok tt
      → opened_stage session stage number setup client came ≡ done_open (actor.Client number) (with_opened session number setup client (with_held came.0 stage))
  opened_stage-done setup client (held, Ok done) is = refl
  opened_stage-done setup client (held, Err e) is = absurd (cc)

  -- where it went well the client is open
  pub open_client_with-done : (setup : Setup) (client : AtPort × Client) → (came_of session stage number setup).1 ≡ Ok tt
      → open_client_with session stage number (Some setup) client
      ≡ done_open (actor.Client number) (with_opened session number setup client (with_held (came_of session stage number setup).0 stage))
  open_client_with-done setup client is =
      open_client_with-came_of setup client ∙ opened_stage-done setup client (came_of session stage number setup) is

  opened_stage-refused : (setup : Setup) (client : AtPort × Client) (came : Came) (e : PcmError) → came.1 ≡ Err e
      → opened_stage session stage number setup client came ≡ refused_open (actor.Client number) e (with_held came.0 stage)
  opened_stage-refused setup client (held, Ok done) e is = absurd (cc)
  opened_stage-refused setup client (held, Err why) e is =
      let same : why ≡ e = cc in ap (λ (x : PcmError). refused_open (actor.Client number) x (with_held held stage)) same

  -- and where it was refused it isn't
  pub open_client_with-refused : (setup : Setup) (client : AtPort × Client) (e : PcmError) → (came_of session stage number setup).1 ≡ Err e
      → open_client_with session stage number (Some setup) client ≡ refused_open (actor.Client number) e (with_held (came_of session stage number setup).0 stage)
  open_client_with-refused setup client e is =
      open_client_with-came_of setup client ∙ opened_stage-refused setup client (came_of session stage number setup) e is
