-- A card at a stage of a run: what a phase allows by the card is what it allows by the stage, and the card is that of the next stage after it.
use Rattle.std.specs.Prelude.{◌≡◌, ℕ, ◌+◌, ◌||◌, Bool, false, List, Option, All}
use Rattle.std.proofs.Common.{sym, ap, ◌∙◌}
use Rattle.snd_base.specs.declared.geometry.Geometry.{Geometry}
use Rattle.sum_table.specs.declared.view.Key.{Key}
use Rattle.sum_table.specs.declared.view.Track.{Track}
use Rattle.wav_io.specs.Sound.{Sound}
use Rattle.card_sim.specs.declared.card.Card.{Card}
use Rattle.card_sim.specs.Runs.{period_of}
use Rattle.lab_lines.specs.declared.line.Line.{Line}
use Rattle.lab_lines.specs.Limits.{IsLine}
use Rattle.lab_lines.specs.Script.{is_of_card, unplugs}
use Rattle.lab_lines.specs.declared.row.Row.{Row}
use Rattle.lab_run.specs.Client.{Client}
use Rattle.lab_run.specs.Items.{phase_end, rules_of}
use Rattle.lab_run.specs.Phases.{ops_by, played_in, phase_positions}
use Rattle.lab_run.specs.Reader.{Reader}
use Rattle.lab_run.specs.Rules.{AtPort, Rules}
use Rattle.lab_run.specs.Stage.{Session, Stage}
use Rattle.lab_card.specs.declared.card.CardActor.{CardActor}
use Rattle.lab_card.specs.CardLines.{CardPart, frames_by, unplugs_by}
use Rattle.lab_card.specs.Findings.{CardPhase, rules_between}
use Rattle.lab_card.specs.MeetLaws.{frame-same, geometry-same}
use Rattle.lab_card.specs.Meets.{IsSameCard}
use Rattle.lab_card.specs.Moves.{frame_of_card, geometry_of_card, is_gone}
use Rattle.lab_card.specs.MovesLaws.{or-false}
use Rattle.lab_card.specs.PositionLaws.{frames_by-ops_by}
use Rattle.lab_card.specs.Unplugs.{unplugs_by-ops_by}

-- a card is that of a session, at a stage
pub record IsCardAt (session : Session) (stage : Stage) (c : Card) : Type 0 where
  pub ring : geometry_of_card c ≡ session.ring
  pub period : period_of c ≡ session.card.period
  pub frame : frame_of_card c ≡ stage.position
  pub gone : is_gone c ≡ stage.gone

rules_by : Geometry → ℕ → Bool → ℕ → ℕ → List Line → Rules
rules_by ring position gone period from lines =
    record { at = record { ring = ring; position = position; gone = gone }; published = phase_positions period from lines }

rules_by-same : (ring ring_is : Geometry) (position position_is : ℕ) (gone gone_is : Bool) (period period_is from from_is : ℕ) (lines : List Line)
    → ring ≡ ring_is → position ≡ position_is → gone ≡ gone_is → period ≡ period_is → from ≡ from_is
    → rules_by ring position gone period from lines ≡ rules_by ring_is position_is gone_is period_is from_is lines
rules_by-same ring ring_is position position_is gone gone_is period period_is from from_is lines same_ring same_position same_gone same_period same_from =
    ap (λ (x : Geometry). rules_by x position gone period from lines) same_ring
    ∙ (ap (λ (x : ℕ). rules_by ring_is x gone period from lines) same_position
    ∙ (ap (λ (x : Bool). rules_by ring_is position_is x period from lines) same_gone
    ∙ (ap (λ (x : ℕ). rules_by ring_is position_is gone_is x from lines) same_period ∙ ap (λ (x : ℕ). rules_by ring_is position_is gone_is period_is x lines) same_from)))

module _ (session : Session) (stage : Stage) where
  -- what a phase allows by the card is what it allows by the stage
  pub rules_between-rules_of : (lines : List Line) (c d : Card) → IsCardAt session stage c → frame_of_card d ≡ frame_of_card c + played_in lines
      → rules_between c d lines ≡ rules_of session stage lines
  unfolding rules_by
  rules_between-rules_of lines c d is frame =
      rules_by-same (geometry_of_card c) session.ring (frame_of_card d) (stage.position + played_in lines) (is_gone c) stage.gone (period_of c) session.card.period
      (frame_of_card c) stage.position lines is.ring (frame ∙ ap (λ (n : ℕ). n + played_in lines) is.frame) is.gone is.period is.frame

  pub CardPhase-rules : (capture : Option Sound) (phase : ℕ) (c : Card) (a b : CardActor) (d : Card) (lines : List Line) → CardPhase capture phase c a b d lines
      → IsCardAt session stage c → rules_between c b.card lines ≡ rules_of session stage lines
  CardPhase-rules capture phase c a b d lines card is =
      rules_between-rules_of lines c b.card is
      (card.part.did.moves.frame ∙ (ap (λ (n : ℕ). n + frames_by (ops_by is_of_card lines)) (frame-same c a.card card.before)
      ∙ ap (λ (n : ℕ). frame_of_card c + n) (frames_by-ops_by lines)))

  -- a card that met notes is at the stage at which it was
  pub IsCardAt-same : (c d : Card) → IsSameCard c d → IsCardAt session stage c → IsCardAt session stage d
  IsCardAt-same c d same is = record {
    ring = geometry-same c d same ∙ is.ring;
    period = same.period ∙ is.period;
    frame = frame-same c d same ∙ is.frame;
    gone = ap (λ (t : Track). t.gone) same.player.track ∙ is.gone;
  }

  -- a card that did its lines of a phase is at the stage at the end of it
  pub IsCardAt-after : (capture : Option Sound) (phase clients readers : ℕ) (a b : CardActor) (lines : List Line) (client_ends : List (AtPort × Client) × List Row)
      (reader_ends : List (AtPort × Reader) × List Row) → All (IsLine clients readers) lines → CardPart capture phase a b (ops_by is_of_card lines)
      → IsCardAt session stage a.card → IsCardAt session (phase_end session stage lines client_ends reader_ends) b.card
  IsCardAt-after capture phase clients readers a b lines client_ends reader_ends each part is =
      let moves = part.did.moves in
      record {
        ring = ap (λ (k : Key). k.geometry) moves.player.key ∙ is.ring;
        period = moves.period ∙ is.period;
        frame = moves.frame ∙ (ap (λ (n : ℕ). n + frames_by (ops_by is_of_card lines)) is.frame ∙ ap (λ (n : ℕ). stage.position + n) (frames_by-ops_by lines));
        gone = moves.player.gone ∙ (ap (λ (b : Bool). b || unplugs_by (ops_by is_of_card lines)) is.gone
            ∙ ap (λ (b : Bool). stage.gone || b) (unplugs_by-ops_by clients readers lines each));
      }

  -- a card that isn't unplugged in a phase is gone after it where it was before
  pub phase_end-plugged : (lines : List Line) (client_ends : List (AtPort × Client) × List Row) (reader_ends : List (AtPort × Reader) × List Row) → unplugs lines ≡ false
      → (phase_end session stage lines client_ends reader_ends).gone ≡ stage.gone
  phase_end-plugged lines client_ends reader_ends plugged = ap (λ (b : Bool). stage.gone || b) plugged ∙ sym (or-false stage.gone)
