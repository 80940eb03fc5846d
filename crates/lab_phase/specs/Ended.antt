-- What a run leaves, as the lab gives it at its end.
use Rattle.std.specs.Prelude.{◌≡◌, ℕ, ◌-◌, ℤ, IsSomeAnd, List, length, map}
use Rattle.std.specs.Global.{Vec}
use Rattle.mix_core.specs.History.{AreExact, AreInOrder}
use Rattle.mix_core.specs.declared.port.Entry.{Entry}
use Rattle.sum_table.specs.Players.{track_of}
use Rattle.card_sim.specs.declared.card.Card.{Card}
use Rattle.lab_lines.specs.Script.{first_frame}
use Rattle.lab_run.specs.Client.{Client}
use Rattle.lab_run.specs.Items.{Held}
use Rattle.lab_run.specs.LabRun as runs
use Rattle.lab_run.specs.LabRun.{AreWithin, LabRun, all_segments, lab_text, mix_of, outcome_of}
use Rattle.lab_run.specs.Phases.{AreUnmixed}
use Rattle.lab_run.specs.Rules.{AtPort}
use Rattle.lab_run.specs.Stage.{Session, Stage}
use Rattle.lab_card.specs.Moves.{geometry_of_card, seat_of_card}
use Rattle.lab_places.specs.Held.{key_of_places}
use Rattle.lab_clients.specs.AtStage as clients
use Rattle.lab_clients.specs.declared.clients.LabClients.{LabClients}
use Rattle.lab_clients.specs.End.{IsPlacedAll}
use Rattle.lab_card.specs.declared.card.CardActor.{CardActor}
use Rattle.lab_phase.specs.declared.finish.Outcome.{Outcome}
use Rattle.lab_phase.specs.declared.lab.Lab.{Lab}
use Rattle.lab_phase.specs.AtStage.{IsAtStage, capture_of, played_of, session_of}

-- what was left, as a run has it
abbrev pub outcome_in : Outcome → runs.Outcome
outcome_in outcome = record {
  report = outcome.report;
  played = outcome.played.items;
  recorded = map (λ (samples : Vec ℤ). samples.items) outcome.recorded.items;
}

-- all items of its script's body are done
abbrev pub IsAtEnd : Lab → Type 0
IsAtEnd lab = lab.next ≡ length lab.script.now.body

-- at whatever stage the lab was, this is what a run leaves that ends there
abbrev pub LeavesStage : Lab → Outcome → Type 0
LeavesStage lab outcome =
    (stage : Stage) → IsAtStage lab stage
    → outcome_in outcome ≡ outcome_of (session_of lab) (capture_of lab) stage

-- a run of the script may leave it, where the actors' own gates stop them as often as at that stage
abbrev pub LeavesRun : Lab → Outcome → Type 0
LeavesRun lab outcome =
    (stage : Stage) (client_stops reader_stops : ℕ → ℕ) → IsAtStage lab stage
    → AreWithin client_stops 0 stage.clients → AreWithin reader_stops 0 stage.readers
    → LabRun (session_of lab) (capture_of lab) lab.script.now.body client_stops
    reader_stops (outcome_in outcome)

-- of a script without a mixed phase, where no actor's own gate stopped it, this is what its one run leaves
abbrev pub LeavesOneRun : Lab → Outcome → Type 0
LeavesOneRun lab outcome =
    (stage : Stage) → IsAtStage lab stage → AreWithin (λ n. 0) 0 stage.clients
    → AreWithin (λ n. 0) 0 stage.readers → AreUnmixed lab.script.now.body
    → outcome_in outcome ≡ lab_text (session_of lab) (capture_of lab) lab.script.now.body

-- the clients are those of a run, which has all places of their ring
pub record HaveAllPlaces (cs : LabClients) : Type 0 where
  pub session : Session
  pub held : Held
  pub xs : List (AtPort × Client)
  pub are : clients.AreAt session held xs cs
  pub all : length held.lobby.places ≡ (key_of_places (clients.places_of cs)).places

-- A card took the words of its ring in order, and each is the saturated total of all that was placed, which is what the segments of clients say.
pub record IsMixOf (session : Session) (xs : List (AtPort × Client)) (c : Card) : Type 0 where
  pub in_order : AreInOrder (geometry_of_card c) (track_of (seat_of_card c)).taken
  pub laid : List Entry
  pub values : AreExact laid (track_of (seat_of_card c)).taken
  pub placed : IsPlacedAll session xs laid

-- and the clients are those of the lab, of whatever run they are
abbrev pub IsMixBy : LabClients → Card → Type 0
IsMixBy cs c =
    (session : Session) (held : Held) (xs : List (AtPort × Client))
    → clients.AreAt session held xs cs → IsMixOf session xs c

-- so it is of the lab's card, at whatever stage the lab was
abbrev pub IsMixAtStage : Lab → Type 0
IsMixAtStage lab =
    (stage : Stage) → IsAtStage lab stage
    → IsSomeAnd lab.card (λ (a : CardActor). IsMixOf (session_of lab) stage.clients a.card)

-- at whatever stage the lab was, the card played the saturated sums of what the segments so far placed
abbrev pub HasPlayedMix : Lab → Type 0
HasPlayedMix lab =
    (stage : Stage) → IsAtStage lab stage
    → played_of lab ≡ mix_of (session_of lab) (all_segments stage.clients)
    (stage.position - first_frame (session_of lab).card)
