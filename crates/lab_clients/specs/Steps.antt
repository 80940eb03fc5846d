-- All clients of a script, in a phase: what each step of it makes of them.
use Rattle.std.specs.Prelude.{◌≡◌, ℕ, ◌<◌, ◌≤◌, nat_lt, Bool, List, [], length, slice_index_or, Option, None, Some, ⊤}
use Rattle.std.proofs.Common.{refl}
use Rattle.mix_core.specs.declared.gate.Gate as gate
use Rattle.wav_io.specs.Sound.{Sound}
use Rattle.card_sim.specs.declared.card.Card.{Card}
use Rattle.lab_lines.specs.declared.line.Line.{Line}
use Rattle.lab_run.specs.Items.{no_sound}
use Rattle.lab_run.specs.Phases.{is_client, ops_by}
use Rattle.lab_card.specs.Meets.{IsSameCard}
use Rattle.lab_actors.specs.Gates.{AsksGateAt}
use Rattle.lab_clients.specs.declared.client.LabClient.{LabClient}
use Rattle.lab_clients.specs.declared.open_client.OpenClient.{OpenClient}
use Rattle.lab_clients.specs.OneClient.{CanRun, HasRoom, IsClientHeard, IsClientInformed, IsOfCard, IsSameBut, RunsLines, GoesOrRests, number_of, open_of, rows_of}
use Rattle.lab_clients.specs.OpenClient.{IsSameOpen}

-- the file of a number
abbrev pub sound_at : List Sound → ℕ → Sound
sound_at sounds i = slice_index_or sounds i no_sound

-- each client that is open has a seat of the card's ring
abbrev pub AreOfCard : Card → List LabClient → Type 0
AreOfCard c ds = (i : ℕ) (d : LabClient) → i < length ds → IsOfCard c (slice_index_or ds i d)

-- whether some of a phase's lines are a client's
abbrev pub has_lines : List Line → LabClient → Bool
has_lines lines d = nat_lt 0 (length (ops_by (is_client (number_of d)) lines))

-- a client is as before, but for its room
pub record IsSameWithRows (i : ℕ) (d e : LabClient) : Type 0 where
  pub same : IsSameBut d e
  pub rows : rows_of e ≡ rows_of d

IsSameOpen-none : (o : OpenClient) → IsSameOpen o o
IsSameOpen-none o = record {
  same = record { bindings = refl; opened_at = refl; member = refl };
  seat = refl;
  number = refl;
  client = refl;
  left = refl;
  ended = refl;
}

IsSameBut-none : (d : LabClient) → IsSameBut d d
IsSameBut-none d = record { own = by_open (open_of d); rest = record { number = refl; ended = refl } }
  where
    by_open : (o : Option OpenClient) → GoesOrRests IsSameOpen ⊤ o o
    by_open None = tt
    by_open (Some o) = IsSameOpen-none o

pub IsSameWithRows-none : (i : ℕ) (d : LabClient) → IsSameWithRows i d d
IsSameWithRows-none i d = record { same = IsSameBut-none d; rows = refl }

-- a client took the room of its lines
pub record HasTakenRoom (lines : List Line) (i : ℕ) (d e : LabClient) : Type 0 where
  pub room : HasRoom lines e
  pub same : IsSameBut d e
  pub rows : rows_of e ≡ rows_of d

-- a client can use its seat with its file, and has the room of its lines
pub record IsReadyAt (sounds : List Sound) (lines : List Line) (i : ℕ)
    (d : LabClient) : Type 0 where
  pub ready : CanRun (sound_at sounds i) d
  pub room : HasRoom lines d

abbrev pub AreReady : List Sound → List Line → List LabClient → Type 0
AreReady sounds lines ds =
    (i : ℕ) (d : LabClient) → i < length ds → IsReadyAt sounds lines i (slice_index_or ds i d)

-- a client met a note of the card, which met notes of others before it; or the card met its note
pub record IsInformedBy (c : Card) (i : ℕ) (d e : LabClient) : Type 0 where
  pub card : Card
  pub same : IsSameCard c card
  pub informed : IsClientInformed card d e

pub record IsHeardBy (c : Card) (i : ℕ) (d e : LabClient) : Type 0 where
  pub card : Card
  pub same : IsSameCard c card
  pub heard : IsClientHeard card d e

-- a client did its lines with its gate
abbrev pub RunsAt : {T : Type 0} → gate.Ghosts T → List T → List T → List Sound → ℕ
    → List Line → ℕ → LabClient → LabClient → Type 0
RunsAt G gates after sounds phase lines i d e =
    AsksGateAt G gates after i
    (λ before later asks. RunsLines before later asks phase (sound_at sounds i) lines d e)

-- the gates from a number on are as they were
abbrev pub AreSameFrom : {G : Type 0} → ℕ → List G → List G → Type 0
AreSameFrom {G = G} from gates after =
    (i : ℕ) (g : G) → from ≤ i → slice_index_or after i g ≡ slice_index_or gates i g

-- a client's rows were taken
pub record HasGivenRows (i : ℕ) (d e : LabClient) : Type 0 where
  pub none : rows_of e ≡ []
  pub same : IsSameBut d e
