-- All readers of a script, in a phase: what each step of it makes of them.
use Rattle.std.specs.Prelude.{◌≡◌, ℕ, Bool, true, false, List, [], ◌∷◌}
use Rattle.std.proofs.Common.{refl}
use Rattle.mix_core.specs.declared.gate.Gate as gate
use Rattle.snoop_table.specs.declared.seats.reader.ReaderSeat.{ReaderSeat}
use Rattle.card_sim.specs.declared.card.Card.{Card}
use Rattle.lab_lines.specs.declared.line.Line.{Line}
use Rattle.lab_lines.specs.declared.line.Op.{Op}
use Rattle.lab_run.specs.Items.{is_reader_stopped}
use Rattle.lab_actors.specs.Gates.{AsksGateAt}
use Rattle.lab_actors.specs.Walks.{AreEach}
use Rattle.lab_card.specs.Meets.{IsSameCard}
use Rattle.lab_readers.specs.declared.reader.LabReader.{LabReader}
use Rattle.lab_readers.specs.OneReader.{CanRun, HasRoom, ops_of, reader_in, rows_of}
use Rattle.lab_readers.specs.OneOpening.{HasClosed}
use Rattle.lab_readers.specs.OpenReader.{RunsLines, IsReaderHeard, IsReaderInformed, IsSameBut}
use Rattle.lab_readers.specs.AtStage.{HasGotAllOf, IsLaterSpare, readers_of, spare_of}
use Rattle.lab_readers.specs.declared.readers.LabReaders.{LabReaders}

-- each reader is in a relation, which knows its number, to what became of it, and the spare seat is as before
pub record EachReader (R : ℕ → LabReader → LabReader → Type 0)
    (before after : LabReaders) : Type 0 where
  pub spare : spare_of after ≡ spare_of before
  pub each : AreEach R 0 (readers_of before) (readers_of after)

-- a reader is as before, but for its room
pub record IsSameWithRows (number : ℕ) (r s : LabReader) : Type 0 where
  pub same : IsSameBut r s
  pub rows : rows_of s ≡ rows_of r

pub IsSameWithRows-none : (number : ℕ) (r : LabReader) → IsSameWithRows number r r
IsSameWithRows-none number r = record {
  same = record { seat = refl; stream = refl; left = refl; file = record { number = refl; frames = refl; samples = refl }; read_before = refl };
  rows = refl;
}

-- a reader took the room of its lines
pub record HasTakenRoom (lines : List Line) (number : ℕ) (r s : LabReader) : Type 0 where
  pub room : HasRoom lines s
  pub kept : IsSameWithRows number r s

-- a reader can use its seat, and has the room of its lines
pub record IsReady (lines : List Line) (r : LabReader) : Type 0 where
  pub usable : CanRun r
  pub room : HasRoom lines r

-- a reader met a note of the card, which met notes of others before it; or the card met its note, before it met those of others
pub record IsInformedBy (c : Card) (number : ℕ) (r s : LabReader) : Type 0 where
  pub card : Card
  pub same : IsSameCard c card
  pub informed : IsReaderInformed card r s

pub record IsHeardBy (c : Card) (number : ℕ) (r s : LabReader) : Type 0 where
  pub card : Card
  pub same : IsSameCard c card
  pub heard : IsReaderHeard card r s

-- a reader did its lines with the gate of its number
abbrev pub RunsAt : {T : Type 0} → gate.Ghosts T → List T → List T → ℕ → List Line → ℕ
    → LabReader → LabReader → Type 0
RunsAt G gates after phase lines number r s =
    AsksGateAt G gates after number
    (λ before later asks. RunsLines phase before later asks lines r s)

-- a reader's rows were taken
pub record HasGivenRows (number : ℕ) (r s : LabReader) : Type 0 where
  pub same : IsSameBut r s
  pub rows : rows_of s ≡ []

-- some of a phase's lines are a reader's
abbrev pub is_some_op : List Op → Bool
is_some_op [] = false
is_some_op (asked ∷ more) = true

abbrev pub has_lines : List Line → LabReader → Bool
has_lines lines r = is_some_op (ops_of r lines)

-- a reader was closed, and the spare seat took its seat over: it has got all that its seat had got
pub record ClosesInto (spare : ReaderSeat) (r s : LabReader) : Type 0 where
  pub seat : ReaderSeat
  pub closed : HasClosed seat r s
  pub got : HasGotAllOf seat spare

-- a reader was closed if it was stopped, and else it is as before
pub record IsReaped (spare : ReaderSeat) (number : ℕ) (r s : LabReader) : Type 0 where
  pub stopped : is_reader_stopped (reader_in r).own ≡ true → ClosesInto spare r s
  pub goes : is_reader_stopped (reader_in r).own ≡ false → s ≡ r

-- each reader that was stopped was closed, and the spare seat took their seats over
pub record AreReaped (before after : LabReaders) : Type 0 where
  pub spare : IsLaterSpare (spare_of before) (spare_of after)
  pub each : AreEach (IsReaped (spare_of after)) 0 (readers_of before) (readers_of after)
