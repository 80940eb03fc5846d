-- A reader of the lab is new, is opened and is closed as that of a run is.
use Rattle.std.specs.Prelude.{◌≡◌, ℕ, zero, suc, ◌+◌, ◌<◌, List, [], ◌∷◌, ◌++◌, All, length, map, Option, Some, None, IfSome, slice_index_or, slice_set, ⊤}
use Rattle.std.proofs.Common.{refl, sym, ap, subst, ◌∙◌, arith}
use Rattle.std.proofs.lemmas.List.Elements.{All-head, All-tail}
use Rattle.snd_base.specs.declared.errors.PcmError.TheVariants.{BadState, Invalid}
use Rattle.snd_base.specs.declared.errors.Why.TheVariants as why
use Rattle.snd_base.specs.declared.geometry.Geometry.{Geometry}
use Rattle.snoop_table.specs.declared.seats.reader.ReaderSeat.{ReaderSeat}
use Rattle.snoop_table.specs.Readers as seats
use Rattle.snoop_table.specs.Readers.{SameReader}
use Rattle.pcm_states.specs.declared.states.State.TheVariants as state
use Rattle.dsnoop_client.specs.declared.stream.CaptureStream.{CaptureStream}
use Rattle.wav_io.specs.Sound.{Sound}
use Rattle.lab_lines.specs.declared.line.Actor.TheVariants as actor
use Rattle.lab_lines.specs.declared.line.Op.{Op}
use Rattle.lab_lines.specs.declared.line.Op.TheVariants as op
use Rattle.lab_lines.specs.declared.row.Answer.{Answer}
use Rattle.lab_lines.specs.declared.row.Answer.TheVariants.{Done, Failed}
use Rattle.lab_lines.specs.declared.row.Row.{Row}
use Rattle.lab_run.specs.LabRun.{bindings_of}
use Rattle.lab_run.specs.Reader.{Reader, row_by}
use Rattle.lab_run.specs.Rules.{AtPort}
use Rattle.lab_run.specs.Stage.{Session, Setup, Stage, after_close, after_open, close_reader, ended_reader, first_stage, no_reader, open_reader, open_reader_with, opened_reader, reader_at, renewed_port, with_reader, with_row}
use Rattle.lab_actors.specs.Sessions.{AreUsable}
use Rattle.lab_actors.specs.Usable.{IsUsable}
use Rattle.lab_actors.specs.Walks.{AreEach, AreEach-at, AreEach-map}
use Rattle.lab_readers.specs.declared.reader.LabReader.{LabReader}
use Rattle.lab_readers.specs.OneOpeningLaws.{IsAt-new, IsAt-opened, IsRecorded-new, IsRecorded-opened, reader_in-new, reader_in-opened}
use Rattle.lab_readers.specs.OneReader.{number_of, reader_in}
use Rattle.lab_readers.specs.OneOpening.{HasOpened, IsNeverOpen}
use Rattle.lab_readers.specs.declared.readers.LabReaders.{LabReaders}
use Rattle.lab_readers.specs.AtStage.{AreAfter, AreAt, IsLaterSpare, IsNewCardOf, IsReaderAt, readers_of, ring_of, spare_of}
use Rattle.lab_readers.specs.Counted.{AreCounted-set}
use Rattle.lab_actors.specs.EachLaws.{AreEach-set, AreEach-set_left}
use Rattle.lab_readers.specs.Kept.{IsReaderAt-later}
use Rattle.lab_readers.specs.Reaped.{IsReaderAt-closed}
use Rattle.lab_readers.specs.Steps.{ClosesInto}

-- ---- new ones

-- readers that were never open, the first of which has a number
abbrev pub AreNew : ℕ → List LabReader → Type 0
AreNew number [] = ⊤
AreNew number (r ∷ rs) = IsNeverOpen number r × AreNew (number + 1) rs

pub AreNew-append : (number : ℕ) (rs : List LabReader) (r : LabReader) → AreNew number rs → IsNeverOpen (number + length rs) r → AreNew number (rs ++ r ∷ [])
AreNew-append number [] r are is = (subst (λ n. IsNeverOpen n r) (omega arith) is, tt)
AreNew-append number (s ∷ rs) r are is = (are.0, AreNew-append (number + 1) rs r are.1 (subst (λ n. IsNeverOpen n r) (omega arith) is))

-- the bindings of each setup that fits a card go to its channels
on_card : (channels ring : ℕ) (setups : List (Option Setup)) → AreUsable channels ring setups → (n : ℕ)
    → All (λ channel. channel < channels) (bindings_of (slice_index_or setups n None))
on_card channels ring [] usable n = λ k d inside. absurd (omega (arith, inside))
on_card channels ring (setup ∷ setups) usable zero =
    by_setup setup (All-head (λ (own : Option Setup). IfSome own (IsUsable channels ring)) setup setups usable)
  where
    by_setup : (own : Option Setup) → IfSome own (IsUsable channels ring) → All (λ channel. channel < channels) (bindings_of own)
    by_setup None is = λ k d inside. absurd (omega (arith, inside))
    by_setup (Some own) is = is.on_card
on_card channels ring (setup ∷ setups) usable (suc n) =
    on_card channels ring setups (All-tail (λ (own : Option Setup). IfSome own (IsUsable channels ring)) setup setups usable) n

module _ (session : Session) (capture : Option Sound) (spare : ReaderSeat)
    (on : (n : ℕ) → All (λ channel. channel < session.ring.channels) (bindings_of (slice_index_or session.readers n None))) where
  IsReaderAt-new : (number : ℕ) (r : LabReader) → IsNeverOpen number r → IsReaderAt session capture spare session.ring number r (no_reader session.ring)
  IsReaderAt-new number r new = record {
    is = record {
      numbered = new.number_is;
      reader = reader_in-new number r new;
      at = IsAt-new (seats.ring_of spare) session.ring number 0 0 r new;
      recorded = IsRecorded-new capture session.ring (bindings_of (slice_index_or session.readers number None)) (seats.view_of spare).got number r (on number) new;
    };
    goes = refl;
    rows = new.rows;
  }

  each-new : (number : ℕ) (rs : List LabReader) (setups : List (Option Setup)) → length setups ≡ length rs → AreNew number rs
      → AreEach (IsReaderAt session capture spare session.ring) number rs (map (λ setup. no_reader session.ring) setups)
  each-new number [] [] count new = tt
  each-new number (r ∷ rs) (setup ∷ setups) count new = (IsReaderAt-new number r new.0, each-new (number + 1) rs setups (omega (arith, count)) new.1)
  each-new number [] (setup ∷ setups) count new = absurd (omega (arith, count))
  each-new number (r ∷ rs) [] count new = absurd (omega (arith, count))

-- New readers are those of a run before its first item.
pub AreAt-new : (session : Session) (capture : Option Sound) (count : ℕ) (rs : LabReaders) → IsNewCardOf session (spare_of rs) count → length (readers_of rs) ≡ count
    → AreNew 0 (readers_of rs) → AreAt session capture (first_stage session).readers rs
AreAt-new session capture count rs is len new = record {
  card = is.card;
  each = each-new session capture (spare_of rs) (on_card session.ring.channels session.ring.frames session.readers is.usable) 0 (readers_of rs) session.readers (is.count_is ∙ sym len) new;
}

-- ---- one item of a body

-- a reader was opened at a new seat of the ring
pub record OpensAt (spare : ReaderSeat) (setup : Setup) (phase : ℕ) (r s : LabReader)
    (row : Row) : Type 0 where
  pub seat : ReaderSeat
  pub of_ring : SameReader spare seat
  pub opened : HasOpened seat setup r s
  pub row_is : row ≡ row_by phase (number_of r) op.Opens (reader_in s).own Done

-- What an opening makes of a reader, with its row, by its stream where it is open and by what it is opened with: one that is open is refused, and so
-- is one that can't be opened.
abbrev pub HasOpening : ReaderSeat → ℕ → LabReader → LabReader → Row → Option CaptureStream
    → Option Setup → Type 0
HasOpening spare phase r s row (Some stream) setup =
    (s ≡ r) × (row ≡ row_by phase (number_of r) op.Opens (Some stream) (Failed BadState))
HasOpening spare phase r s row None None =
    (s ≡ r) × (row ≡ row_by phase (number_of r) op.Opens None (Failed (Invalid why.Config)))
HasOpening spare phase r s row None (Some setup) = OpensAt spare setup phase r s row

-- the row of a reader that is closed
abbrev pub closed_row : ℕ → ℕ → Option ℕ → Row
closed_row phase number seen =
    record {
      phase = phase;
      actor = actor.Reader number;
      op = op.Closes;
      answer = Done;
      state = state.Open;
      seen = seen;
    }

-- what a closing makes of a reader, likewise, by the spare seat as it is then
abbrev pub HasClosing : ReaderSeat → ℕ → LabReader → LabReader → Row → Option CaptureStream
    → Type 0
HasClosing spare phase r s row None =
    (s ≡ r) × (row ≡ row_by phase (number_of r) op.Closes None (Failed BadState))
HasClosing spare phase r s row (Some stream) =
    ClosesInto spare r s × (row ≡ closed_row phase (number_of r) stream.seen)

-- one reader of the lab became another one; the spare seat is of the ring of which it was, and has got all that it had
pub record Exchanges (rs ss : LabReaders) (number : ℕ) (s : LabReader) : Type 0 where
  pub card : IsLaterSpare (spare_of rs) (spare_of ss)
  pub readers : readers_of ss ≡ slice_set (readers_of rs) number s

-- the readers of the lab are at a stage before an item, with so many phases done
pub record IsItemAt (session : Session) (capture : Option Sound) (stage : Stage)
    (phase : ℕ) (rs : LabReaders) : Type 0 where
  pub are : AreAt session capture stage.readers rs
  pub phases : phase ≡ stage.phases

module _ (session : Session) (capture : Option Sound) (stage : Stage) (number phase : ℕ) (rs ss : LabReaders) (at_item : IsItemAt session capture stage phase rs)
    (d s : LabReader) (row : Row) (inside : number < length (readers_of rs)) (exchanged : Exchanges rs ss number s) where
  abbrev before : LabReader
  before = slice_index_or (readers_of rs) number d

  abbrev actor-before : AtPort × Reader
  actor-before = reader_at session stage number

  is-at : IsReaderAt session capture (spare_of rs) session.ring number before actor-before
  is-at = subst (λ n. IsReaderAt session capture (spare_of rs) session.ring n (slice_index_or (readers_of rs) number d) (reader_at session stage number)) (omega arith)
      (AreEach-at (IsReaderAt session capture (spare_of rs) session.ring) 0 (readers_of rs) stage.readers at_item.are.each number d (no_reader session.ring) inside)

  -- by the spare seat as it is after the item
  is-later : IsReaderAt session capture (spare_of ss) session.ring number before actor-before
  is-later = IsReaderAt-later session capture (spare_of rs) (spare_of ss) number before actor-before exchanged.card is-at

  each-later : AreEach (IsReaderAt session capture (spare_of ss) session.ring) 0 (readers_of rs) stage.readers
  each-later =
      AreEach-map (IsReaderAt session capture (spare_of rs) session.ring) (IsReaderAt session capture (spare_of ss) session.ring) 0 (readers_of rs) stage.readers
      (λ n r x is. IsReaderAt-later session capture (spare_of rs) (spare_of ss) n r x exchanged.card is) at_item.are.each

  own-is : (reader_in before).own ≡ actor-before.1.own
  own-is = ap (λ (x : Reader). x.own) is-at.is.reader

  -- the readers after it, where the one of the number is another one of a run
  are-after : (xs : List (AtPort × Reader)) → AreEach (IsReaderAt session capture (spare_of ss) session.ring) 0 (slice_set (readers_of rs) number s) xs → AreAt session capture xs ss
  are-after xs each = record {
    card = record { ring = exchanged.card.same_ring.1 ∙ at_item.are.card.ring; first = at_item.are.card.first };
    each = subst (λ (readers : List LabReader). AreEach (IsReaderAt session capture (spare_of ss) session.ring) 0 readers xs) (sym exchanged.readers) each;
  }

  -- an item that was refused: there is a row more
  refused : (e : Row) → row ≡ e → s ≡ before → AreAfter session capture stage (with_row e stage) row ss
  refused e row_is same = record {
    are = are-after stage.readers (AreEach-set_left (IsReaderAt session capture (spare_of ss) session.ring) 0 (readers_of rs) stage.readers number s (no_reader session.ring) inside
        each-later (subst (λ (r : LabReader). IsReaderAt session capture (spare_of ss) session.ring (0 + number) r actor-before) (sym same)
        (subst (λ n. IsReaderAt session capture (spare_of ss) session.ring n before actor-before) (omega arith) is-later)));
    rows = ap (λ (r : Row). stage.rows ++ r ∷ []) (sym row_is);
    others = record { phases = refl; position = refl; gone = refl; lobby = refl; claims = refl; clients = refl };
    counted = λ base stops counted. counted;
  }

  -- one that was done: the reader is another one, whose gate stopped it as often
  exchange : (e : Row) (y : AtPort × Reader) → row ≡ e → y.0.by_gate ≡ actor-before.0.by_gate → IsReaderAt session capture (spare_of ss) session.ring number s y
      → AreAfter session capture stage (with_row e (with_reader number y stage)) row ss
  exchange e y row_is same is = record {
    are = are-after (slice_set stage.readers number y) (AreEach-set (IsReaderAt session capture (spare_of ss) session.ring) 0 (readers_of rs) stage.readers number s y inside
        each-later (subst (λ n. IsReaderAt session capture (spare_of ss) session.ring n s y) (omega arith) is));
    rows = ap (λ (r : Row). stage.rows ++ r ∷ []) (sym row_is);
    others = record { phases = refl; position = refl; gone = refl; lobby = refl; claims = refl; clients = refl };
    counted = λ base stops counted. AreCounted-set base stops 0 stage.readers number (no_reader session.ring) y same counted;
  }

  -- ---- opened

  opened-at : (setup : Setup) → slice_index_or session.readers number None ≡ Some setup → OpensAt (spare_of rs) setup phase before s row
      → IsReaderAt session capture (spare_of ss) session.ring number s (renewed_port session.ring actor-before.0, record actor-before.1 { own = Some (opened_reader session.ring setup) })
  opened-at setup setup_is opens =
      let geometry : seats.geometry_of opens.seat ≡ session.ring = opens.of_ring.1 ∙ at_item.are.card.ring in
      record {
        is = record {
          numbered = opens.opened.file.number ∙ is-at.is.numbered;
          reader = reader_in-opened opens.seat setup before s opens.opened
              ∙ (ap (λ (ring : Geometry). record (reader_in before) { own = Some (opened_reader ring setup) }) geometry
              ∙ ap (λ (x : Reader). record x { own = Some (opened_reader session.ring setup) }) is-at.is.reader);
          at = IsAt-opened (ring_of ss) session.ring actor-before.0.by_gate actor-before.0.at_gate opens.seat setup before s (opens.of_ring.0 ∙ sym exchanged.card.same_ring.0) geometry opens.opened;
          recorded = IsRecorded-opened capture session.ring (bindings_of (slice_index_or session.readers number None)) (seats.view_of (spare_of ss)).got opens.seat setup
              before s (sym (ap bindings_of setup_is)) opens.opened is-later.is.recorded;
        };
        goes = refl;
        rows = opens.opened.rows ∙ is-at.rows;
      }

  -- the row is that of the stage
  row-is : (asked : Op) (own : Option CaptureStream) (answer : Answer) → row ≡ row_by phase (number_of before) asked own answer → row ≡ row_by stage.phases number asked own answer
  row-is asked own answer is =
      is ∙ (ap (λ n. row_by n (number_of before) asked own answer) at_item.phases ∙ ap (λ n. row_by stage.phases n asked own answer) is-at.is.numbered)

  opening-by : (own : Option CaptureStream) (setup : Option Setup) → slice_index_or session.readers number None ≡ setup
      → HasOpening (spare_of rs) phase before s row own setup → AreAfter session capture stage (open_reader session stage number actor-before own) row ss
  opening-by (Some stream) setup setup_is has =
      refused (row_by stage.phases number op.Opens (Some stream) (Failed BadState)) (row-is op.Opens (Some stream) (Failed BadState) has.1) has.0
  opening-by None None setup_is has =
      subst (λ (own : Option Setup). AreAfter session capture stage (open_reader_with session stage number own actor-before) row ss) (sym setup_is)
      (refused (row_by stage.phases number op.Opens None (Failed (Invalid why.Config))) (row-is op.Opens None (Failed (Invalid why.Config)) has.1) has.0)
  opening-by None (Some setup) setup_is has =
      let after : AtPort × Reader = (renewed_port session.ring actor-before.0, record actor-before.1 { own = Some (opened_reader session.ring setup) }) in
      let is : IsReaderAt session capture (spare_of ss) session.ring number s after = opened-at setup setup_is has in
      subst (λ (own : Option Setup). AreAfter session capture stage (open_reader_with session stage number own actor-before) row ss) (sym setup_is)
      (exchange (row_by stage.phases number op.Opens (Some (opened_reader session.ring setup)) Done) after
      (row-is op.Opens (Some (opened_reader session.ring setup)) Done
      (has.row_is ∙ ap (λ (x : Reader). row_by phase (number_of before) op.Opens x.own Done) is.is.reader)) refl is)

  -- A reader that an item opens is the one that is opened in a run.
  pub AreAfter-opening : HasOpening (spare_of rs) phase before s row (reader_in before).own (slice_index_or session.readers number None)
      → AreAfter session capture stage (after_open session stage (actor.Reader number)) row ss
  AreAfter-opening has =
      opening-by actor-before.1.own (slice_index_or session.readers number None) refl
      (subst (λ (own : Option CaptureStream). HasOpening (spare_of rs) phase before s row own (slice_index_or session.readers number None)) own-is has)

  -- ---- closed

  closing-by : (own : Option CaptureStream) → HasClosing (spare_of ss) phase before s row own → AreAfter session capture stage (close_reader session stage number actor-before own) row ss
  closing-by None has =
      refused (row_by stage.phases number op.Closes None (Failed BadState)) (row-is op.Closes None (Failed BadState) has.1) has.0
  closing-by (Some stream) has =
      let row_is : row ≡ closed_row stage.phases number stream.seen =
      has.1 ∙ (ap (λ n. closed_row n (number_of before) stream.seen) at_item.phases ∙ ap (λ n. closed_row stage.phases n stream.seen) is-at.is.numbered) in
      exchange (closed_row stage.phases number stream.seen) (ended_reader session.ring actor-before) row_is refl
      (IsReaderAt-closed session capture (spare_of rs) (spare_of ss) exchanged.card number before s actor-before (record { is = is-at.is; rows = is-at.rows }) has.0)

  -- A reader that an item closes is the one that is closed in a run.
  pub AreAfter-closing : HasClosing (spare_of ss) phase before s row (reader_in before).own → AreAfter session capture stage (after_close session stage (actor.Reader number)) row ss
  AreAfter-closing has = closing-by actor-before.1.own (subst (λ (own : Option CaptureStream). HasClosing (spare_of ss) phase before s row own) own-is has)

-- an item that failed for memory leaves the readers as they are, and so the spare seat
pub AreAt-same : (session : Session) (capture : Option Sound) (xs : List (AtPort × Reader)) (rs ss : LabReaders) → IsLaterSpare (spare_of rs) (spare_of ss) → readers_of ss ≡ readers_of rs
    → AreAt session capture xs rs → AreAt session capture xs ss
AreAt-same session capture xs rs ss spare same are = record {
  card = record { ring = spare.same_ring.1 ∙ are.card.ring; first = are.card.first };
  each = subst (λ (readers : List LabReader). AreEach (IsReaderAt session capture (spare_of ss) session.ring) 0 readers xs) (sym same)
      (AreEach-map (IsReaderAt session capture (spare_of rs) session.ring) (IsReaderAt session capture (spare_of ss) session.ring) 0 (readers_of rs) xs
      (λ n r x is. IsReaderAt-later session capture (spare_of rs) (spare_of ss) n r x spare is) are.each);
}
