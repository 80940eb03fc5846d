-- All readers of the lab in a phase: what its steps made of them is what a run of the script may have of them.
use Rattle.std.specs.Prelude.{◌≡◌, ℕ, ◌+◌, ◌<◌, true, List, [], ◌∷◌, ◌++◌, length, Option, None, slice_index_or}
use Rattle.std.specs.List.{flat_map}
use Rattle.std.proofs.Common.{refl, sym, ap, subst, ◌∙◌, arith}
use Rattle.atomic_table.specs.Seated.{TableId}
use Rattle.snd_base.specs.declared.geometry.Geometry.{Geometry}
use Rattle.mix_core.specs.declared.gate.Gate as gate
use Rattle.snoop_table.specs.declared.seats.reader.ReaderSeat.{ReaderSeat}
use Rattle.snoop_table.specs.Readers as seats
use Rattle.wav_io.specs.Sound.{Sound}
use Rattle.card_sim.specs.declared.card.Card.{Card}
use Rattle.card_sim.specs.Runs.{records_of}
use Rattle.lab_lines.specs.declared.line.Line.{Line}
use Rattle.lab_lines.specs.declared.row.Row.{Row}
use Rattle.lab_run.specs.ActorPart.{PartsAreRuns}
use Rattle.lab_run.specs.Items.{reader_kinds, rules_of}
use Rattle.lab_run.specs.LabRun.{bindings_of}
use Rattle.lab_run.specs.Lines.{EachMay, LinesMay}
use Rattle.lab_run.specs.Phases.{is_reader, ops_by}
use Rattle.lab_run.specs.Reader.{Reader, reader_kind}
use Rattle.lab_run.specs.Rules.{AtPort, Rules}
use Rattle.lab_run.specs.Stage.{Session, Stage}
use Rattle.lab_actors.specs.Actors.{ActorMay, ActorsMay, actors-may}
use Rattle.lab_actors.specs.Gates.{AreCounted, HasAskedMore, HaveAskedMore, stops_at}
use Rattle.lab_actors.specs.Rows.{EachMay-rows, lines_from}
use Rattle.lab_actors.specs.Walks.{AreEach, AreEach-joined, AreEach-map, AreJoined}
use Rattle.lab_card.specs.declared.card.CardActor.{CardActor}
use Rattle.lab_card.specs.Findings.{CardPhase, records-between, rules_between}
use Rattle.lab_card.specs.MeetLaws.{CardPhase-between, rules_between-same}
use Rattle.lab_card.specs.Stages.{CardPhase-rules, IsCardAt}
use Rattle.lab_readers.specs.declared.reader.LabReader.{LabReader}
use Rattle.lab_readers.specs.OneReaderLaws.{IsOver, IsOver-moved, IsOver-same}
use Rattle.lab_readers.specs.OneOpeningLaws.{IsAt-same, IsRecorded-same, reader_in-same}
use Rattle.lab_readers.specs.OnePhase.{ReaderMay, Steps, reader-may}
use Rattle.lab_readers.specs.OneReader.{number_of, ops_of, reader_in, rows_of}
use Rattle.lab_readers.specs.Recorded.{IsCapturedUpTo, IsRecorded}
use Rattle.lab_readers.specs.RecordedLaws.{IsCapturedUpTo-phase, IsCapturedUpTo-same, IsRecorded-phase}
use Rattle.lab_readers.specs.declared.readers.LabReaders.{LabReaders}
use Rattle.lab_readers.specs.AtStage.{AreAt, AreDone, IsReaderAt, IsReaderDone, IsReaderIn, readers_of, ring_of, spare_of}
use Rattle.lab_readers.specs.Counted.{AreCounted-each, AreEach-counted, IsCounted}
use Rattle.lab_readers.specs.Kept.{IsReaderIn-same}
use Rattle.lab_actors.specs.EachLaws.{AreEach-moved}
use Rattle.lab_readers.specs.Steps.{EachReader, HasGivenRows, HasTakenRoom, IsHeardBy, IsInformedBy, RunsAt}

-- a reader's part in a phase is what the phase allows to it (lab_run: `parts_are_runs`)
abbrev pub ReaderPartsAreRuns : Type 0
ReaderPartsAreRuns =
    (phase number : ℕ) (rules : Rules) → PartsAreRuns (reader_kind phase number) rules

-- ---- the card

-- it is over its snoop ring after it
pub IsOver-phase : (ring : TableId) (geometry : Geometry) (capture : Option Sound) (phase : ℕ) (c : Card) (a b : CardActor) (d : Card) (lines : List Line)
    → CardPhase capture phase c a b d lines → IsOver ring geometry c → IsOver ring geometry d
IsOver-phase ring geometry capture phase c a b d lines is over =
    IsOver-same ring geometry b.card d is.after (IsOver-moved ring geometry a.card b.card _ _ _ _ _ is.part.did.moves (IsOver-same ring geometry c a.card is.before over))

-- ---- the readers

-- The steps of all readers in a phase: they took the room of their lines, met notes of the card, did their lines with their gates, and the card met
-- their notes.
pub record ReadersSteps {T : Type 0} (G : gate.Ghosts T) (gates after : List T) (c d : Card)
    (phase : ℕ) (lines : List Line) (before heard : LabReaders) : Type 0 where
  pub roomy : LabReaders
  pub informed : LabReaders
  pub run : LabReaders
  pub take_room : EachReader (HasTakenRoom lines) before roomy
  pub inform : EachReader (IsInformedBy c) roomy informed
  pub run_lines : EachReader (RunsAt G gates after phase lines) informed run
  pub hear : EachReader (IsHeardBy d) run heard

-- Readers may do their lines of a phase so, with these rows, and are so afterwards; their gates had stopped them so often before the lab began, and
-- have stopped them so often after the phase; and they asked these gates.
pub record ReadersMay (session : Session) (stage : Stage) (capture : Option Sound)
    (lines : List Line) (base after : ℕ → ℕ)
    (Asked : List (AtPort × Reader) → List (AtPort × Reader) → Type 0)
    (xs : List (AtPort × Reader)) (rows : List Row) (rs : LabReaders) : Type 0 where
  pub next : List (AtPort × Reader)
  pub may : EachMay (reader_kinds stage) (rules_of session stage lines)
      (λ n. ops_by (is_reader n) lines) 0 xs next rows
  pub done : AreDone session capture next rs
  pub counted : AreCounted base after 0 next
  pub asked : Asked xs next

-- what a phase does to one reader after the other, up to the meet after its lines
abbrev StepsOf : {T : Type 0} → gate.Ghosts T → List T → List T → Card → Card → ℕ → List Line
    → ℕ → LabReader → LabReader → Type 0
StepsOf G gates after c d phase lines =
    AreJoined (AreJoined (AreJoined (HasTakenRoom lines) (IsInformedBy c))
    (RunsAt G gates after phase lines)) (IsHeardBy d)

module _ (session : Session) (stage : Stage) (capture : Option Sound) (spare : ReaderSeat) (lines : List Line) (base : ℕ → ℕ) {T : Type 0} (G : gate.Ghosts T) (gates after : List T) (c : Card) (a b : CardActor) (d : Card)
    (is : CardPhase capture (stage.phases + 1) c a b d lines) (card : IsCardAt session stage c) (over : IsOver (seats.ring_of spare) session.ring c) (up_to : IsCapturedUpTo capture c)
    (runs : ReaderPartsAreRuns) where
  -- a reader's part between its meets with the card, which stores what it captures
  module _ (records : records_of c ≡ true) (number : ℕ) (r s t u v : LabReader) (took : HasTakenRoom lines number r s) (informed : IsInformedBy c number s t)
      (ran : RunsAt G gates after (stage.phases + 1) lines number t u) (heard : IsHeardBy d number u v) (x : AtPort × Reader)
      (at : IsReaderAt session capture spare session.ring number r x) (counted : IsCounted base (stops_at G.stops gates) number x) where
    own-phase : CardPhase capture (stage.phases + 1) informed.card a b heard.card lines
    own-phase = CardPhase-between capture (stage.phases + 1) c a b d informed.card heard.card lines informed.same heard.same is

    own-over : IsOver (seats.ring_of spare) session.ring informed.card
    own-over = IsOver-same (seats.ring_of spare) session.ring c informed.card informed.same over

    over-after : IsOver (seats.ring_of spare) session.ring heard.card
    over-after = IsOver-phase (seats.ring_of spare) session.ring capture (stage.phases + 1) informed.card a b heard.card lines own-phase own-over

    own-records : records_of informed.card ≡ true
    own-records = informed.same.records ∙ records

    records-after : records_of heard.card ≡ true
    records-after = records-between informed.card a b heard.card lines own-phase ∙ own-records

    own-steps : Steps informed.card heard.card (stage.phases + 1) (stops_at G.stops gates number) (stops_at G.stops after number) ran.asks lines s t u v
    own-steps = record { informed = informed.informed; ran = ran.then; heard = heard.heard }

    own-rules : rules_between informed.card b.card lines ≡ rules_of session stage lines
    own-rules =
        rules_between-same c informed.card b.card lines informed.same ∙ CardPhase-rules session stage capture (stage.phases + 1) c a b d lines is card

    numbered : number_of s ≡ number
    numbered = took.kept.same.file.number ∙ at.is.numbered

    reader-is : reader_in s ≡ x.1
    reader-is = reader_in-same r s took.kept.same ∙ at.is.reader

    own-may : ReaderMay (seats.ring_of spare) session.ring (rules_between informed.card b.card lines) (stage.phases + 1) (base number) (stops_at G.stops after number) ran.asks lines x.0 s v
    own-may =
        reader-may (seats.ring_of spare) session.ring informed.card heard.card own-over (stage.phases + 1) (base number) (stops_at G.stops gates number) (stops_at G.stops after number) ran.asks x.0 counted a b lines own-phase own-records s t u v
        (runs (stage.phases + 1) (number_of s) (rules_between informed.card b.card lines)) (IsAt-same (seats.ring_of spare) session.ring r s x.0 took.kept.same at.is.at) own-steps

    rows-are : own-may.rows ≡ rows_of v
    rows-are = sym (own-may.rows_are ∙ ap (λ (rows : List Row). rows ++ own-may.rows) (took.kept.rows ∙ at.rows))

    lines-may : LinesMay (reader_kind (stage.phases + 1) number) (rules_of session stage lines) x (ops_by (is_reader number) lines) (own-may.end, reader_in v) (rows_of v)
    lines-may =
        subst (λ (rows : List Row). LinesMay (reader_kind (stage.phases + 1) number) (rules_of session stage lines) x (ops_by (is_reader number) lines) (own-may.end, reader_in v) rows)
        rows-are
        (subst (λ (rules : Rules). LinesMay (reader_kind (stage.phases + 1) number) rules x (ops_by (is_reader number) lines) (own-may.end, reader_in v) own-may.rows) own-rules
        (subst (λ (n : ℕ). LinesMay (reader_kind (stage.phases + 1) n) (rules_between informed.card b.card lines) x (ops_by (is_reader n) lines) (own-may.end, reader_in v) own-may.rows)
        numbered
        (subst (λ (y : Reader). LinesMay (reader_kind (stage.phases + 1) (number_of s)) (rules_between informed.card b.card lines) (x.0, y) (ops_of s lines) (own-may.end, reader_in v)
        own-may.rows) reader-is own-may.may)))

    recorded : IsRecorded capture session.ring (bindings_of (slice_index_or session.readers number None)) (seats.view_of spare).got v
    recorded =
        let bindings = bindings_of (slice_index_or session.readers number None) in
        IsRecorded-phase capture (seats.ring_of spare) session.ring heard.card over-after records-after
        (IsCapturedUpTo-phase capture informed.card a b heard.card lines own-phase (IsCapturedUpTo-same capture c informed.card informed.same up_to)) bindings (seats.view_of spare).got informed.card
        (stage.phases + 1) (stops_at G.stops gates number) (stops_at G.stops after number) ran.asks lines s t u v (IsRecorded-same capture session.ring bindings (seats.view_of spare).got r s took.kept.same at.is.recorded) own-steps

    reader-after : ActorMay (reader_kinds stage) (rules_of session stage lines) (λ n. ops_by (is_reader n) lines)
        (λ n w y. IsReaderIn session capture spare session.ring n w y × IsCounted base (stops_at G.stops after) n y) (HasAskedMore G.asked gates after) rows_of number x v
    reader-after = record {
      next = (own-may.end, reader_in v);
      may = lines-may;
      is = (
        record { numbered = own-may.number ∙ numbered; reader = refl; at = own-may.is; recorded = recorded },
        own-may.gate,
      );
      asked = record { asks = ran.asks; asked_it = ran.asked; more = own-may.gate_asks };
    }

  -- the parts of all readers
  parts-may : records_of c ≡ true → (xs : List (AtPort × Reader)) (rs ss : List LabReader) → AreEach (IsReaderAt session capture spare session.ring) 0 rs xs → AreCounted base (stops_at G.stops gates) 0 xs
      → AreEach (StepsOf G gates after c d (stage.phases + 1) lines) 0 rs ss
      → ActorsMay (reader_kinds stage) (rules_of session stage lines) (λ n. ops_by (is_reader n) lines)
      (λ n w y. IsReaderIn session capture spare session.ring n w y × IsCounted base (stops_at G.stops after) n y) (HasAskedMore G.asked gates after) rows_of 0 xs ss
  parts-may records xs rs ss are counted steps =
      actors-may (reader_kinds stage) (rules_of session stage lines) (λ n. ops_by (is_reader n) lines)
      (λ n r x. IsReaderAt session capture spare session.ring n r x × IsCounted base (stops_at G.stops gates) n x)
      (λ n w y. IsReaderIn session capture spare session.ring n w y × IsCounted base (stops_at G.stops after) n y) (HasAskedMore G.asked gates after) rows_of 0 rs ss xs
      (AreEach-counted (IsReaderAt session capture spare session.ring) base (stops_at G.stops gates) 0 rs xs are counted)
      (AreEach-map (StepsOf G gates after c d (stage.phases + 1) lines)
      (λ n r v. (x : AtPort × Reader) → IsReaderAt session capture spare session.ring n r x × IsCounted base (stops_at G.stops gates) n x
      → ActorMay (reader_kinds stage) (rules_of session stage lines) (λ m. ops_by (is_reader m) lines)
      (λ m w y. IsReaderIn session capture spare session.ring m w y × IsCounted base (stops_at G.stops after) m y) (HasAskedMore G.asked gates after) rows_of n x v) 0 rs ss
      (λ n r v all x now. reader-after records n r all.first.first.between all.first.between all.between v all.first.first.first all.first.first.then all.first.then all.then x now.0 now.1) steps)

  -- where there is a reader the card stores what it captures
  parts-any : (xs : List (AtPort × Reader)) (rs ss : List LabReader) → (0 < length xs → records_of c ≡ true) → AreEach (IsReaderAt session capture spare session.ring) 0 rs xs
      → AreCounted base (stops_at G.stops gates) 0 xs → AreEach (StepsOf G gates after c d (stage.phases + 1) lines) 0 rs ss
      → ActorsMay (reader_kinds stage) (rules_of session stage lines) (λ n. ops_by (is_reader n) lines)
      (λ n w y. IsReaderIn session capture spare session.ring n w y × IsCounted base (stops_at G.stops after) n y) (HasAskedMore G.asked gates after) rows_of 0 xs ss
  parts-any [] [] [] records are counted steps = record { next = []; rows = []; may = (refl, refl); are = tt; asked = tt; rows_are = refl }
  parts-any (x ∷ xs) rs ss records are counted steps = parts-may (records (omega arith)) (x ∷ xs) rs ss are counted steps
  parts-any [] (r ∷ rs) ss records are counted steps = absurd are
  parts-any [] [] (s ∷ ss) records are counted steps = absurd steps

-- rows that are taken leave a reader as it is
IsReaderDone-taken : (session : Session) (capture : Option Sound) (spare : ReaderSeat) (number : ℕ) (r s : LabReader) (x : AtPort × Reader)
    → IsReaderIn session capture spare session.ring number r x → HasGivenRows number r s → IsReaderDone session capture spare session.ring number s x
IsReaderDone-taken session capture spare number r s x is taken = record {
  is = IsReaderIn-same session capture spare number r s x taken.same is;
  rows = taken.rows;
}

-- what the steps make of one reader after the other
steps-through : {T : Type 0} (G : gate.Ghosts T) (gates after : List T) (c d : Card) (phase : ℕ) (lines : List Line) (before heard : LabReaders)
    → ReadersSteps G gates after c d phase lines before heard
    → AreEach (StepsOf G gates after c d phase lines) 0 (readers_of before) (readers_of heard)
steps-through G gates after c d phase lines before heard steps =
    let first : List LabReader = readers_of before in
    let inform : AreEach (AreJoined (HasTakenRoom lines) (IsInformedBy c)) 0 first (readers_of steps.informed) =
    AreEach-joined (HasTakenRoom lines) (IsInformedBy c) 0 first (readers_of steps.roomy) (readers_of steps.informed) steps.take_room.each steps.inform.each in
    let run : AreEach (AreJoined (AreJoined (HasTakenRoom lines) (IsInformedBy c)) (RunsAt G gates after phase lines)) 0 first (readers_of steps.run) =
    AreEach-joined (AreJoined (HasTakenRoom lines) (IsInformedBy c)) (RunsAt G gates after phase lines) 0 first (readers_of steps.informed) (readers_of steps.run) inform
    steps.run_lines.each in
    AreEach-joined (AreJoined (AreJoined (HasTakenRoom lines) (IsInformedBy c)) (RunsAt G gates after phase lines)) (IsHeardBy d) 0 first (readers_of steps.run)
    (readers_of heard) run steps.hear.each

-- Whichever meets with the card the readers had in a phase: the card gave notes and met some from c on, did its lines, and gave notes and met some up to d
-- and beyond. Where there is a reader it stores what it captures.
module _ (session : Session) (stage : Stage) (capture : Option Sound) (lines : List Line) (base : ℕ → ℕ) {T : Type 0} (G : gate.Ghosts T) (gates after : List T) (c : Card) (a b : CardActor) (d : Card)
    (is : CardPhase capture (stage.phases + 1) c a b d lines) (card : IsCardAt session stage c) (up_to : IsCapturedUpTo capture c) (runs : ReaderPartsAreRuns)
    (xs : List (AtPort × Reader)) (rs heard : LabReaders) (records : 0 < length xs → records_of c ≡ true) (over : IsOver (ring_of rs) session.ring c)
    (are : AreAt session capture xs rs) (counted : AreCounted base (stops_at G.stops gates) 0 xs) (steps : ReadersSteps G gates after c d (stage.phases + 1) lines rs heard) where
  abbrev IsNext : ℕ → LabReader → AtPort × Reader → Type 0
  IsNext n w y = IsReaderIn session capture (spare_of rs) session.ring n w y × IsCounted base (stops_at G.stops after) n y

  parts : ActorsMay (reader_kinds stage) (rules_of session stage lines) (λ n. ops_by (is_reader n) lines) IsNext (HasAskedMore G.asked gates after) rows_of 0 xs (readers_of heard)
  parts =
      parts-any session stage capture (spare_of rs) lines base G gates after c a b d is card over up_to runs xs (readers_of rs) (readers_of heard) records are.each counted
      (steps-through G gates after c d (stage.phases + 1) lines rs heard steps)

  rows-may : EachMay (reader_kinds stage) (rules_of session stage lines) (λ n. ops_by (is_reader n) lines) 0 xs parts.next (flat_map rows_of (readers_of heard))
  rows-may =
      subst (λ (own : List Row). EachMay (reader_kinds stage) (rules_of session stage lines) (λ n. ops_by (is_reader n) lines) 0 xs parts.next own) parts.rows_are parts.may

  -- The readers have a row for each of their lines then.
  pub length-reader_rows : length (flat_map rows_of (readers_of heard)) ≡ lines_from (λ n. ops_by (is_reader n) lines) 0 (length xs)
  length-reader_rows =
      EachMay-rows (reader_kinds stage) (rules_of session stage lines) (λ n. ops_by (is_reader n) lines) 0 xs parts.next (flat_map rows_of (readers_of heard)) rows-may

  -- Once their rows were taken, what the steps make of all readers is what the phase may make of the readers of a run.
  pub readers-phase : (ss : LabReaders) → EachReader HasGivenRows heard ss
      → ReadersMay session stage capture lines base (stops_at G.stops after) (HaveAskedMore G.asked gates after) xs (flat_map rows_of (readers_of heard)) ss
  readers-phase ss take_rows =
      let seat : spare_of ss ≡ spare_of rs =
      take_rows.spare ∙ (steps.hear.spare ∙ (steps.run_lines.spare ∙ (steps.inform.spare ∙ steps.take_room.spare))) in
      let done : AreEach (IsReaderDone session capture (spare_of rs) session.ring) 0 (readers_of ss) parts.next =
      AreEach-moved IsNext HasGivenRows (IsReaderDone session capture (spare_of rs) session.ring) 0 (readers_of heard) (readers_of ss) parts.next
      (λ n r s x now taken. IsReaderDone-taken session capture (spare_of rs) n r s x now.0 taken) parts.are take_rows.each in
      record {
        next = parts.next;
        may = rows-may;
        done = record {
          card = record { ring = ap seats.geometry_of seat ∙ are.card.ring; first = are.card.first };
          each = subst (λ (own : ReaderSeat). AreEach (IsReaderDone session capture own session.ring) 0 (readers_of ss) parts.next) (sym seat) done;
        };
        counted = AreCounted-each IsNext base (stops_at G.stops after) 0 (readers_of heard) parts.next (λ n w y now. now.1) parts.are;
        asked = parts.asked;
      }
