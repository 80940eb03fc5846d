-- A second run that each script has: the one in which each load gives the position at the beginning of its phase, and a frame is in time
-- exactly where it isn't below that. In a phase without lines of the card it does what the first run does.
use Rattle.std.proofs.lemmas.Bool.Decides.{nat_tests}
use Rattle.std.proofs.Common.{ℕ, ◌≤◌, ◌+◌, refl, arith, Option, Some, None}
use Rattle.std.specs.Prelude.{List, [], ◌∷◌, Contains}
use Rattle.mix_core.specs.declared.port.Ended.{Ended}
use Rattle.mix_core.specs.declared.port.Entry.{Entry}
use Rattle.mix_core.specs.declared.port.Position.{Position}
use Rattle.snoop_core.specs.declared.port.Got.{Got}
use Rattle.wav_io.specs.Sound.{Sound}
use Rattle.course.specs.Course.{Course, ends, gets, lays, loads}
use Rattle.lab_lines.specs.declared.line.Item.{Item}
use Rattle.lab_lines.specs.declared.line.Item.TheVariants as item
use Rattle.lab_lines.specs.declared.line.Line.{Line}
use Rattle.lab_lines.specs.declared.line.Op.{Op}
use Rattle.lab_lines.specs.declared.row.Row.{Row}
use Rattle.std.specs.List.{fold}
use Rattle.lab_run.specs.Items.{ItemMay, PhaseMay, client_kinds, phase_end, reader_kinds, rules_of}
use Rattle.lab_run.specs.LabRun.{LabRun, Outcome, outcome_of}
use Rattle.lab_run.specs.Lines.{EachMay, Kind, LinesMay, each_text}
use Rattle.lab_run.specs.Phases.{is_client, is_reader, ops_by, phase_positions}
use Rattle.lab_run.specs.Rules.{AtPort, CardEnd, May, MayGet, MayLay, MayLoad, Rules}
use Rattle.lab_run.specs.Stage.{Session, Stage, after_close, after_open, first_stage}
use Rattle.lab_run.proofs.ActorKinds.{client-IsKind, reader-IsKind}
use Rattle.lab_run.proofs.EachLaws.{each-exist}
use Rattle.lab_run.proofs.RunExists.{GoesOn, IsBehind, Within, behind-more, close-behind, items-go, open-behind, phase-goes, run-goes}

-- the card at the beginning of a phase
abbrev pub card_beginning : Session → Stage → CardEnd
card_beginning session stage =
    record { ring = session.ring; position = stage.position; gone = stage.gone }

-- a phase, a body and a script that go so
abbrev pub phase_by_beginning : Session → Stage → List Line → Stage
phase_by_beginning session stage lines = phase_end session stage lines
    (each_text (client_kinds session stage) (card_beginning session stage)
    (λ n. ops_by (is_client n) lines) 0 stage.clients)
    (each_text (reader_kinds stage) (card_beginning session stage)
    (λ n. ops_by (is_reader n) lines) 0 stage.readers)

abbrev pub item_by_beginning : Session → Stage → Item → Stage
item_by_beginning session stage (item.Opens number who) = after_open session stage who
item_by_beginning session stage (item.Closes number who) = after_close session stage who
item_by_beginning session stage (item.Phase lines) = phase_by_beginning session stage lines

abbrev pub lab_by_beginning : Session → Option Sound → List Item → Outcome
lab_by_beginning session capture body =
    outcome_of session capture (fold (item_by_beginning session) (first_stage session) body)

-- ---- what is allowed where the card's position is an earlier one is allowed

abbrev rules_at : Rules → ℕ → Rules
rules_at rules p = record rules { at = record rules.at { position = p } }

load-later : (rules : Rules) (p : ℕ) (a m : AtPort) (load : Option Position) → MayLoad (rules_at rules p) a load m → MayLoad rules a load m
load-later rules p a m None step = step
load-later rules p a m (Some position) step = step

lay-later : (rules : Rules) (p : ℕ) → p ≤ rules.at.position → (a m : AtPort) (e : Entry) (ended : Ended) → MayLay (rules_at rules p) a e ended m → MayLay rules a e ended m
lay-later rules p low a m e ended step = grind (arith, nat_tests)

get-later : (rules : Rules) (p : ℕ) → p ≤ rules.at.position → (a m : AtPort) (frame : ℕ) (found : Got) → MayGet (rules_at rules p) a frame found m → MayGet rules a frame found m
get-later rules p low a m frame found step = grind (arith, nat_tests)

May-later : {X : Type 0} (rules : Rules) (p : ℕ) → p ≤ rules.at.position → (a b : AtPort) (course : Course X) (x : X) → May (rules_at rules p) a course b x → May rules a course b x
May-later rules p low a b (ends y) x may = may
May-later rules p low a b (loads next) x (load, m, step, rest) = (load, m, load-later rules p a m load step, May-later rules p low m b (next load) x rest)
May-later rules p low a b (lays e next) x (ended, m, step, rest) = (ended, m, lay-later rules p low a m e ended step, May-later rules p low m b (next ended) x rest)
May-later rules p low a b (gets frame next) x (found, m, step, rest) = (found, m, get-later rules p low a m frame found step, May-later rules p low m b (next found) x rest)

lines-later : {S : Type 0} (kind : Kind S) (rules : Rules) (p : ℕ) → p ≤ rules.at.position → (before after : AtPort × S) (ops : List Op) (rows : List Row)
    → LinesMay kind (rules_at rules p) before ops after rows → LinesMay kind rules before ops after rows
lines-later kind rules p low before after [] rows may = may
lines-later kind rules p low (a, s) after (asked ∷ more) rows (between, answer, others, step, rest, all) = (
  between,
  answer,
  others,
  May-later rules p low (kind.begins s asked a) between.0 (kind.course (kind.begins s asked a) s asked) (between.1, answer) step,
  lines-later kind rules p low between after more others rest,
  all,
)

each-later : {S : Type 0} (kind : ℕ → Kind S) (rules : Rules) (p : ℕ) → p ≤ rules.at.position → (ops : ℕ → List Op) (number : ℕ) (actors after : List (AtPort × S)) (rows : List Row)
    → EachMay kind (rules_at rules p) ops number actors after rows → EachMay kind rules ops number actors after rows
each-later kind rules p low ops number [] after rows may = may
each-later kind rules p low ops number (actor ∷ actors) after rows (own, others, own_rows, other_rows, may, rest, after_is, rows_are) = (
  own,
  others,
  own_rows,
  other_rows,
  lines-later (kind number) rules p low actor own (ops number) own_rows may,
  each-later kind rules p low ops (number + 1) actors others other_rows rest,
  after_is,
  rows_are,
)

-- ---- so it is a run

module _ (Q R : ℕ → ℕ → Type 0) (none : (n : ℕ) → Q n 0) (reader_none : (n : ℕ) → R n 0) (session : Session) where
  phase-exists : (stage : Stage) (lines : List Line) → IsBehind Q R stage → GoesOn Q R (PhaseMay session stage lines) (phase_by_beginning session stage lines)
  phase-exists stage lines behind =
      let rules : Rules = rules_of session stage lines in
      let low : stage.position ≤ rules.at.position = omega arith in
      let there : Contains (phase_positions session.card.period stage.position lines) stage.position = (0, omega arith, refl) in
      let clients = each-exist Q (client_kinds session stage) (λ n. client-IsKind _ _ n) (rules_at rules stage.position) there (λ n. ops_by (is_client n) lines) 0 stage.clients behind.clients in
      let readers = each-exist R (reader_kinds stage) (λ n. reader-IsKind _ n) (rules_at rules stage.position) there (λ n. ops_by (is_reader n) lines) 0 stage.readers behind.readers in
      phase-goes Q R none reader_none session stage lines _ _
      (each-later (client_kinds session stage) rules stage.position low (λ n. ops_by (is_client n) lines) 0 stage.clients _ _ clients.may)
      (each-later (reader_kinds stage) rules stage.position low (λ n. ops_by (is_reader n) lines) 0 stage.readers _ _ readers.may)
      (behind-more Q stage.position rules.at.position 0 _ low clients.seen) (behind-more R stage.position rules.at.position 0 _ low readers.seen)

  item-exists : (stage : Stage) (one : Item) → IsBehind Q R stage → GoesOn Q R (ItemMay session stage one) (item_by_beginning session stage one)
  item-exists stage (item.Opens number who) behind = record { may = refl; behind = open-behind Q R none reader_none session stage who behind }
  item-exists stage (item.Closes number who) behind = record { may = refl; behind = close-behind Q R none reader_none session stage who behind }
  item-exists stage (item.Phase lines) behind = phase-exists stage lines behind

pub beginning-LabRun : (session : Session) (capture : Option Sound) (body : List Item) (client_stops reader_stops : ℕ → ℕ)
    → LabRun session capture body client_stops reader_stops (lab_by_beginning session capture body)
beginning-LabRun session capture body client_stops reader_stops = run-goes session capture body client_stops reader_stops _
    (λ none reader_none. items-go (Within client_stops) (Within reader_stops) none reader_none session (item_by_beginning session)
    (item-exists (Within client_stops) (Within reader_stops) none reader_none session) (first_stage session) body)
