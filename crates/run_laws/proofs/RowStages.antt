-- Each stage of a run of a script has the rows of the lines that are done, in the order of a report, and each has a text.
use Rattle.run_laws.specs.Prelude.{ap, arith, length, List, Option, refl, subst, sym, ℕ, [], ◌++◌, ◌+◌, ◌<◌, ◌∙◌, ◌∷◌, ◌≡◌, ◌≤◌, nat_tests, append-nil}
use Rattle.run_laws.specs.Prelude.{append_assoc, length-map, map-append, All-append, All-cons, All-head, All-map, All-nil, All-tail, All, map, slice_index_or}
use Rattle.run_laws.specs.Prelude.{suc, Geometry, Sound, Item, Line, Op, Row, CardLine, ClientLine, ReaderLine, Script, IsActor, IsItem, IsPhase}
use Rattle.run_laws.specs.Prelude.{request_of_row, is_of_card, phases_of, played_by, item_requests, of_place, request_of, requests_from, IsRowOf, IsRunOf}
use Rattle.run_laws.specs.Prelude.{IsTailOf, Client, segments_of, client_kinds, ItemMay, ItemsMay, no_sound, PhaseMay, reader_kinds, reaped_client}
use Rattle.run_laws.specs.Prelude.{reaped_reader, rules_of, report_of, runs_of, with_numbers, AreClientOpenings, AreReaderOpenings, IsSessionOf, card_row}
use Rattle.run_laws.specs.Prelude.{card_rows, is_client, is_reader, ops_by, Reader, AtPort, IsReached, first_stage, no_client, no_reader, Session, Setup, Stage}
use Rattle.run_laws.specs.Prelude.{StagesAreReported}
use Rattle.run_laws.proofs.Borders.{AddsRow, AddsRows, IsClientReportable, IsReaderReportable, CanBeReported, close-adds, open-adds}
use Rattle.run_laws.proofs.ClientCalls.{IsReportable}
use Rattle.run_laws.proofs.Lines.{AreReported, client-reports, each-rows, reader-reports}
use Rattle.run_laws.proofs.Requests.{asks, card_rows-requests, from_place, in_order-parts, ops-requests}
use Rattle.lab_lines.specs.declared.line.Actor.TheVariants as actor
use Rattle.lab_lines.specs.declared.line.Item.TheVariants as item
use Rattle.lab_lines.specs.declared.line.Op.TheVariants as op
use Rattle.run_laws.proofs.ReaderCalls as reader_calls

-- ---- the beginning

pub client_openings-size : (card : CardLine) (lines : List ClientLine) (wavs : List Sound) (setups : List (Option Setup)) → AreClientOpenings card lines wavs setups
    → length setups ≡ length lines
client_openings-size card [] [] [] are = refl
client_openings-size card (line ∷ lines) (wav ∷ wavs) (setup ∷ setups) are = ap suc (client_openings-size card lines wavs setups are.1)
client_openings-size card lines wavs setups are = absurd are

pub reader_openings-size : (card : CardLine) (lines : List ReaderLine) (setups : List (Option Setup)) → AreReaderOpenings card lines setups → length setups ≡ length lines
reader_openings-size card [] [] are = refl
reader_openings-size card (line ∷ lines) (setup ∷ setups) are = ap suc (reader_openings-size card lines setups are.1)
reader_openings-size card lines setups are = absurd are

first-reportable : (script : Script) (wavs : List Sound) (session : Session) → IsSessionOf script wavs session → CanBeReported script (first_stage session)
first-reportable script wavs session is = record {
  all_clients = length-map session.clients (λ setup. no_client session.ring) ∙ client_openings-size script.card script.clients wavs session.clients is.clients;
  all_readers = length-map session.readers (λ setup. no_reader session.ring) ∙ reader_openings-size script.card script.readers session.readers is.readers;
  clients = All-map IsClientReportable (λ setup. no_client session.ring) session.clients (λ k d within. tt);
  readers = All-map IsReaderReportable (λ setup. no_reader session.ring) session.readers (λ k d within. tt);
  rows = All-nil (IsRowOf script);
}

-- ---- a phase

card_row-of : (script : Script) (phase position : ℕ) (asked : Op) → IsRowOf script (card_row phase position asked)
card_row-of script phase position op.Unplug = record { actor = tt; answer = tt; state = tt }
card_row-of script phase position other = record { actor = tt; answer = tt; state = tt }

card_rows-of : (script : Script) (phase position : ℕ) (ops : List Op) → All (IsRowOf script) (card_rows phase position ops)
card_rows-of script phase position [] = All-nil (IsRowOf script)
card_rows-of script phase position (asked ∷ more) =
    All-cons (IsRowOf script) _ _ (card_row-of script phase position asked) (card_rows-of script phase (position + played_by asked) more)

reaped_client-reportable : (ring : Geometry) (x : AtPort × Client) → IsClientReportable x → IsClientReportable (reaped_client ring x)
reaped_client-reportable ring x is = grind (arith, nat_tests)

reaped_reader-reportable : (ring : Geometry) (x : AtPort × Reader) → IsReaderReportable x → IsReaderReportable (reaped_reader ring x)
reaped_reader-reportable ring x is = grind (arith, nat_tests)

-- the requests of rows, after others, by those of three parts
four-parts : (phase : ℕ) (before cards clients readers : List Row) (x y z : List Line)
    → map request_of_row cards ≡ map (request_of phase) x → map request_of_row clients ≡ map (request_of phase) y → map request_of_row readers ≡ map (request_of phase) z
    → map request_of_row (before ++ cards ++ clients ++ readers) ≡ map request_of_row before ++ map (request_of phase) ((x ++ y) ++ z)
four-parts phase before cards clients readers x y z one two three = simp (map-append, one, two, three, append_assoc)

-- an item leaves such a stage, with the rows of its requests
abbrev AddsItem : Script → Stage → Item → Stage → Type 0
AddsItem script stage one after = AddsRows script stage (length (phases_of (one ∷ []))) (item_requests stage.phases one) after

phase-adds : (script : Script) (session : Session) (stage after : Stage) (lines : List Line) → length script.clients ≤ 64 → length script.readers ≤ 64
    → IsPhase (length script.clients) (length script.readers) lines → PhaseMay session stage lines after → CanBeReported script stage → AddsItem script stage (item.Phase lines) after
phase-adds script session stage after lines few few_readers is may reportable = subst (AddsItem script stage (item.Phase lines)) (sym may.is) (record {
  reportable = record {
    all_clients = length-map may.clients (reaped_client session.ring) ∙ of_clients.count ∙ reportable.all_clients;
    all_readers = length-map may.readers (reaped_reader session.ring) ∙ of_readers.count ∙ reportable.all_readers;
    clients = All-map IsClientReportable (reaped_client session.ring) may.clients (λ k d within. reaped_client-reportable session.ring _ (of_clients.keep k d within));
    readers = All-map IsReaderReportable (reaped_reader session.ring) may.readers (λ k d within. reaped_reader-reportable session.ring _ (of_readers.keep k d within));
    rows = All-append (IsRowOf script) (stage.rows ++ cards ++ may.client_rows) may.reader_rows
        (All-append (IsRowOf script) (stage.rows ++ cards) may.client_rows
        (All-append (IsRowOf script) stage.rows cards reportable.rows (card_rows-of script phase stage.position (ops_by is_of_card lines))) of_clients.rows_are)
        of_readers.rows_are;
  };
  phases_are = refl;
  asked =
      four-parts phase stage.rows cards may.client_rows may.reader_rows (of_place lines 0) (from_place lines 1 (length script.clients)) (from_place lines 65 (length script.readers))
      (card_rows-requests (length script.clients) (length script.readers) phase stage.position lines each few)
      (of_clients.asked ∙ ap (λ (n : ℕ). map (request_of phase) (from_place lines 1 n)) reportable.all_clients)
      (of_readers.asked ∙ ap (λ (n : ℕ). map (request_of phase) (from_place lines 65 n)) reportable.all_readers)
      ∙ ap (λ (ls : List Line). map request_of_row stage.rows ++ map (request_of phase) ls) (sym (in_order-parts (length script.clients) (length script.readers) lines each few few_readers));
})
  where
    phase : ℕ
    phase = stage.phases + 1

    cards : List Row
    cards = card_rows phase stage.position (ops_by is_of_card lines)

    each : All (λ (line : Line). IsActor (length script.clients) (length script.readers) line.actor) lines
    each k d within = (is.each k d within).actor

    of_clients : AreReported script phase (λ (client : Client). IsReportable client.own) lines 1 stage.clients may.clients may.client_rows
    of_clients = each-rows script phase actor.Client (λ (client : Client). IsReportable client.own) (client_kinds session stage) (λ n. ops_by (is_client n) lines) lines
        (length script.clients) 1 (λ n within. client-reports script phase (slice_index_or session.sounds n no_sound) n within)
        (λ n place within at. ops-requests (length script.clients) (length script.readers) phase (actor.Client n) place lines each few within at)
        (rules_of session stage lines) 0 1 stage.clients may.clients may.client_rows refl (let all = reportable.all_clients in omega (arith, all)) may.clients_may reportable.clients

    of_readers : AreReported script phase (λ (reader : Reader). reader_calls.IsReportable reader.own) lines 65 stage.readers may.readers may.reader_rows
    of_readers = each-rows script phase actor.Reader (λ (reader : Reader). reader_calls.IsReportable reader.own) (reader_kinds stage) (λ n. ops_by (is_reader n) lines) lines
        (length script.readers) 65 (λ n within. reader-reports script phase n within)
        (λ n place within at. ops-requests (length script.clients) (length script.readers) phase (actor.Reader n) place lines each few within at)
        (rules_of session stage lines) 0 65 stage.readers may.readers may.reader_rows refl (let all = reportable.all_readers in omega (arith, all)) may.readers_may reportable.readers

-- ---- a body

item-adds : (script : Script) (session : Session) (stage after : Stage) (one : Item) → length script.clients ≤ 64 → length script.readers ≤ 64
    → IsItem (length script.clients) (length script.readers) one → ItemMay session stage one after → CanBeReported script stage → AddsItem script stage one after
item-adds script session stage after (item.Opens number who) few few_readers within is reportable =
    subst (AddsRow script stage (asks stage.phases who op.Opens)) (sym is) (open-adds script session stage reportable who within)
item-adds script session stage after (item.Closes number who) few few_readers within is reportable =
    subst (AddsRow script stage (asks stage.phases who op.Closes)) (sym is) (close-adds script session stage reportable who within)
item-adds script session stage after (item.Phase lines) few few_readers within may reportable = phase-adds script session stage after lines few few_readers within may reportable

-- what items leave
record Leaves (script : Script) (stage : Stage) (items : List Item) (after : Stage) : Type 0 where
  pub reportable : CanBeReported script after
  pub asked : map request_of_row after.rows ≡ map request_of_row stage.rows ++ requests_from stage.phases items

items-leave : (script : Script) (session : Session) (stage after : Stage) (items : List Item)
    → length script.clients ≤ 64 → length script.readers ≤ 64 → All (IsItem (length script.clients) (length script.readers)) items
    → ItemsMay session stage items after → CanBeReported script stage → Leaves script stage items after
items-leave script session stage after [] few few_readers are may reportable = record {
  reportable = subst (CanBeReported script) (sym may) reportable;
  asked = ap (λ (s : Stage). map request_of_row s.rows) may ∙ sym (append-nil (map request_of_row stage.rows));
}
items-leave script session stage after (one ∷ items) few few_readers are (between, may, rest) reportable =
    let first = item-adds script session stage between one few few_readers (All-head (IsItem (length script.clients) (length script.readers)) one items are) may reportable in
    let more = items-leave script session between after items few few_readers (All-tail (IsItem (length script.clients) (length script.readers)) one items are) rest first.reportable in
    record {
      reportable = more.reportable;
      asked = more.asked ∙ (λ i. first.asked i ++ requests_from (first.phases_are i) items)
          ∙ append_assoc (map request_of_row stage.rows) (item_requests stage.phases one) (requests_from (stage.phases + length (phases_of (one ∷ []))) items);
    }

-- ---- segments and runs

numbered-below : {X Y : Type 0} (of : X → List Y) (first most : ℕ) (xs : List X) → first + length xs ≤ most
    → All (λ (pair : ℕ × Y). pair.0 < most) (with_numbers of first xs)
numbered-below {Y = Y} of first most [] within = All-nil (λ (pair : ℕ × Y). pair.0 < most)
numbered-below {Y = Y} of first most (x ∷ xs) within =
    All-append (λ (pair : ℕ × Y). pair.0 < most) (map (λ y. (first, y)) (of x)) (with_numbers of (first + 1) xs)
    (All-map (λ (pair : ℕ × Y). pair.0 < most) (λ y. (first, y)) (of x) (λ k d inside. omega (arith, within)))
    (numbered-below of (first + 1) most xs (omega (arith, within)))

tail-reportable : (script : Script) (session : Session) (stage : Stage) → CanBeReported script stage → IsTailOf script (report_of session stage)
tail-reportable script session stage reportable = record {
  segments = numbered-below (λ (client : AtPort × Client). segments_of client.1) 0 (length script.clients) stage.clients
      (let all = reportable.all_clients in omega (arith, all));
  runs = All-map (IsRunOf script) (λ (run : ℕ × (ℕ × ℕ)). (run.0, run.1.0, run.1.1)) _
      (numbered-below (λ (reader : AtPort × Reader). runs_of reader.1.frames) 0 (length script.readers) stage.readers
      (let all = reportable.all_readers in omega (arith, all)));
}

-- ---- a script

All-first : {X : Type 0} (P : X → Type 0) (xs ys : List X) → All P (xs ++ ys) → All P xs
All-first P [] ys all = All-nil P
All-first P (x ∷ xs) ys all = All-cons P x xs (All-head P x (xs ++ ys) all) (All-first P xs ys (All-tail P x (xs ++ ys) all))

reached-leaves : (script : Script) (wavs : List Sound) (session : Session) (done others : List Item) (stage : Stage) → IsReached script wavs session done others stage
    → Leaves script (first_stage session) done stage
reached-leaves script wavs session done others stage is =
    items-leave script session (first_stage session) stage done is.script_is.clients is.script_is.readers
    (All-first (IsItem (length script.clients) (length script.readers)) done others
    (subst (λ (items : List Item). All (IsItem (length script.clients) (length script.readers)) items) is.body is.script_is.body))
    is.may (first-reportable script wavs session is.session_is)

pub reached-reportable : (script : Script) (wavs : List Sound) (session : Session) (done others : List Item) (stage : Stage) → IsReached script wavs session done others stage
    → CanBeReported script stage
reached-reportable script wavs session done others stage is = (reached-leaves script wavs session done others stage is).reportable

pub stages-are_reported : StagesAreReported
stages-are_reported script wavs session done others stage is =
    let left = reached-leaves script wavs session done others stage is in
    record { lines = left.asked; rows = left.reportable.rows; tail = tail-reportable script session stage left.reportable }
