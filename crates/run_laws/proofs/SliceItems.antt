-- The frames of a reader over a whole body: in each of its stretches they are one slice.
use Rattle.run_laws.specs.Prelude.{ap, arith, length, List, None, Option, refl, Some, subst, sym, ℕ, [], ◌++◌, ◌+◌, ◌<◌, ◌∙◌, ◌∷◌, ◌≡◌, get_or-map, nat_tests}
use Rattle.run_laws.specs.Prelude.{append-nil, get_or-set_same, length-map, range_with_len, Bool, false, nat_eq, slice_index_or, true, Geometry, CaptureStream}
use Rattle.run_laws.specs.Prelude.{Sound, Actor, Item, Op, Row, is_of_card, client_kinds, ItemMay, ItemsMay, reader_kinds, reaped_reader, rules_of, Outcome}
use Rattle.run_laws.specs.Prelude.{runs_of, with_numbers, Alone, rows_by, card_rows, is_client, is_reader, ops_by, Reader, AtPort, Rules, after_close}
use Rattle.run_laws.specs.Prelude.{after_open, close_reader, first_stage, no_reader, open_reader, open_reader_with, reader_at, Session, Setup, Stage, AreSlices}
use Rattle.run_laws.specs.Prelude.{ends_by_row, goes_on_after, got_by, ReadersReadInSlices, ReadsInSlices, close-by, open-by, recorded_from-at}
use Rattle.run_laws.proofs.Numbered.{numbered-at}
use Rattle.run_laws.proofs.OwnActors.{LeavesOthers, client_row-is, reader_row-is, view, view_of}
use Rattle.run_laws.proofs.OwnLines.{EachAt, EachBy, MayOf, cards-other, each-at, each-other, each-size, may-each, may-of, own-row, phase-rows}
use Rattle.run_laws.proofs.OwnReaders.{is-own, own-number, reader-border, reader_own, reader_with, runs-members}
use Rattle.run_laws.proofs.SliceLines.{AreSlices-append, first-of, IsGoing, lines-get, LinesGet}
use Rattle.lab_lines.specs.declared.line.Item.TheVariants as item

-- ---- a reader between two items

-- the rows of a reader so far got its frames, and where its stretch has frames it is open and at the frame after them
record IsRead (view : Alone Reader) : Type 0 where
  pub at : Option ℕ
  pub slices : AreSlices None view.rows view.actor.1.frames at
  pub goes : IsGoing at view.actor.1.own

read-by : (view : Alone Reader) (rows : List Row) (x : AtPort × Reader) (at : Option ℕ) → view.rows ≡ rows → view.actor ≡ x → AreSlices None rows x.1.frames at → IsGoing at x.1.own
    → IsRead view
read-by view rows x at rows_are is slices goes = grind (arith, nat_tests)

-- a row that got nothing
with-row : (rows : List Row) (frames : List ℕ) (at after : Option ℕ) (row : Row) → got_by row.op row.answer ≡ 0 → after ≡ goes_on_after (ends_by_row row.op row.answer) at (first-of at).0 0
    → AreSlices None rows frames at → AreSlices None (rows ++ row ∷ []) frames after
with-row rows frames at after row none is slices =
    subst (λ f. AreSlices None (rows ++ row ∷ []) f after) (append-nil frames)
    (AreSlices-append None at after rows (row ∷ []) frames [] slices (
      (first-of at).0,
      [],
      (first-of at).1,
      ap (λ n. range_with_len (first-of at).0 n ++ []) (sym none),
      (refl, is ∙ ap (λ n. goes_on_after (ends_by_row row.op row.answer) at (first-of at).0 n) (sym none)),
    ))

-- a closed reader has no stretch
none-closed : (at : Option ℕ) → IsGoing at None → at ≡ None
none-closed None goes = refl
none-closed (Some next) goes = absurd goes

open-read : (session : Session) (n : ℕ) (stage : Stage) (a : AtPort) (own : Option CaptureStream) (frames : List ℕ) → n < length stage.readers → reader_at session stage n ≡ reader_with a own frames
    → IsRead (view_of (is_reader n) (reader_with a own frames) stage) → IsRead (view (reader_own session n) (open_reader session stage n (reader_with a own frames) own))
open-read session n stage a (Some r) frames there is read =
    read-by _ _ (reader_with a (Some r) frames) read.at (own-row (is_reader n) stage.rows _ (is-own n)) is (with-row _ frames read.at read.at _ refl refl read.slices) read.goes
open-read session n stage a None frames there is read = by_setup (slice_index_or session.readers n None)
  where
    at : read.at ≡ None
    at = none-closed read.at read.goes

    slices : AreSlices None (rows_by (is_reader n) stage.rows) frames None
    slices = subst (λ o. AreSlices None (rows_by (is_reader n) stage.rows) frames o) at read.slices

    by_setup : (setup : Option Setup) → IsRead (view (reader_own session n) (open_reader_with session stage n setup (reader_with a None frames)))
    by_setup None = read-by _ _ (reader_with a None frames) None (own-row (is_reader n) stage.rows _ (is-own n)) is (with-row _ frames None None _ refl refl slices) tt
    by_setup (Some setup) = read-by _ _ _ None (own-row (is_reader n) stage.rows _ (is-own n)) (get_or-set_same stage.readers n _ _ there)
        (with-row _ frames None None _ refl refl slices) tt

close-read : (session : Session) (n : ℕ) (stage : Stage) (a : AtPort) (own : Option CaptureStream) (frames : List ℕ) → n < length stage.readers → reader_at session stage n ≡ reader_with a own frames
    → IsRead (view_of (is_reader n) (reader_with a own frames) stage) → IsRead (view (reader_own session n) (close_reader session stage n (reader_with a own frames) own))
close-read session n stage a None frames there is read =
    read-by _ _ (reader_with a None frames) None (own-row (is_reader n) stage.rows _ (is-own n)) is (with-row _ frames read.at None _ refl refl read.slices) tt
close-read session n stage a (Some r) frames there is read =
    read-by _ _ _ None (own-row (is_reader n) stage.rows _ (is-own n)) (get_or-set_same stage.readers n _ _ there) (with-row _ frames read.at None _ refl refl read.slices) tt

reaped-goes : (ring : Geometry) (at : Option ℕ) (x : AtPort × Reader) → IsGoing at x.1.own → IsGoing at (reaped_reader ring x).1.own
reaped-goes ring at x goes = grind (arith, nat_tests)

reaped-frames : (ring : Geometry) (x : AtPort × Reader) → (reaped_reader ring x).1.frames ≡ x.1.frames
reaped-frames ring x = grind (arith, nat_tests)

-- ---- the items

record ReadsOver (session : Session) (n : ℕ) (stage after : Stage) : Type 0 where
  pub read : IsRead (view (reader_own session n) after)
  pub there : n < length after.readers

-- an opening or closing, by whether it is this reader's
border-over : (session : Session) (n : ℕ) (stage after : Stage) (who : Actor) (mine : Bool) → is_reader n who ≡ mine → LeavesOthers (reader_own session n) who stage after
    → (is_reader n who ≡ true → IsRead (view (reader_own session n) after)) → n < length stage.readers → IsRead (view (reader_own session n) stage) → ReadsOver session n stage after
border-over session n stage after who true mine leaves own there read = record { read = own mine; there = rw leaves.size there }
border-over session n stage after who false mine leaves own there read = record { read = subst IsRead (sym (leaves.same mine)) read; there = rw leaves.size there }

item-over : (session : Session) (n : ℕ) (stage after : Stage) (one : Item) → n < length stage.readers → IsRead (view (reader_own session n) stage) → ItemMay session stage one after
    → ReadsOver session n stage after
item-over session n stage after (item.Opens number who) there read is = rw is (border-over session n stage _ who (is_reader n who) refl
    (open-by session stage (LeavesOthers (reader_own session n) who stage) who (reader-border session n stage who))
    (λ mine. subst (λ k. IsRead (view (reader_own session n) (after_open session stage k))) (own-number n who mine)
    (open-read session n stage (reader_at session stage n).0 (reader_at session stage n).1.own (reader_at session stage n).1.frames there refl read)) there read)
item-over session n stage after (item.Closes number who) there read is = rw is (border-over session n stage _ who (is_reader n who) refl
    (close-by session stage (LeavesOthers (reader_own session n) who stage) who (reader-border session n stage who))
    (λ mine. subst (λ k. IsRead (view (reader_own session n) (after_close session stage k))) (own-number n who mine)
    (close-read session n stage (reader_at session stage n).0 (reader_at session stage n).1.own (reader_at session stage n).1.frames there refl read)) there read)
item-over session n stage after (item.Phase lines) there read may = rw may.is (record {
  read = read-by _ (rows_by (is_reader n) stage.rows ++ own.own) (reaped_reader session.ring y) gets.next rows
      (get_or-map (reaped_reader session.ring) may.readers n (no_reader session.ring))
      (subst (λ f. AreSlices None (rows_by (is_reader n) stage.rows ++ own.own) f gets.next) (sym (reaped-frames session.ring y ∙ gets.frames))
      (AreSlices-append None read.at gets.next (rows_by (is_reader n) stage.rows) own.own (reader_at session stage n).1.frames gets.got read.slices gets.slices))
      (reaped-goes session.ring gets.next y gets.goes);
  there = rw (length-map may.readers (reaped_reader session.ring) ∙ each-size (MayOf (reader_kinds stage) rules ops) 0 stage.readers may.readers may.reader_rows each) there;
})
  where
    rules : Rules
    rules = rules_of session stage lines

    ops : ℕ → List Op
    ops m = ops_by (is_reader m) lines

    each : EachBy (MayOf (reader_kinds stage) rules ops) 0 stage.readers may.readers may.reader_rows
    each = may-each (reader_kinds stage) rules ops 0 stage.readers may.readers may.reader_rows may.readers_may

    own : EachAt (is_reader n) n (MayOf (reader_kinds stage) rules ops) n stage.readers may.readers may.reader_rows (no_reader session.ring)
    own = each-at (is_reader n) n (MayOf (reader_kinds stage) rules ops)
        (may-of (is_reader n) (λ m. nat_eq m n) (reader_kinds stage) rules ops (λ m asked reader answer. ap (is_reader n) (reader_row-is _ m asked reader.own answer).0))
        0 n stage.readers may.readers may.reader_rows _ (omega arith) there each

    y : AtPort × Reader
    y = slice_index_or may.readers n (no_reader session.ring)

    gets : LinesGet read.at (reader_at session stage n).1 y.1 own.own
    gets = lines-get rules (stage.phases + 1) n (reader_at session stage n) y (ops_by (is_reader n) lines) own.own read.at read.goes own.does

    none : rows_by (is_reader n) may.client_rows ≡ []
    none = each-other (is_reader n) (λ m. false) (MayOf (client_kinds session stage) rules (λ m. ops_by (is_client m) lines))
        (may-of (is_reader n) (λ m. false) (client_kinds session stage) rules (λ m. ops_by (is_client m) lines) (λ m asked client answer. ap (is_reader n) (client_row-is _ m asked client.own answer).0))
        0 stage.clients may.clients may.client_rows (λ m low. refl)
        (may-each (client_kinds session stage) rules (λ m. ops_by (is_client m) lines) 0 stage.clients may.clients may.client_rows may.clients_may)

    rows : rows_by (is_reader n) (stage.rows ++ card_rows (stage.phases + 1) stage.position (ops_by is_of_card lines) ++ may.client_rows ++ may.reader_rows)
        ≡ rows_by (is_reader n) stage.rows ++ own.own
    rows = phase-rows (is_reader n) stage.rows _ may.client_rows may.reader_rows _ (cards-other (is_reader n) refl _ _ (ops_by is_of_card lines)) (λ i. none i ++ own.rows_are i)

items-over : (session : Session) (n : ℕ) (stage after : Stage) (items : List Item) → n < length stage.readers → IsRead (view (reader_own session n) stage) → ItemsMay session stage items after
    → ReadsOver session n stage after
items-over session n stage after [] there read is = rw is (record { read = read; there = there })
items-over session n stage after (one ∷ items) there read (between, may, rest) =
    let step = item-over session n stage between one there read may in
    let more = items-over session n between after items step.there step.read rest in
    record { read = more.read; there = more.there }

pub readers-read_in_slices : (session : Session) (capture : Option Sound) (body : List Item) → ReadersReadInSlices session capture body
readers-read_in_slices session capture body client_stops reader_stops outcome run n there =
    subst (λ (o : Outcome). ReadsInSlices session capture o n) (sym run.is) (record {
      frames = (reader_at session run.end n).1.frames;
      runs = runs-members n (with_numbers (λ (reader : AtPort × Reader). runs_of reader.1.frames) 0 run.end.readers)
          ∙ numbered-at (λ (reader : AtPort × Reader). runs_of reader.1.frames) (no_reader session.ring) n 0 n run.end.readers (omega arith) refl;
      samples = recorded_from-at session capture run.end.readers n (no_reader session.ring) over.there;
      after = over.read.at;
      slices = over.read.slices;
    })
  where
    over : ReadsOver session n (first_stage session) run.end
    over = items-over session n (first_stage session) run.end body (rw (length-map session.readers) there)
        (read-by _ [] (no_reader session.ring) None refl (get_or-map (λ setup. no_reader session.ring) session.readers n None) (refl, refl) tt) run.may
