-- Each row of a report that is answered late is that of a line of the run.
use Rattle.run_laws.specs.Prelude.{ap, arith, List, None, Option, refl, Some, subst, sym, ℕ, [], ◌++◌, ◌+◌, ◌∙◌, ◌∷◌, ◌≡◌, nat_tests, append-nil, append_assoc}
use Rattle.run_laws.specs.Prelude.{All-from_recursion, AllByRecursion, slice_index_or, suc, true, PcmError, Segment, State, PlaybackStream, Sound, Actor, Item}
use Rattle.run_laws.specs.Prelude.{Line, Op, Report, Answer, Done, Failed, Row, is_of_card, played_by, Client, row_by, segments_of, client_kinds, held_of}
use Rattle.run_laws.specs.Prelude.{ItemMay, ItemsMay, no_sound, phase_end, reader_kinds, rules_of, LabRun, Outcome, report_of, EachMay, Kind, LineMay, LinesMay}
use Rattle.run_laws.specs.Prelude.{segments_by, card_row, card_rows, is_client, is_reader, ops_by, Reader, reader_kind, AtPort, Rules, client_at, first_stage}
use Rattle.run_laws.specs.Prelude.{no_client, Session, Stage, stage_row, AtBorder, closes-to, IsRefusal, opens-to, items-more, IsLate, IsLineOf, IsRowOfLine}
use Rattle.run_laws.specs.Prelude.{LateLinesMiss, LateRowsMiss, ListsSegments, RowMisses, RowNamesLast, SaysWhereLate, is_rewind}
use Rattle.run_laws.proofs.Listed.{OverAt, late-over, listed-at, over-held}
use Rattle.run_laws.proofs.Lists.{each-append}
use Rattle.run_laws.proofs.RunGoesOn.{items-append}
use Rattle.run_laws.proofs.Sealed.{IsStart, Over, over-lines}
use Rattle.run_laws.proofs.Stages.{items-held, reaped-held}
use Rattle.snd_base.specs.declared.errors.PcmError.TheVariants as error
use Rattle.dsnoop_client.specs.declared.stream.CaptureStream as reading
use Rattle.lab_lines.specs.declared.line.Actor.TheVariants as actor
use Rattle.lab_lines.specs.declared.line.Item.TheVariants as item
use Rattle.lab_lines.specs.declared.line.Op.TheVariants as op
use Rattle.lab_run.specs.Reader as readers

-- one line more
LinesMay-more : {S : Type 0} (kind : Kind S) (rules : Rules) (x before between : AtPort × S) (early : List Op) (asked : Op) (answer : Answer) (rows : List Row)
    → LinesMay kind rules x early before rows → LineMay kind rules before asked between answer
    → LinesMay kind rules x (early ++ asked ∷ []) between (rows ++ kind.row asked between.1 answer ∷ [])
LinesMay-more kind rules x before between [] asked answer rows (same, none) may =
    rw none (between, answer, [], subst (λ y. LineMay kind rules y asked between answer) same may, (refl, refl), refl)
LinesMay-more kind rules x before between (first ∷ early) asked answer rows (middle, given, others, one, rest, are) may = (
  middle,
  given,
  others ++ kind.row asked between.1 answer ∷ [],
  one,
  LinesMay-more kind rules middle before between early asked answer others rest may,
  ap (λ r. r ++ kind.row asked between.1 answer ∷ []) are,
)

-- ---- a refusal is never late

refused-early : (e : PcmError) → IsRefusal e → (frame channel : ℕ) → IsLate (Failed e) frame channel → ⊥
refused-early (error.Xrun w) refusal frame channel late = absurd refusal
refused-early other refusal frame channel late = absurd (cc)

-- ---- rows are never taken back

-- a stage's rows are the first ones of some
abbrev IsFirst : List Row → List Row → Type 0
IsFirst rows all = (later : List Row) × (all ≡ rows ++ later)

first-more : (rows more all : List Row) → IsFirst (rows ++ more) all → IsFirst rows all
first-more rows more all (later, is) = (more ++ later, is ∙ append_assoc rows more later)

items-first : (session : Session) (stage after : Stage) (items : List Item) (all : List Row) → ItemsMay session stage items after → IsFirst after.rows all → IsFirst stage.rows all
items-first session stage after items all may first =
    let more = items-more session stage after items may in
    first-more stage.rows more.more all (subst (λ (rows : List Row). IsFirst rows all) more.rows first)

module _ (session : Session) (body : List Item) (report : Report) (late : LateLinesMiss session body) where
  abbrev all : List Row
  all = report.rows

  abbrev P : Row → Type 0
  P = SaysWhereLate session body report

  -- the report lists these segments of a client, and others only behind them
  abbrev Lists : ℕ → List Segment → Type 0
  Lists number list = IsStart list (segments_by number report.segments)

  -- it lists those of each client that are settled at a stage
  abbrev ListsAt : Stage → Type 0
  ListsAt stage = (number : ℕ) (list : List Segment) → Over list (client_at session stage number).1 → Lists number list

  -- it lists those that are settled at a line
  abbrev ListsOf : ℕ → AtPort × Client → Type 0
  ListsOf number x = (list : List Segment) → Over list x.1 → Lists number list

  -- a row with another answer, or of another actor
  other-row : (row : Row) → ((number frame channel : ℕ) → row.actor ≡ actor.Client number → IsLate row.answer frame channel → ⊥) → P row
  other-row row other = grind (arith, nat_tests)

  -- ---- rows of a phase

  card-P : (phase position : ℕ) (asked : Op) → P (card_row phase position asked)
  card-P phase position op.Unplug = other-row _ (λ number frame channel who is. absurd (cc))
  card-P phase position asked = other-row _ (λ number frame channel who is. absurd (cc))

  cards-P : (phase position : ℕ) (ops : List Op) → AllByRecursion P (card_rows phase position ops)
  cards-P phase position [] = tt
  cards-P phase position (asked ∷ more) = (card-P phase position asked, cards-P phase (position + played_by asked) more)

  reader-P : (phase number : ℕ) (asked : Op) (own : Option reading.CaptureStream) (answer : Answer) → P (readers.row_by phase number asked own answer)
  reader-P phase number asked None answer = other-row _ (λ n frame channel who is. absurd (cc))
  reader-P phase number asked (Some r) answer = other-row _ (λ n frame channel who is. absurd (cc))

  reader-lines : (rules : Rules) (phase number : ℕ) (x y : AtPort × Reader) (ops : List Op) (rows : List Row) → LinesMay (reader_kind phase number) rules x ops y rows
      → AllByRecursion P rows
  reader-lines rules phase number x y [] rows (same, none) = rw none tt
  reader-lines rules phase number x y (asked ∷ ops) rows (between, answer, others, may, rest, are) =
      rw are (reader-P phase number asked between.1.own answer, reader-lines rules phase number between y ops others rest)

  reader-rows : (stage : Stage) (rules : Rules) (ops : ℕ → List Op) (number : ℕ) (actors after : List (AtPort × Reader)) (rows : List Row)
      → EachMay (reader_kinds stage) rules ops number actors after rows → AllByRecursion P rows
  reader-rows stage rules ops number [] after rows (same, none) = rw none tt
  reader-rows stage rules ops number (x ∷ actors) after rows (own, others, own_rows, other_rows, may, rest, same, are) =
      rw are (each-append P own_rows other_rows (reader-lines rules (stage.phases + 1) number x own (ops number) own_rows may)
      (reader-rows stage rules ops (number + 1) actors others other_rows rest))

  -- the row of a client's line
  row-is : (phase n : ℕ) (asked : Op) (own : Option PlaybackStream) (answer : Answer)
      → (let row : Row = row_by phase n asked own answer in (row.actor ≡ actor.Client n) × (row.op ≡ asked) × (row.answer ≡ answer))
  row-is phase n asked None answer = (refl, refl, refl)
  row-is phase n asked (Some c) answer = (refl, refl, refl)

  -- it is that of the line
  of-line : (n : ℕ) (before after : AtPort × Client) (asked : Op) (answer : Answer) (line : IsLineOf session body n before asked after answer) → IsFirst line.stage.rows all
      → IsRowOfLine session body all (row_by (line.stage.phases + 1) n asked after.1.own answer) n
  of-line n before after asked answer line first = record {
    before = before;
    after = after;
    asked = asked;
    answer = answer;
    line = line;
    later_rows = first.0;
    rows_are = first.1;
    row_is = refl;
  }

  line-listed : (n : ℕ) (before after : AtPort × Client) (asked : Op) (answer : Answer) (frame channel : ℕ) → IsLineOf session body n before asked after answer → ListsOf n after
      → IsLate answer frame channel → ListsSegments report n after.1
  line-listed n before after asked answer frame channel line lists is = let listed = lists (segments_of after.1)
      (late-over (rules_of session line.stage line.lines) (line.stage.phases + 1) (slice_index_or session.sounds n no_sound) n before.0 after.0 before.1 after.1 asked answer frame channel is line.line)
      in record { others = listed.0; segments_are = listed.1 }

  -- of a rewind
  line-last : (n : ℕ) (before after : AtPort × Client) (asked : Op) (answer : Answer) (frame channel : ℕ) (line : IsLineOf session body n before asked after answer)
      → IsFirst line.stage.rows all → ListsOf n after → is_rewind asked ≡ true → IsLate answer frame channel
      → RowNamesLast session body report (row_by (line.stage.phases + 1) n asked after.1.own answer) n frame channel
  unfolding of-line
  line-last n before after (op.Rewind m) answer frame channel line first lists rewind is = record {
    of = of-line n before after (op.Rewind m) answer line first;
    last = late.rewinds n before after m answer frame channel line is;
    listed = line-listed n before after (op.Rewind m) answer frame channel line lists is;
  }
  line-last n before after other answer frame channel line first lists rewind is = absurd (cc)

  client-P : (n : ℕ) (before after : AtPort × Client) (asked : Op) (answer : Answer) (line : IsLineOf session body n before asked after answer) → IsFirst line.stage.rows all
      → ListsOf n after → P (row_by (line.stage.phases + 1) n asked after.1.own answer)
  unfolding of-line
  client-P n before after asked answer line first lists = record {
    missed = λ number frame channel who not is.
        subst (λ m. RowMisses session body report row m frame channel) (same number who)
        (record {
          of = of-line n before after asked answer line first;
          none = late.missed n before after asked answer frame channel line (sym op_is ∙ not) (late_is frame channel is);
          listed = line-listed n before after asked answer frame channel line lists (late_is frame channel is);
        });
    rewinds = λ number frame channel who rewind is.
        subst (λ m. RowNamesLast session body report row m frame channel) (same number who)
        (line-last n before after asked answer frame channel line first lists (sym op_is ∙ rewind) (late_is frame channel is));
  }
    where
      row : Row
      row = row_by (line.stage.phases + 1) n asked after.1.own answer

      op_is : is_rewind row.op ≡ is_rewind asked
      op_is = ap is_rewind (row-is (line.stage.phases + 1) n asked after.1.own answer).1

      same : (number : ℕ) → row.actor ≡ actor.Client number → n ≡ number
      same number who = let own = (row-is (line.stage.phases + 1) n asked after.1.own answer).0 in cc

      late_is : (frame channel : ℕ) → IsLate row.answer frame channel → IsLate answer frame channel
      late_is frame channel is = sym (row-is (line.stage.phases + 1) n asked after.1.own answer).2 ∙ is

  -- where a phase is in the body
  record IsPhaseOf (lines : List Line) (stage : Stage) : Type 0 where
    done : List Item
    others : List Item
    body_is : body ≡ done ++ item.Phase lines ∷ others
    reached : ItemsMay session (first_stage session) done stage
    first : IsFirst stage.rows all

  client-lines : (lines : List Line) (stage : Stage) (phase : IsPhaseOf lines stage) (n : ℕ) (x y : AtPort × Client) (early ops : List Op) (so_far rows : List Row) → ListsOf n y
      → ops_by (is_client n) lines ≡ early ++ ops → LinesMay (client_kinds session stage n) (rules_of session stage lines) (client_at session stage n) early x so_far
      → LinesMay (client_kinds session stage n) (rules_of session stage lines) x ops y rows → AllByRecursion P rows
  client-lines lines stage phase n x y early [] so_far rows lists ops_are before (same, none) = rw none tt
  client-lines lines stage phase n x y early (asked ∷ ops) so_far rows lists ops_are before (between, answer, others, may, rest, are) =
      rw are (
        client-P n x between asked answer (record {
          done = phase.done;
          others = phase.others;
          lines = lines;
          body_is = phase.body_is;
          stage = stage;
          reached = phase.reached;
          early = early;
          rows = so_far;
          later = ops;
          lines_are = ops_are;
          lines_so_far = before;
          line = may;
        }) phase.first (λ list over. lists list (over-lines list (rules_of session stage lines) (stage.phases + 1) (slice_index_or session.sounds n no_sound) n between y ops others over rest)),
        client-lines lines stage phase n between y (early ++ asked ∷ []) ops (so_far ++ (client_kinds session stage n).row asked between.1 answer ∷ []) others lists
            (ops_are ∙ sym (append_assoc early (asked ∷ []) ops))
            (LinesMay-more (client_kinds session stage n) (rules_of session stage lines) (client_at session stage n) x between early asked answer so_far before may) rest,
      )

  client-rows : (lines : List Line) (stage : Stage) (phase : IsPhaseOf lines stage) (number : ℕ) (actors after : List (AtPort × Client)) (rows : List Row)
      → ((i n : ℕ) → number + i ≡ n → slice_index_or actors i (no_client session.ring) ≡ client_at session stage n)
      → ((i n : ℕ) → number + i ≡ n → ListsOf n (slice_index_or after i (no_client session.ring)))
      → EachMay (client_kinds session stage) (rules_of session stage lines) (λ n. ops_by (is_client n) lines) number actors after rows → AllByRecursion P rows
  client-rows lines stage phase number [] after rows at lists (same, none) = rw none tt
  client-rows lines stage phase number (x ∷ actors) after rows at lists (own, others, own_rows, other_rows, may, rest, same, are) = rw are (each-append P own_rows other_rows
      (client-lines lines stage phase number x own [] (ops_by (is_client number) lines) [] own_rows (now 0 number (omega arith)) refl (at 0 number (omega arith), refl) may)
      (client-rows lines stage phase (number + 1) actors others other_rows (λ i n is. at (suc i) n (omega (arith, is))) (λ i n is. now (suc i) n (omega (arith, is))) rest))
    where
      now : (i n : ℕ) → number + i ≡ n → ListsOf n (slice_index_or (own ∷ others) i (no_client session.ring))
      now i n is = subst (λ (xs : List (AtPort × Client)). ListsOf n (slice_index_or xs i (no_client session.ring))) same (lists i n is)

  -- ---- rows of openings and closings

  border-rows : (stage : Stage) (who : Actor) (asked : Op) → AllByRecursion P stage.rows → AtBorder session stage who asked (λ after. AllByRecursion P after.rows)
  border-rows stage who asked are = record {
    none = λ card. are;
    refused = λ lobby e s seen refusal own. added (Failed e) s seen (refused-early e refusal);
    opens = λ n setup lobby who_is there closed granted. added Done _ _ never;
    ends = λ n c who_is is. added Done _ _ never;
    reader_opens = λ n setup who_is there. added Done _ _ never;
    reader_ends = λ n seen who_is. added Done _ _ never;
  }
    where
      added : (answer : Answer) (s : State) (seen : Option ℕ) → ((frame channel : ℕ) → IsLate answer frame channel → ⊥)
          → AllByRecursion P (stage.rows ++ stage_row stage who asked answer s seen ∷ [])
      added answer s seen early = each-append P stage.rows _ are (other-row _ (λ number frame channel who. early frame channel), tt)

      never : (frame channel : ℕ) → IsLate Done frame channel → ⊥
      never frame channel is = absurd (cc)

  -- ---- the body

  item-rows : (stage after : Stage) (done others : List Item) (one : Item) → body ≡ done ++ one ∷ others → ItemsMay session (first_stage session) done stage → IsFirst stage.rows all
      → ListsAt after → AllByRecursion P stage.rows → ItemMay session stage one after → AllByRecursion P after.rows
  item-rows stage after done others (item.Opens number who) body_is reached first lists are is =
      rw is (opens-to session stage (λ after. AllByRecursion P after.rows) who (border-rows stage who op.Opens are))
  item-rows stage after done others (item.Closes number who) body_is reached first lists are is =
      rw is (closes-to session stage (λ after. AllByRecursion P after.rows) who (border-rows stage who op.Closes are))
  item-rows stage after done others (item.Phase lines) body_is reached first lists are may =
      let phase : IsPhaseOf lines stage = record { done = done; others = others; body_is = body_is; reached = reached; first = first } in
      let cards = card_rows (stage.phases + 1) stage.position (ops_by is_of_card lines) in
      let at_end : ListsAt (phase_end session stage lines (may.clients, may.client_rows) (may.readers, may.reader_rows)) = subst ListsAt may.is lists in
      rw may.is (each-append P (stage.rows ++ cards ++ may.client_rows) may.reader_rows
      (each-append P (stage.rows ++ cards) may.client_rows
      (each-append P stage.rows cards are (cards-P (stage.phases + 1) stage.position (ops_by is_of_card lines)))
      (client-rows lines stage phase 0 stage.clients may.clients may.client_rows (λ i n is. let same : i ≡ n = omega (arith, is) in ap (client_at session stage) same)
      (λ i n is list over. let same : i ≡ n = omega (arith, is) in subst (λ k. Lists k list) same
      (at_end i list (reaped-held session (OverAt session list i) (over-held session list i) 0 [] may.clients 0 (held_of stage) refl over))) may.clients_may))
      (reader-rows stage (rules_of session stage lines) (λ n. ops_by (is_reader n) lines) 0 stage.readers may.readers may.reader_rows may.readers_may))

  items-rows : (stage after : Stage) (done items : List Item) → body ≡ done ++ items → ItemsMay session (first_stage session) done stage → IsFirst after.rows all
      → ListsAt after → AllByRecursion P stage.rows → ItemsMay session stage items after → AllByRecursion P after.rows
  items-rows stage after done [] body_is reached first lists are is = rw is are
  items-rows stage after done (one ∷ items) body_is reached first lists are (between, may, rest) =
      items-rows between after (done ++ one ∷ []) items (body_is ∙ sym (append_assoc done (one ∷ []) items))
      (items-append session (first_stage session) stage between done (one ∷ []) reached (between, may, refl)) first lists
      (item-rows stage between done items one body_is reached (items-first session stage after (one ∷ items) all (between, may, rest) first)
      (λ number list over. lists number list (items-held session (OverAt session list number) (over-held session list number) between after items rest over)) are may) rest

pub LabRun-late : (session : Session) (capture : Option Sound) (body : List Item) (client_stops reader_stops : ℕ → ℕ) (outcome : Outcome) → LateLinesMiss session body
    → LabRun session capture body client_stops reader_stops outcome → LateRowsMiss session body outcome.report
LabRun-late session capture body client_stops reader_stops outcome late run =
    subst (λ (o : Outcome). LateRowsMiss session body o.report) (sym run.is)
    (All-from_recursion (SaysWhereLate session body (report_of session run.end)) run.end.rows
    (items-rows session body (report_of session run.end) late (first_stage session) run.end [] body refl refl ([], sym (append-nil run.end.rows))
    (λ number list over. listed-at session run.end list number over) tt run.may))
