-- A report has no more segments than rows, and no more runs than rows.
use Rattle.lab_run.specs.Prelude.{ap, arith, length, Option, refl, subst, sym, ℕ, ◌+◌, ◌-◌, ◌∙◌, ◌≡◌, ◌≤◌, eq-eqb, nat_tests, append-nil, length-append}
use Rattle.lab_run.specs.Prelude.{length-map, range_with_len, Bool, false, List, map, nat_eq, slice_index_or, slice_set, suc, true, zero, [], ◌++◌, ◌∷◌}
use Rattle.lab_run.specs.Prelude.{Geometry, Segment, Gives-any, PlaybackStream, CaptureStream, Sound, Item, Line, Op, Answer, Count, Done, Failed, Row}
use Rattle.lab_run.specs.Prelude.{is_of_card, Client, ended_by, present_of, segments_of, stretch_of, client_kinds, is_stopped, ItemsMay, no_sound, PhaseMay}
use Rattle.lab_run.specs.Prelude.{reader_kinds, reaped_client, reaped_client_if, reaped_reader, rules_of, joined_runs, runs_of, with_numbers, EachMay, Kind}
use Rattle.lab_run.specs.Prelude.{LineMay, LinesMay, card_rows, is_client, is_reader, ops_by, frames_by, Reader, AtPort, Rules, first_stage, no_client}
use Rattle.lab_run.specs.Prelude.{no_reader, Session, Stage}
use Rattle.snd_base.specs.declared.errors.PcmError.TheVariants.{BadState, Stopped}
use Rattle.lab_run.specs.ReportSize.{IsWithinRows}
use Rattle.lab_run.proofs.BorderLaws.{OverItems, items-over}
use Rattle.lab_run.proofs.EachLine.{client-line, reader-line}
use Rattle.lab_lines.specs.declared.line.Op.TheVariants as op
use Rattle.lab_run.specs.Client as clients
use Rattle.lab_run.specs.Reader as readers

-- ---- a part of a report that each actor has a list of

module _ {S Y : Type 0} (of : AtPort × S → List Y) where
  -- how many all actors have
  all-of : List (AtPort × S) → ℕ
  all-of [] = 0
  all-of (x ∷ xs) = length (of x) + all-of xs

  numbered-all : (number : ℕ) (xs : List (AtPort × S)) → length (with_numbers of number xs) ≡ all-of xs
  unfolding all-of
  numbered-all number [] = refl
  numbered-all number (x ∷ xs) =
      length-append (map (λ y. (number, y)) (of x)) (with_numbers of (number + 1) xs)
      ∙ ap (λ n. n + length (with_numbers of (number + 1) xs)) (length-map (of x) (λ y. (number, y)))
      ∙ ap (λ n. length (of x) + n) (numbered-all (number + 1) xs)

  -- one actor became another
  all-set : (xs : List (AtPort × S)) (n : ℕ) (d y : AtPort × S) → length (of y) ≤ length (of (slice_index_or xs n d)) → all-of (slice_set xs n y) ≤ all-of xs
  unfolding all-of
  all-set [] n d y few = omega arith
  all-set (x ∷ xs) zero d y few = omega (arith, few)
  all-set (x ∷ xs) (suc n) d y few = let more = all-set xs n d y few in omega (arith, more)

  -- each actor became another
  all-map : (f : AtPort × S → AtPort × S) (xs : List (AtPort × S)) → ((x : AtPort × S) → length (of (f x)) ≤ length (of x)) → all-of (map f xs) ≤ all-of xs
  unfolding all-of
  all-map f [] few = omega arith
  all-map f (x ∷ xs) few = let own = few x in let more = all-map f xs few in omega (arith, own, more)

  -- actors that have none
  all-none : {X : Type 0} (y : AtPort × S) (xs : List X) → length (of y) ≡ 0 → all-of (map (λ x. y) xs) ≡ 0
  unfolding all-of
  all-none y [] none = refl
  all-none y (x ∷ xs) none = let more = all-none y xs none in omega (arith, none, more)

  -- a line makes one more at most
  abbrev LinesAdd : Kind S → Rules → Type 0
  LinesAdd kind rules =
      (x y : AtPort × S) (asked : Op) (answer : Answer) → LineMay kind rules x asked y answer → length (of y) ≤ length (of x) + 1

  lines-add : (kind : Kind S) (rules : Rules) → LinesAdd kind rules → (x y : AtPort × S) (ops : List Op) (rows : List Row) → LinesMay kind rules x ops y rows
      → length (of y) ≤ length (of x) + length rows
  lines-add kind rules add x y [] rows (same, none) = rw same (omega arith)
  lines-add kind rules add x y (asked ∷ ops) rows (between, answer, others, may, rest, are) =
      let own = add x between asked answer may in
      let more = lines-add kind rules add between y ops others rest in
      rw are (omega (arith, own, more))

  each-add : (kind : ℕ → Kind S) (rules : Rules) → ((n : ℕ) → LinesAdd (kind n) rules) → (ops : ℕ → List Op) (number : ℕ) (xs ys : List (AtPort × S)) (rows : List Row)
      → EachMay kind rules ops number xs ys rows → all-of ys ≤ all-of xs + length rows
  unfolding all-of
  each-add kind rules add ops number [] ys rows (same, none) = rw same (omega arith)
  each-add kind rules add ops number (x ∷ xs) ys rows (own, others, own_rows, other_rows, may, rest, same, are) =
      let first = lines-add (kind number) rules (add number) x own (ops number) own_rows may in
      let more = each-add kind rules add ops (number + 1) xs others other_rows rest in
      let count = length-append own_rows other_rows in
      rw same (rw are (omega (arith, first, more, count)))

-- ---- the segments of a client

abbrev segments-at : AtPort × Client → List Segment
segments-at x = segments_of x.1

stretch-one : (c : PlaybackStream) → length (stretch_of c) ≤ 1
stretch-one c = grind (arith, nat_tests)

-- what a call ends is no more than the stretch before it
ended-few : (asked : Op) (answer : Answer) (c d : PlaybackStream) → length (ended_by asked answer c d) ≤ length (stretch_of c)
ended-few asked answer c d = grind (arith, nat_tests)

-- a call makes one segment more at most
call-few : (ended : List Segment) (c d : PlaybackStream) (asked : Op) (answer : Answer)
    → length ((ended ++ ended_by asked answer c d) ++ stretch_of d) ≤ length (ended ++ stretch_of c) + 1
call-few ended c d asked answer =
    let few = ended-few asked answer c d in
    let one = stretch-one d in
    let all = length-append (ended ++ ended_by asked answer c d) (stretch_of d) in
    let first = length-append ended (ended_by asked answer c d) in
    let before = length-append ended (stretch_of c) in
    omega (arith, few, one, all, first, before)

abbrev FewSegments : Client → Client × Answer → Type 0
FewSegments before (client, answer) = length (segments_of client) ≤ length (segments_of before) + 1

line-segments : (phase : ℕ) (wav : Sound) (number : ℕ) (rules : Rules) → LinesAdd segments-at (clients.client_kind phase wav number) rules
line-segments phase wav number rules (a, client) (b, after) asked answer may =
    client-line (FewSegments client) rules phase wav number a b client after asked answer (λ none. same (Failed BadState)) (λ c is. same (Failed Stopped)) (λ c is. same Done)
    (λ c is marks. Gives-any (λ (x : PlaybackStream × Answer). FewSegments client (clients.after_call client c asked x)) (clients.call_of wav marks c asked)
    (λ x. subst (λ (own : Option PlaybackStream). length ((client.ended ++ ended_by asked x.1 c x.0) ++ stretch_of x.0) ≤ length (client.ended ++ present_of own) + 1) (sym is)
    (call-few client.ended c x.0 asked x.1))) may
  where
    same : (given : Answer) → FewSegments client (client, given)
    same given = omega arith

-- the segments of a client that ends
ended-segments : (client : Client) → length (segments_of client ++ []) ≤ length (segments_of client)
ended-segments client = let all = length-append (segments_of client) [] in omega (arith, all)

reaped-segments : (ring : Geometry) (x : AtPort × Client) → length (segments-at (reaped_client ring x)) ≤ length (segments-at x)
reaped-segments ring (a, client) = by_test (is_stopped client.own)
  where
    by_test : (b : Bool) → length (segments-at (reaped_client_if b ring (a, client))) ≤ length (segments_of client)
    by_test true = ended-segments client
    by_test false = omega arith

-- ---- the runs of a reader

abbrev runs-at : AtPort × Reader → List (ℕ × ℕ)
runs-at x = runs_of x.1.frames

-- runs of which the first one begins at a frame
abbrev Begin : ℕ → List (ℕ × ℕ) → Type 0
Begin frame [] = ⊥
Begin frame (run ∷ runs) = run.0 ≡ frame

joined-begins : (frame : ℕ) (runs : List (ℕ × ℕ)) → Begin frame (joined_runs frame runs)
joined-begins frame runs = grind (arith, nat_tests)

-- a frame is a run of its own, unless the runs begin at the next one
abbrev break-by : Bool → ℕ
break-by true = 0
break-by false = 1

joined-length : (frame next : ℕ) (runs : List (ℕ × ℕ)) → Begin next runs → length (joined_runs frame runs) ≡ break-by (nat_eq (frame + 1) next) + length runs
joined-length frame next runs begin = grind (arith, nat_tests)

joined-most : (frame : ℕ) (runs : List (ℕ × ℕ)) → length (joined_runs frame runs) ≤ length runs + 1
joined-most frame runs = grind (arith, nat_tests)

-- frames that are one after the other are one run
range-one : (first count : ℕ) → length (runs_of (range_with_len first count)) ≤ 1
range-one first zero = omega arith
range-one first (suc zero) = omega arith
range-one first (suc (suc count)) =
    let more = range-one (first + 1) (suc count) in
    let next : nat_eq (first + 1) (first + 1) ≡ true = eq-eqb (first + 1) (first + 1) refl in
    let all = joined-length first (first + 1) (runs_of (range_with_len (first + 1) (suc count))) (joined-begins (first + 1) (runs_of (range_with_len (first + 1 + 1) count))) in
    omega (arith, more, all, ap break-by next)

-- one slice more is one run more at most
runs-append : (frames : List ℕ) (first count : ℕ) → length (runs_of (frames ++ range_with_len first count)) ≤ length (runs_of frames) + 1
runs-append [] first count = range-one first count
runs-append (frame ∷ []) first count =
    let one = range-one first count in let most = joined-most frame (runs_of (range_with_len first count)) in omega (arith, one, most)
runs-append (frame ∷ next ∷ frames) first count =
    let more = runs-append (next ∷ frames) first count in
    let before = joined-length frame next (runs_of (next ∷ frames)) (joined-begins next (runs_of frames)) in
    let after = joined-length frame next (runs_of (next ∷ frames ++ range_with_len first count)) (joined-begins next (runs_of (frames ++ range_with_len first count))) in
    omega (arith, more, before, after)

call-runs : (frames : List ℕ) (asked : Op) (answer : Answer) (r : CaptureStream) → length (runs_of (frames ++ frames_by asked answer r)) ≤ length (runs_of frames) + 1
call-runs frames (op.Read n) (Count count) r = runs-append frames (r.next - count) count
call-runs frames asked answer r = let same = ap (λ (fs : List ℕ). length (runs_of fs)) (append-nil frames) in omega (arith, same)

abbrev FewRuns : Reader → Reader × Answer → Type 0
FewRuns before (reader, answer) = length (runs_of reader.frames) ≤ length (runs_of before.frames) + 1

line-runs : (phase number : ℕ) (rules : Rules) → LinesAdd runs-at (readers.reader_kind phase number) rules
line-runs phase number rules (a, reader) (b, after) asked answer may =
    reader-line (FewRuns reader) rules phase number a b reader after asked answer (λ none. same (Failed BadState)) (λ r is. same (Failed Stopped)) (λ r is. same Done)
    (λ r is. Gives-any (λ (x : CaptureStream × Answer). FewRuns reader (readers.after_call reader asked x)) (readers.call_of r asked)
    (λ x. call-runs reader.frames asked x.1 x.0)) may
  where
    same : (given : Answer) → FewRuns reader (reader, given)
    same given = omega arith

reaped-runs : (ring : Geometry) (x : AtPort × Reader) → length (runs-at (reaped_reader ring x)) ≤ length (runs-at x)
reaped-runs ring (a, reader) = grind (arith, nat_tests)

-- ---- the items

abbrev segment-count : Stage → ℕ
segment-count stage = all-of segments-at stage.clients

abbrev run-count : Stage → ℕ
run-count stage = all-of runs-at stage.readers

-- no more segments and no more runs than rows more
record AddsFew (stage after : Stage) : Type 0 where
  segments : segment-count after + length stage.rows ≤ segment-count stage + length after.rows
  runs : run-count after + length stage.rows ≤ run-count stage + length after.rows

-- with a row more, and no segment and no run more
few-none : (stage after : Stage) (row : Row) → after.rows ≡ stage.rows ++ row ∷ [] → segment-count after ≤ segment-count stage → run-count after ≤ run-count stage → AddsFew stage after
few-none stage after row is segments runs =
    let rows = ap length is ∙ length-append stage.rows (row ∷ []) in
    record { segments = omega (arith, segments, rows); runs = omega (arith, runs, rows) }

phase-few : (session : Session) (stage after : Stage) (lines : List Line) → PhaseMay session stage lines after → AddsFew stage after
phase-few session stage after lines may =
    let rules : Rules = rules_of session stage lines in
    let cards : List Row = card_rows (stage.phases + 1) stage.position (ops_by is_of_card lines) in
    let rows = ap (λ (s : Stage). length s.rows) may.is
    ∙ (length-append (stage.rows ++ cards ++ may.client_rows) may.reader_rows
    ∙ (ap (λ n. n + length may.reader_rows) (length-append (stage.rows ++ cards) may.client_rows)
    ∙ ap (λ n. n + length may.client_rows + length may.reader_rows) (length-append stage.rows cards))) in
    let own = each-add segments-at (client_kinds session stage) rules (λ n. line-segments (stage.phases + 1) (slice_index_or session.sounds n no_sound) n rules) (λ n. ops_by (is_client n) lines) 0 stage.clients may.clients may.client_rows may.clients_may in
    let others = each-add runs-at (reader_kinds stage) rules (λ n. line-runs (stage.phases + 1) n rules) (λ n. ops_by (is_reader n) lines) 0 stage.readers may.readers may.reader_rows may.readers_may in
    let own_reaped = all-map segments-at (reaped_client session.ring) may.clients (reaped-segments session.ring) in
    let others_reaped = all-map runs-at (reaped_reader session.ring) may.readers (reaped-runs session.ring) in
    let segments = ap segment-count may.is in
    let runs = ap run-count may.is in
    record {
      segments = omega (arith, rows, own, own_reaped, segments);
      runs = omega (arith, rows, others, others_reaped, runs);
    }

over-few : (session : Session) → OverItems session AddsFew
over-few session = record {
  same = λ stage. record { segments = omega arith; runs = omega arith };
  border = λ stage who. record {
    none = λ card. record { segments = omega arith; runs = omega arith };
    refused = λ lobby row of. few-none stage _ row refl (omega arith) (omega arith);
    client = λ n client lobby claims row who_is of same. few-none stage _ row refl
        (all-set segments-at stage.clients n (no_client session.ring) _ (let few = ap length same in omega (arith, few))) (omega arith);
    reader = λ n own anew row who_is of. few-none stage _ row refl (omega arith) (all-set runs-at stage.readers n (no_reader session.ring) _ (omega arith));
  };
  phase = λ stage after lines may. phase-few session stage after lines may;
  then = λ x y z here there. let segments = here.segments in let more_segments = there.segments in let runs = here.runs in let more_runs = there.runs in
      record { segments = omega (arith, segments, more_segments); runs = omega (arith, runs, more_runs) };
}

pub stages-within : (session : Session) (done : List Item) (stage : Stage) → ItemsMay session (first_stage session) done stage → IsWithinRows stage
stages-within session done stage may =
    let few = items-over session AddsFew (over-few session) (first_stage session) stage done may in
    let segments = few.segments in
    let runs = few.runs in
    let no_segments = all-none segments-at (no_client session.ring) session.clients refl in
    let no_runs = all-none runs-at (no_reader session.ring) session.readers refl in
    let own = numbered-all segments-at 0 stage.clients in
    let others = length-map {B = ℕ × ℕ × ℕ} (with_numbers runs-at 0 stage.readers) (λ (run : ℕ × (ℕ × ℕ)). (run.0, run.1.0, run.1.1)) ∙ numbered-all runs-at 0 stage.readers in
    record { segments = omega (arith, segments, no_segments, own); runs = omega (arith, runs, no_runs, others) }
