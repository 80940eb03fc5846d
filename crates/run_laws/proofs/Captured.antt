-- At each stage of a run a reader's frames are captured ones: they rise from the card's first frame, and are before its position.
use Rattle.run_laws.specs.Prelude.{ap, arith, List, None, Option, refl, Some, subst, sym, ℕ, [], ◌+◌, ◌∷◌, ◌≡◌, ◌≤◌, nat_tests, All-contains, All-head, All-map}
use Rattle.run_laws.specs.Prelude.{All-set, All-tail, All, Contains, max, slice_index_or, suc, zero, Geometry, CaptureStream, Actor, Item, Line, Op, Answer}
use Rattle.run_laws.specs.Prelude.{first_frame, ItemsMay, PhaseMay, reader_kinds, reaped_reader, rules_of, LineMay, is_reader, ops_by, played_in, Reader}
use Rattle.run_laws.specs.Prelude.{reader_kind, AtPort, Rules, first_stage, no_reader, reader_at, Session, Stage, reader-IsKind, Border, IsAnew, items-over}
use Rattle.run_laws.specs.Prelude.{OverItems}
use Rattle.lab_run.specs.Reader.{line_by}
use Rattle.run_laws.proofs.Known.{known_at}
use Rattle.run_laws.proofs.Published.{IsBetween, published-between}
use Rattle.run_laws.proofs.ReaderFrames.{IsOwnPast, HasFrames, line-has}
use Rattle.run_laws.proofs.RunGoesOn.{May-low}
use Rattle.run_laws.proofs.Stages.{each-walked}

-- ---- the lines of a reader

-- more is known
later : (first known more : ℕ) (reader : Reader) → known ≤ more → HasFrames first known reader → HasFrames first more reader
later first known more reader low (end, rising, few, past) = (end, rising, omega (arith, low, few), past)

-- a reader within a phase
abbrev IsIn : ℕ → ℕ → ℕ → AtPort × Reader → Type 0
IsIn first begin end (a, reader) = (a.seen ≤ end) × HasFrames first (known_at begin a) reader

line-in : (first begin end phase number : ℕ) (rules : Rules) → All (IsBetween begin end) rules.published → (x y : AtPort × Reader) (asked : Op) (answer : Answer)
    → LineMay (reader_kind phase number) rules x asked y answer → IsIn first begin end x → IsIn first begin end y
line-in first begin end phase number rules between (a, reader) (b, next) asked answer may (low, has) =
    let start : AtPort = (reader_kind phase number).begins reader asked a in
    let same : start.seen ≡ a.seen = (reader-IsKind phase number).seen reader asked a in
    let known : HasFrames first (known_at begin start) reader =
    subst (λ (n : ℕ). HasFrames first n reader) (sym (ap (λ (n : ℕ). max begin n) same)) has in
    let published = λ (q : ℕ) (there : Contains rules.published q). All-contains (IsBetween begin end) rules.published q between there in (
      May-low end rules start b (line_by reader reader.own asked) (next, answer) (λ q there. (published q there).1) (rw same low) may,
      (line-has (λ q there. (published q there).0) first (known_at begin start) reader reader.own asked refl known).by start b (next, answer) refl may,
    )

-- ---- stages

-- a reader between two items, where the card is at a position
abbrev pub IsWithin : ℕ → ℕ → AtPort × Reader → Type 0
IsWithin first position (a, reader) = (a.seen ≤ position) × HasFrames first position reader

-- the readers of a stage
pub record AreWithin (first : ℕ) (stage : Stage) : Type 0 where
  pub low : first ≤ stage.position
  pub each : All (IsWithin first stage.position) stage.readers

-- a phase
enters : (first begin end : ℕ) (x : AtPort × Reader) → begin ≤ end → IsWithin first begin x → IsIn first begin end x
enters first begin end (a, reader) on (low, has) =
    let known : begin ≤ known_at begin a = omega arith in (omega (arith, on, low), later first begin (known_at begin a) reader known has)

leaves : (first begin end : ℕ) (ring : Geometry) (x : AtPort × Reader) → begin ≤ end → IsIn first begin end x → IsWithin first end (reaped_reader ring x)
leaves first begin end ring x on is = grind (arith, nat_tests)

phase-within : (first : ℕ) (session : Session) (stage after : Stage) (lines : List Line) → PhaseMay session stage lines after → AreWithin first stage → AreWithin first after
phase-within first session stage after lines may are = subst (AreWithin first) (sym may.is) (record {
  low = let low : first ≤ stage.position = are.low in omega (arith, low);
  each = All-map (IsWithin first end) (reaped_reader session.ring) may.readers
      (λ k d within. leaves first stage.position end session.ring (slice_index_or may.readers k d) (omega arith)
      (each-walked (reader_kinds stage) (rules_of session stage lines) (no_reader session.ring) (All (IsIn first stage.position end))
      (λ readers n y asked answer low one inside. All-set (IsIn first stage.position end) readers n y
      (line-in first stage.position end (stage.phases + 1) n (rules_of session stage lines) (published-between session.card.period stage.position lines)
      (slice_index_or readers n (no_reader session.ring)) y asked answer one (inside n (no_reader session.ring) low)) inside)
      (λ n. ops_by (is_reader n) lines) [] stage.readers may.readers 0 may.reader_rows refl may.readers_may
      (λ j e inside. enters first stage.position end (slice_index_or stage.readers j e) (omega arith) (are.each j e inside)) k d within));
})
  where
    end : ℕ
    end = stage.position + played_in lines

-- the reader of a number, or one that was never open
All-at : {X : Type 0} (P : X → Type 0) (xs : List X) (n : ℕ) (d : X) → P d → All P xs → P (slice_index_or xs n d)
All-at P [] n d is all = is
All-at P (x ∷ xs) zero d is all = All-head P x xs all
All-at P (x ∷ xs) (suc n) d is all = All-at P xs n d is (All-tail P x xs all)

pub reader_at-within : (first : ℕ) (session : Session) (stage : Stage) (n : ℕ) → AreWithin first stage → IsWithin first stage.position (reader_at session stage n)
reader_at-within first session stage n are =
    All-at (IsWithin first stage.position) stage.readers n (no_reader session.ring) (omega arith, (first, omega arith, are.low, tt)) are.each

-- a reader that was opened doesn't run
past-anew : (ring : Geometry) (end : ℕ) (own : Option CaptureStream) → IsAnew ring own → IsOwnPast end own
past-anew ring end None anew = tt
past-anew ring end (Some r) (setup, is) = rw is (λ runs. absurd (cc))

-- openings and closings
border-within : (first : ℕ) (session : Session) (stage : Stage) (who : Actor) → Border session stage who (λ after. AreWithin first stage → AreWithin first after)
border-within first session stage who = record {
  none = λ card are. are;
  refused = λ lobby row of are. record { low = are.low; each = are.each };
  client = λ n client lobby claims row who_is of segments are. record { low = are.low; each = are.each };
  reader = λ n own anew row who_is of are. let within = reader_at-within first session stage n are in record {
    low = are.low;
    each = All-set (IsWithin first stage.position) stage.readers n _ (omega arith, (within.1.0, within.1.1, within.1.2, past-anew session.ring within.1.0 own anew)) are.each;
  };
}

over-within : (first : ℕ) (session : Session) → OverItems session (λ stage after. AreWithin first stage → AreWithin first after)
over-within first session = record {
  same = λ stage are. are;
  border = border-within first session;
  phase = λ stage after lines may. phase-within first session stage after lines may;
  then = λ x y z one two are. two (one are);
}

pub run-within : (session : Session) (stage : Stage) (items : List Item) → ItemsMay session (first_stage session) items stage → AreWithin (first_frame session.card) stage
run-within session stage items may =
    items-over session (λ stage after. AreWithin (first_frame session.card) stage → AreWithin (first_frame session.card) after) (over-within (first_frame session.card) session) (first_stage session) stage items may (record {
      low = omega arith;
      each = All-map (IsWithin (first_frame session.card) (first_frame session.card)) (λ setup. no_reader session.ring) session.readers (λ k d within. (omega arith, (first_frame session.card, omega arith, omega arith, tt)));
    })
