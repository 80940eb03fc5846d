-- A phase in which no reader has a line leaves all readers as they are.
use Rattle.std.specs.Prelude.{◌≡◌, ℕ, ◌+◌, Bool, cond, List, [], ◌∷◌, map, count_by, Option}
use Rattle.std.proofs.Common.{refl, sym, ap, subst, ◌∙◌, arith}
use Rattle.std.proofs.lemmas.List.Sums.{sum_by-cons}
use Rattle.snoop_table.specs.declared.seats.reader.ReaderSeat.{ReaderSeat}
use Rattle.wav_io.specs.Sound.{Sound}
use Rattle.lab_lines.specs.declared.line.Line.{Line}
use Rattle.lab_lines.specs.declared.line.Op.{Op}
use Rattle.lab_run.specs.Items.{reader_kinds, reaped_reader, reaped_reader_if, rules_of}
use Rattle.lab_run.specs.Lines.{EachMay, LinesMay}
use Rattle.lab_run.specs.Phases.{is_reader, ops_by}
use Rattle.lab_run.specs.Reader.{Reader}
use Rattle.lab_run.specs.Rules.{AtPort}
use Rattle.lab_run.specs.Stage.{Session, Stage}
use Rattle.lab_actors.specs.Walks.{AreEach}
use Rattle.lab_readers.specs.declared.reader.LabReader.{LabReader}
use Rattle.lab_readers.specs.OneReader.{ops_of}
use Rattle.lab_readers.specs.declared.readers.LabReaders.{LabReaders}
use Rattle.lab_readers.specs.AtStage.{AreAt, IsReaderAt, readers_of, spare_of}
use Rattle.lab_readers.specs.Steps.{has_lines, is_some_op}

-- readers do nothing in a phase, and none of them was stopped before it
pub record AreStill (session : Session) (stage : Stage) (lines : List Line)
    (xs : List (AtPort × Reader)) : Type 0 where
  pub may : EachMay (reader_kinds stage) (rules_of session stage lines)
      (λ n. ops_by (is_reader n) lines) 0 xs xs []
  pub reaped : map (reaped_reader session.ring) xs ≡ xs

-- no reader of a list has a line
abbrev AreIdle : List Line → List LabReader → Type 0
AreIdle lines [] = Unit {0}
AreIdle lines (r ∷ rs) = (ops_of r lines ≡ []) × AreIdle lines rs

AreIdle-none : (lines : List Line) (rs : List LabReader) → count_by (has_lines lines) rs ≡ 0 → AreIdle lines rs
AreIdle-none lines [] none = tt
AreIdle-none lines (r ∷ rs) none =
    by_ops (ops_of r lines) refl (sym (sum_by-cons (λ (s : LabReader). cond (has_lines lines s) 1 0) r rs) ∙ none) (AreIdle-none lines rs)
  where
    by_ops : (ops : List Op) → ops_of r lines ≡ ops → cond (is_some_op ops) 1 0 + count_by (has_lines lines) rs ≡ 0 → (count_by (has_lines lines) rs ≡ 0 → AreIdle lines rs)
        → (ops_of r lines ≡ []) × AreIdle lines rs
    by_ops [] is none_busy others = (is, others (omega (arith, none_busy)))
    by_ops (asked ∷ more) is none_busy others = absurd (omega (arith, none_busy))

lines-none : (session : Session) (stage : Stage) (lines : List Line) (number : ℕ) (ops : List Op) (x : AtPort × Reader) → ops ≡ []
    → LinesMay (reader_kinds stage number) (rules_of session stage lines) x ops x []
lines-none session stage lines number ops x none =
    subst (λ (more : List Op). LinesMay (reader_kinds stage number) (rules_of session stage lines) x more x []) (sym none) (refl, refl)

may-still : (session : Session) (stage : Stage) (capture : Option Sound) (spare : ReaderSeat) (lines : List Line) (number : ℕ) (rs : List LabReader) (xs : List (AtPort × Reader))
    → AreEach (IsReaderAt session capture spare session.ring) number rs xs → AreIdle lines rs
    → EachMay (reader_kinds stage) (rules_of session stage lines) (λ n. ops_by (is_reader n) lines) number xs xs []
may-still session stage capture spare lines number [] [] are idle = (refl, refl)
may-still session stage capture spare lines number (r ∷ rs) (x ∷ xs) are idle = (
  x,
  xs,
  [],
  [],
  lines-none session stage lines number (ops_by (is_reader number) lines) x (ap (λ n. ops_by (is_reader n) lines) (sym are.0.is.numbered) ∙ idle.0),
  may-still session stage capture spare lines (number + 1) rs xs are.1 idle.1,
  refl,
  refl,
)
may-still session stage capture spare lines number [] (x ∷ xs) are idle = absurd are
may-still session stage capture spare lines number (r ∷ rs) [] are idle = absurd are

reaped-still : (session : Session) (capture : Option Sound) (spare : ReaderSeat) (number : ℕ) (rs : List LabReader) (xs : List (AtPort × Reader))
    → AreEach (IsReaderAt session capture spare session.ring) number rs xs → map (reaped_reader session.ring) xs ≡ xs
reaped-still session capture spare number [] [] are = refl
reaped-still session capture spare number (r ∷ rs) (x ∷ xs) are =
    ap (λ (b : Bool). reaped_reader_if b session.ring x ∷ map (reaped_reader session.ring) xs) are.0.goes
    ∙ ap (λ (ys : List (AtPort × Reader)). x ∷ ys) (reaped-still session capture spare (number + 1) rs xs are.1)
reaped-still session capture spare number [] (x ∷ xs) are = absurd are
reaped-still session capture spare number (r ∷ rs) [] are = absurd are

-- Where none of the readers has a line in a phase they may stay as they are, with no row, and none is reaped.
pub readers-still : (session : Session) (stage : Stage) (capture : Option Sound) (lines : List Line) (xs : List (AtPort × Reader)) (rs : LabReaders) → AreAt session capture xs rs
    → count_by (has_lines lines) (readers_of rs) ≡ 0 → AreStill session stage lines xs
readers-still session stage capture lines xs rs are none = record {
  may = may-still session stage capture (spare_of rs) lines 0 (readers_of rs) xs are.each (AreIdle-none lines (readers_of rs) none);
  reaped = reaped-still session capture (spare_of rs) 0 (readers_of rs) xs are.each;
}
