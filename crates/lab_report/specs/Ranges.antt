-- The numbers of a report, each of which is within its type: every report that a program has is such.
use Rattle.std.specs.Prelude.{ℕ, ◌^◌, ◌<◌, ◌≤◌, Option, Some, None, All}
use Rattle.snd_base.specs.declared.errors.PcmError.{PcmError}
use Rattle.snd_base.specs.declared.errors.PcmError.TheVariants.{Xrun, Busy}
use Rattle.snd_base.specs.declared.errors.XrunWhy.{XrunWhy}
use Rattle.snd_base.specs.declared.errors.XrunWhy.TheVariants.{Empty, Already, Avail, Late, Overtaken}
use Rattle.snd_base.specs.declared.places.Segment.{Segment}
use Rattle.lab_lines.specs.declared.line.Op.{Op}
use Rattle.lab_lines.specs.declared.line.Op.TheVariants as op
use Rattle.lab_lines.specs.declared.row.Answer.{Answer}
use Rattle.lab_lines.specs.declared.row.Answer.TheVariants.{Done, Count, Failed}
use Rattle.lab_lines.specs.declared.row.Row.{Row}
use Rattle.lab_lines.specs.declared.report.Report.{Report}

-- a number of 64 bits
abbrev pub IsWide : ℕ → Type 0
IsWide n = n < 2 ^ 64

-- a number of 64 bits, where there is one
abbrev pub IsWideWhere : Option ℕ → Type 0
IsWideWhere None = Unit {0}
IsWideWhere (Some n) = IsWide n

-- the numbers of an xrun are within their types
abbrev pub IsXrunInRange : XrunWhy → Type 0
IsXrunInRange Empty = Unit {0}
IsXrunInRange Already = Unit {0}
IsXrunInRange (Avail avail seen) = IsWide avail
IsXrunInRange (Late frame channel seen) = IsWide frame × (channel ≤ 255)
IsXrunInRange (Overtaken frame channel seen) = IsWide frame × (channel ≤ 255)

-- the numbers of a refusal are within their types
abbrev pub IsErrorInRange : PcmError → Type 0
IsErrorInRange (Xrun why) = IsXrunInRange why
IsErrorInRange (Busy until seen) = IsWideWhere until × IsWide seen
IsErrorInRange other = Unit {0}

-- the numbers of an answer are within their types
abbrev pub IsAnswerInRange : Answer → Type 0
IsAnswerInRange Done = Unit {0}
IsAnswerInRange (Count n) = IsWide n
IsAnswerInRange (Failed error) = IsErrorInRange error

-- the number of an op is within its type
abbrev pub IsOpInRange : Op → Type 0
IsOpInRange (op.Play n) = IsWide n
IsOpInRange (op.Write n) = IsWide n
IsOpInRange (op.Read n) = IsWide n
IsOpInRange (op.Rewind n) = IsWide n
IsOpInRange (op.Die n) = IsWide n
IsOpInRange other = Unit {0}

-- the numbers of a row are within their types
pub record IsRowInRange (row : Row) : Type 0 where
  pub phase : IsWide row.phase
  pub op : IsOpInRange row.op
  pub answer : IsAnswerInRange row.answer
  pub seen : IsWideWhere row.seen

-- the numbers of a segment are within their types
pub record IsSegmentInRange (segment : Segment) : Type 0 where
  pub source : IsWide segment.source
  pub card : IsWide segment.card
  pub whole : IsWide segment.whole
  pub part : segment.part ≤ 255

-- the numbers of a run are within their types
abbrev pub IsRunInRange : (ℕ × ℕ × ℕ) → Type 0
IsRunInRange (reader, first, count) = IsWide first × IsWide count

-- the numbers of a report are within their types
pub record IsReportInRange (report : Report) : Type 0 where
  pub rows : All IsRowInRange report.rows
  pub segments : All (λ (segment : ℕ × Segment). IsSegmentInRange segment.1) report.segments
  pub runs : All IsRunInRange report.runs
  pub first : IsWide report.first
  pub frames : IsWide report.frames
