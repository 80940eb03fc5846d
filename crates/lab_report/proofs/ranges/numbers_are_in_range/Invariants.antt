-- The numbers of what is read so far are within their types.
use Rattle.lab_report.specs.Prelude.{take, ℕ, All, Segment, IsRowInRange, IsRunInRange, IsSegmentInRange}
use Rattle.lab_report.proofs.ranges.numbers_are_in_range.Given as goal

abbrev pub invariant-loop-row : goal.invariant-loop-row
invariant-loop-row l = All IsRowInRange (take l.row-index l.row-items)

abbrev pub invariant-loop-client : goal.invariant-loop-client
invariant-loop-client l = All (λ (segment : ℕ × Segment). IsSegmentInRange segment.1) (take l._client-index l._client-items)

abbrev pub invariant-loop-reader : goal.invariant-loop-reader
invariant-loop-reader l = All IsRunInRange (take l._reader-index l._reader-items)
