use Rattle.lab_check.specs.Prelude.{drop, None, ◌+◌, ◌≡◌, end_defect, reads_end, RunsFit, unread_of, with_head}
use Rattle.lab_check.proofs.reads.read_defect.Given as goal

abbrev pub invariant-loop-row : goal.invariant-loop-row
invariant-loop-row l = record {
  line_is : l.line ≡ 2 + l.row-index;
  below : RunsFit (with_head l.rest.head l.rest.more.now);
  left : end_defect (reads_end l.number l.line (unread_of l.rest) (drop l.row-index l.rows)) ≡ end_defect (reads_end l.number 2 (None, l.runs) l.rows);
}
