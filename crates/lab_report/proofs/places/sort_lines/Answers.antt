use Rattle.lab_report.specs.Prelude.{List, subst, take_all, Line, AreSorted}
use Rattle.lab_report.proofs.Sorting.{AreSorted-more}
use Rattle.lab_report.proofs.places.sort_lines.Goals as goal

pub loop-line-init : goal.loop-line-init
loop-line-init c = λ k within. c.requires k

pub loop-line-preserved : goal.loop-line-preserved
loop-line-preserved c =
    AreSorted-more c.args.phase c.args.lines.now c.loop-line.line-index _ c.loop-line.places c.push_line.new.places c.loop-line-test.true
    c.push_line.auto.places c.loop-line.invariant c.in_ok-push_line.ensures

pub returns : goal.returns
returns c =
    subst (λ (ls : List Line). AreSorted c.args.phase ls c.loop-line.places) (take_all c.loop-line.line-index c.args.lines.now c.loop-line-test.false)
    c.loop-line.invariant
