use Rattle.lab_report.specs.Prelude.{arith, subst, ℕ, ◌∙◌, take_all, All-more, All, Segment, IsRowInRange, IsRunInRange, IsSegmentInRange}
use Rattle.lab_report.proofs.ranges.numbers_are_in_range.Goals as goal

pub loop-row-preserved : goal.loop-row-preserved
loop-row-preserved c =
    All-more IsRowInRange _ c.loop-row.row-index _ (omega arith) c.loop-row.invariant (record {
      phase = omega arith;
      op = c.read_op.ensures;
      answer = c.read_answer.ensures;
      seen = c.read_seen.ensures;
    })

pub loop-client-preserved : goal.loop-client-preserved
loop-client-preserved c =
    All-more (λ (segment : ℕ × Segment). IsSegmentInRange segment.1) _ c.loop-client._client-index
    (0, record { source = 0; card = 0; whole = 0; part = 0 }) (omega arith) c.loop-client.invariant (record {
      source = omega arith;
      card = omega arith;
      whole = omega arith;
      part = omega arith;
    })

pub loop-reader-preserved : goal.loop-reader-preserved
loop-reader-preserved c =
    All-more IsRunInRange _ c.loop-reader._reader-index (0, 0, 0) (omega arith) c.loop-reader.invariant (omega arith, omega arith)

pub returns : goal.returns
returns c = record {
  rows = subst (All IsRowInRange) (take_all c.loop-row.row-index _ c.loop-row-test.false ∙ c.as_slice-row-items.ensures) c.loop-row.invariant;
  segments = subst (All (λ (segment : ℕ × Segment). IsSegmentInRange segment.1))
      (take_all c.loop-client._client-index _ c.loop-client-test.false ∙ c.as_slice-client-items.ensures) c.loop-client.invariant;
  runs = subst (All IsRunInRange) (take_all c.loop-reader._reader-index _ c.loop-reader-test.false ∙ c.as_slice-reader-items.ensures) c.loop-reader.invariant;
  first = omega arith;
  frames = omega arith;
}
