use Rattle.lab_actors.specs.Prelude.{ap, arith, ◌+◌, ◌∙◌, bool_byte, is_actor}
use Rattle.lab_actors.proofs.LineCounts.{bool_byte-most, counted-next}
use Rattle.lab_actors.proofs.room.line_count.Goals as goal

pub loop-index-preserved : goal.loop-index-preserved
loop-index-preserved c =
    let before = c.loop-index.invariant in
    record {
      value = ap (λ n. n + bool_byte c.is_of.result) before.value
          ∙ counted-next (is_actor c.args.actor) c.args.lines.now c.loop-index.index c.loop-index-test.true c.is_of.result c.is_of.ensures;
      most = let few = before.most in let one = bool_byte-most c.is_of.result in omega (arith, few, one);
    }
