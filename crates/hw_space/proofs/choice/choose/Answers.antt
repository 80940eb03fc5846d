-- Each step goes on with the choice, or ends it; after the last the parameters are points.
use Rattle.hw_space.specs.Prelude.{arith, err_from_is_err_and, None, Some, IsNonEmpty-le, Channels, choices}
use Rattle.hw_space.proofs.PointLaws.{Chooses-next, Chooses-stop, Chooses-end, HasPoints-Chooses, IsChoice-err}
use Rattle.hw_space.proofs.choice.choose.Goals as goal

pub returns-in_err-take : goal.returns-in_err-take
returns-in_err-take c =
    let p = err_from_is_err_and c.from_residual.result c.from_residual.ensures.1 in
    IsChoice-err c.args.ranges.now c.args.period c.from_residual.result p.0 p.1
    (c.loop-choice.invariant.so_far None
    (Chooses-stop (choices c.args.period) c.loop-choice.choice-index _ c.loop-choice.chosen c.loop-choice-test.true c.in_err-take.ensures.makes))

pub loop-choice-preserved : goal.loop-choice-preserved
loop-choice-preserved c = record {
  so_far = λ o rest.
      c.loop-choice.invariant.so_far o
      (Chooses-next (choices c.args.period) c.loop-choice.choice-index _ c.loop-choice.chosen c.take.new.ranges o c.loop-choice-test.true
      c.in_ok-take.ensures.makes rest);
  proper = c.in_ok-take.ensures.proper;
}

pub overflow_cast-result : goal.overflow_cast-result
overflow_cast-result c =
    let proper = c.loop-choice.invariant.proper in
    let order = IsNonEmpty-le c.loop-choice.chosen.channels (proper.filled Channels) in
    omega (arith, proper.channels, order)

pub returns : goal.returns
returns c =
    let chosen = c.loop-choice.invariant.so_far (Some c.loop-choice.chosen)
    (Chooses-end (choices c.args.period) c.loop-choice.choice-index c.loop-choice.chosen c.loop-choice-test.false) in
    (c.loop-choice.chosen, chosen, HasPoints-Chooses c.args.ranges.now c.loop-choice.chosen c.args.period c.requires chosen)
