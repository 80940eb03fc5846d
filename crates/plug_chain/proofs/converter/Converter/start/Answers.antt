use Rattle.plug_chain.specs.Prelude.{ap, arith, length, subst, [], samples_of, IsCourse, IsRateAt, conversion_of}
use Rattle.plug_chain.proofs.Stages.{HasTakenBytes-none, frame_bytes-some}
use Rattle.plug_chain.proofs.converter.Converter.start.Goals as goal

pub returns-clause-stage : goal.returns-clause-stage
returns-clause-stage c = record {
  table = c.outputs.ensures.bound;
  rates = c.start.ensures.rates;
  part = omega (arith, frame_bytes-some (conversion_of c.args.self.now) c.outputs.ensures.bound, ap length c.empty.ensures);
  course = subst (λ channels. IsCourse c.args.self.now.rates channels (samples_of c.start.result.last) c.start.result.place) c.outputs.ensures.value c.start.ensures.course;
}

pub returns-clause-nothing : goal.returns-clause-nothing
returns-clause-nothing c =
    HasTakenBytes-none c.args.self.now (record { part = c.empty.result; course = c.start.result }) c.outputs.ensures.bound c.empty.ensures
    (subst (λ channels. IsRateAt c.args.self.now.rates channels [] (samples_of c.start.result.last) c.start.result.place) c.outputs.ensures.value c.start.ensures.empty)
