use Rattle.plug_chain.specs.Prelude.{ap, arith, rules, ◌∙◌, ◌≡◌, samples_of, frame_between}
use Rattle.plug_chain.proofs.Lines.{between-whole}
use Rattle.plug_chain.proofs.rates.Rates.push_frame.Goals as goal

pub returns-then-part-parts-clause-ok : goal.returns-then-part-parts-clause-ok
returns-then-part-parts-clause-ok c =
    let whole : c.args.course.now.place ≡ c.args.self.output = omega (arith, c.output-parts.ensures.value) in
    let e : frame_between c.args.course.now.place c.args.self.output (samples_of c.args.course.now.last) (samples_of c.args.next.now) ≡ samples_of c.args.next.now =
    ap (λ k. frame_between k c.args.self.output (samples_of c.args.course.now.last) (samples_of c.args.next.now)) whole
    ∙ between-whole c.args.self.output (samples_of c.args.course.now.last) (samples_of c.args.next.now) c.output-parts.ensures.bound.some_output c.requires.channels
    in
    rw e (search rules)
