use Rattle.plug_chain.specs.Prelude.{ap, arith, FitsSigned, get_or, length, pos, refl, rules, take, [], ◌++◌, ◌+◌, ◌∙◌, ◌∷◌, ◌≡◌, take-length, to_z-of_z, w16}
use Rattle.plug_chain.proofs.Courses.{taken-next}
use Rattle.plug_chain.proofs.interpolation.push_all.Goals as goal

pub loop-sample-preserved : goal.loop-sample-preserved
loop-sample-preserved c =
    let fits : FitsSigned w16 (get_or c.args.samples.now c.loop-sample.sample-index (pos 0)) = search rules in
    let grown : c.push.new.self.items ≡ c.loop-sample.out.items ++ get_or c.args.samples.now c.loop-sample.sample-index (pos 0) ∷ [] = simp to_z-of_z at c.in_ok-push.ensures.items in
    taken-next c.args.out.now.items c.loop-sample.out.items c.push.new.self.items c.args.samples.now c.loop-sample.sample-index (get_or c.args.samples.now c.loop-sample.sample-index (pos 0)) c.loop-sample-test.true c.loop-sample.invariant grown refl

pub returns-clause-ok : goal.returns-clause-ok
returns-clause-ok c =
    let all : c.loop-sample.sample-index ≡ length c.args.samples.now = omega (arith, c.loop-sample-test.false, c.loop-sample.auto.sample-index-end) in
    c.loop-sample.invariant ∙ ap (λ k. c.args.out.now.items ++ take k c.args.samples.now) all ∙ ap (λ xs. c.args.out.now.items ++ xs) (take-length c.args.samples.now)

pub returns-clause-grows : goal.returns-clause-grows
returns-clause-grows c = record { more = take c.loop-sample.sample-index c.args.samples.now; new_is = c.loop-sample.invariant }
