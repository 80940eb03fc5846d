use Rattle.plug_chain.specs.Prelude.{ap, arith, length, ◌++◌, ◌+◌, ◌∙◌, ◌≡◌, err_from_is_err_and, samples_of}
use Rattle.plug_chain.proofs.Courses.{Appends-end, Extends-more, Extends-refl, Extends-trans, IsUnderway-more, IsUnderway-start}
use Rattle.plug_chain.proofs.Places.{output_frame-last}
use Rattle.plug_chain.proofs.rates.Rates.end.Goals as goal

pub loop-place-init : goal.loop-place-init
loop-place-init c = record {
  near = omega arith;
  underway = λ frames at. IsUnderway-start c.args.self (length (samples_of c.args.course.last)) frames frames (samples_of c.args.course.last) c.args.course.place c.args.out.now.items at;
  grows = Extends-refl c.args.out.now.items;
}

pub loop-place-preserved : goal.loop-place-preserved
loop-place-preserved c =
    let moved : c.from-place.result ≡ c.args.self.input = c.from-place.ensures ∙ c.input.ensures.value in
    let grown : c.push_all.new.out.items ≡ c.loop-place.out.items ++ samples_of c.args.course.last = c.in_ok-push_all.ensures.ok ∙ ap (λ xs. c.loop-place.out.items ++ xs) c.as_slice.ensures in
    record {
      near = omega arith;
      underway = λ frames at.
          IsUnderway-more c.args.self frames (length frames) c.loop-place.place (c.loop-place.place + c.from-place.result) c.args.out.now.items c.loop-place.out.items c.push_all.new.out.items (samples_of c.args.course.last)
          (c.loop-place.invariant.underway frames at)
          (λ j is. output_frame-last c.args.self (length (samples_of c.args.course.last)) frames (samples_of c.args.course.last) c.args.course.place c.loop-place.place j c.input.ensures.bound at (omega arith) is)
          grown (omega arith);
      grows = Extends-more c.args.out.now.items c.loop-place.out.items c.push_all.new.out.items (samples_of c.args.course.last) c.loop-place.invariant.grows grown;
    }

pub returns-in_err-push_all : goal.returns-in_err-push_all
returns-in_err-push_all c =
    let p = err_from_is_err_and c.from_residual.result c.from_residual.ensures.1 in
    record {
      ok = rw p.1 tt;
      grows = Extends-trans c.args.out.now.items c.loop-place.out.items c.push_all.new.out.items c.loop-place.invariant.grows c.in_err-push_all.ensures.grows;
    }

pub returns-clause-ok : goal.returns-clause-ok
returns-clause-ok c = λ frames at. Appends-end c.args.self frames c.loop-place.place c.args.out.now.items c.loop-place.out.items c.output.ensures.bound (c.loop-place.invariant.underway frames at) (omega arith) (omega arith)
