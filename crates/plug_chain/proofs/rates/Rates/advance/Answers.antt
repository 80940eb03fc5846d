use Rattle.plug_chain.specs.Prelude.{ap, arith, length, refl, [], ◌++◌, ◌+◌, ◌-◌, ◌∙◌, ◌∷◌, ◌≡◌, ◌≤◌, err_from_is_err_and, samples_of, frame_between}
use Rattle.plug_chain.proofs.Courses.{Extends-refl, Extends-trans, IsAdvance-one, IsUnderway-more, IsUnderway-start}
use Rattle.plug_chain.proofs.Places.{output_frame-next}
use Rattle.plug_chain.proofs.rates.Rates.advance.Goals as goal

pub loop-course-init : goal.loop-course-init
loop-course-init c = record {
  same = refl;
  begun = c.requires.begun;
  near = omega arith;
  underway = λ frames at. IsUnderway-start c.args.self (length (samples_of c.args.next.now)) frames (frames ++ samples_of c.args.next.now ∷ []) (samples_of c.args.course.now.last) c.args.course.now.place c.args.out.now.items at;
  grows = Extends-refl c.args.out.now.items;
}

pub loop-course-preserved : goal.loop-course-preserved
loop-course-preserved c =
    let moved : c.from.result ≡ c.args.self.input = c.from.ensures ∙ c.input.ensures.value in
    let within : c.loop-course.course.place ≤ c.args.self.output = omega (arith, c.output.ensures.value, c.from-parts.ensures) in
    let last : samples_of c.loop-course.course.last ≡ samples_of c.args.course.now.last = ap samples_of c.loop-course.invariant.same in
    let grown : c.push_frame.new.out.items ≡ c.loop-course.out.items ++ frame_between c.loop-course.course.place c.args.self.output (samples_of c.args.course.now.last) (samples_of c.args.next.now) =
    c.in_ok-push_frame.ensures.ok ∙ ap (λ xs. c.loop-course.out.items ++ frame_between c.loop-course.course.place c.args.self.output xs (samples_of c.args.next.now)) last
    in
    record {
      same = c.loop-course.invariant.same;
      begun = omega (arith, c.loop-course.invariant.begun);
      near = omega arith;
      underway = λ frames at.
          IsUnderway-more c.args.self (frames ++ samples_of c.args.next.now ∷ []) (length frames) c.loop-course.course.place (c.loop-course.course.place + c.from.result) c.args.out.now.items c.loop-course.out.items c.push_frame.new.out.items
          (frame_between c.loop-course.course.place c.args.self.output (samples_of c.args.course.now.last) (samples_of c.args.next.now)) (c.loop-course.invariant.underway frames at)
          (λ j is. output_frame-next c.args.self (length (samples_of c.args.next.now)) frames (samples_of c.args.next.now) (samples_of c.args.course.now.last) c.args.course.now.place c.loop-course.course.place j
          c.output.ensures.bound at c.requires.same_channels within is)
          grown (omega arith);
      grows = Extends-trans c.args.out.now.items c.loop-course.out.items c.push_frame.new.out.items c.loop-course.invariant.grows c.in_ok-push_frame.ensures.grows;
    }

pub returns-in_err-push_frame : goal.returns-in_err-push_frame
returns-in_err-push_frame c =
    let p = err_from_is_err_and c.from_residual.result c.from_residual.ensures.1 in
    record {
      course = rw p.1 tt;
      ok = rw p.1 tt;
      grows = Extends-trans c.args.out.now.items c.loop-course.out.items c.push_frame.new.out.items c.loop-course.invariant.grows c.in_err-push_frame.ensures.grows;
    }

pub returns-clause-ok : goal.returns-clause-ok
returns-clause-ok c = λ frames at.
    IsAdvance-one c.args.self (length (samples_of c.args.next.now)) frames (samples_of c.args.next.now) (record { last = c.args.next.now; place = c.loop-course.course.place - c.from-parts.result }) c.loop-course.course.place
    c.args.out.now.items c.loop-course.out.items c.output.ensures.bound (c.loop-course.invariant.underway frames at) (omega arith) (omega arith) refl (omega arith)
