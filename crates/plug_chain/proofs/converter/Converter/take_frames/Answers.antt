use Rattle.plug_chain.specs.Prelude.{ap, arith, drop, length, sym, take, ℕ, [], ◌<◌, ◌∙◌, ◌≡◌, ◌≤◌, err_from_is_err_and, frame_bytes, rest_of, conversion_of}
use Rattle.plug_chain.proofs.Courses.{Extends-trans}
use Rattle.plug_chain.proofs.Cuts.{rest_of-more, rest_of-short}
use Rattle.plug_chain.proofs.Reached.{HasReached-end, HasReached-more}
use Rattle.plug_chain.proofs.converter.Converter.take_frames.Goals as goal

pub take_frame-requires-clause-bytes : goal.take_frame-requires-clause-bytes
take_frame-requires-clause-bytes c = omega (arith, ap length c.split_at.ensures.front, c.frame_bytes-width.ensures.value)

pub returns-in_err-take_frame : goal.returns-in_err-take_frame
returns-in_err-take_frame c =
    let p = err_from_is_err_and c.from_residual.result c.from_residual.ensures.1 in
    record {
      course = rw p.1 tt;
      ok = rw p.1 tt;
      rest = rw p.1 tt;
      grows = Extends-trans c.args.out.now.items c.loop-rest.out.items c.take_frame.new.out.items c.loop-rest.invariant.grows c.in_err-take_frame.ensures.grows;
    }

pub loop-rest-preserved : goal.loop-rest-preserved
loop-rest-preserved c =
    let width : c.frame_bytes-width.result ≡ frame_bytes (conversion_of c.args.self.now) = c.frame_bytes-width.ensures.value in
    let some : 1 ≤ frame_bytes (conversion_of c.args.self.now) = omega (arith, c.frame_bytes-width.ensures.least) in
    let enough : frame_bytes (conversion_of c.args.self.now) ≤ length c.loop-rest.rest.now = omega arith in
    let front : c.split_at.result.0.now ≡ take (frame_bytes (conversion_of c.args.self.now)) c.loop-rest.rest.now = c.split_at.ensures.front ∙ ap (λ (n : ℕ). take n c.loop-rest.rest.now) width in
    let back : c.split_at.result.1.now ≡ drop (frame_bytes (conversion_of c.args.self.now)) c.loop-rest.rest.now = c.split_at.ensures.back ∙ ap (λ (n : ℕ). drop n c.loop-rest.rest.now) width in
    let advances = rw front at c.in_ok-take_frame.ensures.ok in
    record {
      course = c.in_ok-take_frame.ensures.course;
      rest = ap (rest_of (conversion_of c.args.self.now)) back ∙ (sym (rest_of-more (conversion_of c.args.self.now) c.loop-rest.rest.now some enough) ∙ c.loop-rest.invariant.rest);
      reached = λ frames at.
          rw back
          (HasReached-more (conversion_of c.args.self.now) frames c.args.bytes.now c.loop-rest.rest.now c.loop-rest.course c.take_frame.new.course c.args.out.now.items c.loop-rest.out.items c.take_frame.new.out.items some enough
          (c.loop-rest.invariant.reached frames at) advances);
      grows = Extends-trans c.args.out.now.items c.loop-rest.out.items c.take_frame.new.out.items c.loop-rest.invariant.grows c.in_ok-take_frame.ensures.grows;
    }

pub returns-clause-ok : goal.returns-clause-ok
returns-clause-ok c = λ frames at.
    HasReached-end (conversion_of c.args.self.now) frames c.args.bytes.now c.loop-rest.rest.now c.loop-rest.course c.args.out.now.items c.loop-rest.out.items (omega (arith, c.frame_bytes-width.ensures.value)) (c.loop-rest.invariant.reached frames at)

pub returns-clause-rest : goal.returns-clause-rest
returns-clause-rest c =
    let short : length c.loop-rest.rest.now < frame_bytes (conversion_of c.args.self.now) = omega (arith, c.frame_bytes-width.ensures.value) in
    sym (rest_of-short (conversion_of c.args.self.now) c.loop-rest.rest.now short) ∙ c.loop-rest.invariant.rest
