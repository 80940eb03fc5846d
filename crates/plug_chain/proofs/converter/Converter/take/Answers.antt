use Rattle.plug_chain.specs.Prelude.{ap, arith, length, List, refl, subst, sym, ℕ, [], ◌++◌, ◌<◌, ◌∙◌, ◌∷◌, ◌≡◌, nat_tests, append-nil, nil_from_length}
use Rattle.plug_chain.specs.Prelude.{Advances, frame_bytes, frame_from_bytes, part_bytes, conversion_of}
use Rattle.plug_chain.proofs.Courses.{Extends-refl, Extends-trans}
use Rattle.plug_chain.proofs.Stages.{Continues-full, Continues-short, Continues-whole, on_ok_both, IsStage-empty, IsStage-part, OnOk-err}
use Rattle.plug_chain.proofs.converter.Converter.take.Goals as goal

pub returns-then-is_empty : goal.returns-then-is_empty
returns-then-is_empty c =
    let none : length c.as_slice.result.now ≡ 0 = grind (arith, nat_tests) in
    record {
      stage = c.take_whole.ensures.stage;
      ok =
          on_ok_both c.take_whole.result
          (λ advances part. Continues-whole c.args.self.now c.args.progress.now c.take_whole.new.progress c.args.bytes.now c.args.out.now.items c.take_whole.new.out.items c.requires.table (sym c.as_slice.ensures ∙ nil_from_length c.as_slice.result.now none) advances part)
          c.take_whole.ensures.ok c.take_whole.ensures.part;
      grows = c.take_whole.ensures.grows;
    }

pub returns-then-as_slice-frame_bytes : goal.returns-then-as_slice-frame_bytes
returns-then-as_slice-frame_bytes c =
    let short : length (part_bytes c.fill-rest.new.part) < frame_bytes (conversion_of c.args.self.now) = omega (arith, ap length c.as_slice-2.ensures, c.frame_bytes.ensures.value) in
    let all : part_bytes c.fill-rest.new.part ≡ part_bytes c.args.progress.now.part ++ c.args.bytes.now =
    sym (append-nil (part_bytes c.fill-rest.new.part)) ∙ (ap (λ (xs : List ℕ). part_bytes c.fill-rest.new.part ++ xs) (sym (c.fill-rest.ensures.short short)) ∙ c.fill-rest.ensures.same)
    in
    record {
      stage = IsStage-part c.args.self.now c.args.progress.now (record { part = c.fill-rest.new.part; course = c.args.progress.now.course }) c.requires short refl;
      ok = Continues-short c.args.self.now c.args.progress.now (record { part = c.fill-rest.new.part; course = c.args.progress.now.course }) c.args.bytes.now c.args.out.now.items c.requires.table all short refl;
      grows = Extends-refl c.args.out.now.items;
    }

pub returns : goal.returns
returns c =
    let whole : length (part_bytes c.fill-rest.new.part) ≡ frame_bytes (conversion_of c.args.self.now) = omega (arith, ap length c.as_slice-2.ensures, c.frame_bytes.ensures.value, c.fill-rest.ensures.most) in
    let first =
    subst (λ (xs : List ℕ). Advances c.args.self.now.rates c.args.self.now.table.outputs (frame_from_bytes (conversion_of c.args.self.now) xs ∷ []) c.args.progress.now.course c.take_frame.new.course c.args.out.now.items c.take_frame.new.out.items)
    c.as_slice-3.ensures c.in_ok-take_frame.ensures.ok
    in
    record {
      stage = c.take_whole-2.ensures.stage;
      ok =
          on_ok_both c.take_whole-2.result
          (λ advances part. Continues-full c.args.self.now c.args.progress.now c.take_whole-2.new.progress (part_bytes c.fill-rest.new.part) c.fill-rest.result.now c.args.bytes.now c.take_frame.new.course
          c.args.out.now.items c.take_frame.new.out.items c.take_whole-2.new.out.items c.requires.table c.fill-rest.ensures.same whole first advances part)
          c.take_whole-2.ensures.ok c.take_whole-2.ensures.part;
      grows = Extends-trans c.args.out.now.items c.take_frame.new.out.items c.take_whole-2.new.out.items c.take_frame.ensures.grows c.take_whole-2.ensures.grows;
    }

pub take_whole-requires-clause-stage : goal.take_whole-requires-clause-stage
take_whole-requires-clause-stage c = IsStage-part c.args.self.now c.args.progress.now (record { part = c.args.progress.now.part; course = c.args.progress.now.course }) c.requires c.requires.part refl

pub take_whole-requires-clause-whole : goal.take_whole-requires-clause-whole
take_whole-requires-clause-whole c =
    let none : length c.as_slice.result.now ≡ 0 = grind (arith, nat_tests) in
    sym c.as_slice.ensures ∙ nil_from_length c.as_slice.result.now none

pub fill-rest-requires : goal.fill-rest-requires
fill-rest-requires c = let part = c.requires.part in omega (arith, part)

pub take_frame-requires-clause-bytes : goal.take_frame-requires-clause-bytes
take_frame-requires-clause-bytes c = omega (arith, ap length c.as_slice-2.ensures, ap length c.as_slice-3.ensures, c.frame_bytes.ensures.value, c.fill-rest.ensures.most)

pub take_frame-requires-clause-course : goal.take_frame-requires-clause-course
take_frame-requires-clause-course c = c.requires.course

pub returns-in_err-take_frame : goal.returns-in_err-take_frame
returns-in_err-take_frame c = record {
  stage = OnOk-err _ _ c.from_residual.result c.from_residual.ensures.1;
  ok = OnOk-err _ _ c.from_residual.result c.from_residual.ensures.1;
  grows = c.take_frame.ensures.grows;
}

pub take_whole-requires-2-clause-stage : goal.take_whole-requires-2-clause-stage
take_whole-requires-2-clause-stage c = IsStage-empty c.args.self.now c.args.progress.now (record { part = c.empty-progress.result; course = c.take_frame.new.course }) c.requires c.empty-progress.ensures c.in_ok-take_frame.ensures.course

pub take_whole-requires-2-clause-whole : goal.take_whole-requires-2-clause-whole
take_whole-requires-2-clause-whole c = c.empty-progress.ensures
