use Rattle.plug_chain.specs.Prelude.{ap, arith, length, List, ℕ, ◌++◌, ◌∙◌, ◌≡◌, rest_of, part_bytes, conversion_of}
use Rattle.plug_chain.proofs.Cuts.{length-rest_of}
use Rattle.plug_chain.proofs.Stages.{frame_bytes-few, frame_bytes-some}
use Rattle.plug_chain.proofs.converter.Converter.take_whole.Goals as goal

pub extend-requires : goal.extend-requires
extend-requires c =
    omega (
      arith,
      ap length c.requires.whole,
      ap length c.in_ok-rest.ensures.rest,
      frame_bytes-few (conversion_of c.args.self.now) c.requires.stage.table,
      length-rest_of (conversion_of c.args.self.now) c.args.bytes.now (frame_bytes-some (conversion_of c.args.self.now) c.requires.stage.table),
    )

pub returns-clause-stage : goal.returns-clause-stage
returns-clause-stage c =
    let part : part_bytes c.extend.new.self ≡ rest_of (conversion_of c.args.self.now) c.args.bytes.now =
    c.extend.ensures ∙ (ap (λ (xs : List ℕ). xs ++ c.in_ok-rest.rest.now) c.requires.whole ∙ c.in_ok-rest.ensures.rest)
    in
    record {
      table = c.requires.stage.table;
      rates = c.requires.stage.rates;
      part = omega (arith, ap length part, length-rest_of (conversion_of c.args.self.now) c.args.bytes.now (frame_bytes-some (conversion_of c.args.self.now) c.requires.stage.table));
      course = c.in_ok-rest.ensures.course;
    }
