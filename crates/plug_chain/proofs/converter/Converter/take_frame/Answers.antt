use Rattle.plug_chain.specs.Prelude.{ap, length, pos, ◌∙◌, ◌≡◌, length-replicate, frame_from_bytes, samples_of, output_samples, conversion_of}
use Rattle.plug_chain.proofs.Stages.{length-output_samples, length-samples_in}
use Rattle.plug_chain.proofs.converter.Converter.take_frame.Goals as goal

pub silent-samples-requires : goal.silent-samples-requires
silent-samples-requires c = rw c.inputs.ensures.value c.inputs.ensures.bound.few_inputs

pub read-requires-clause-bytes : goal.read-requires-clause-bytes
read-requires-clause-bytes c = c.requires.bytes

pub read-requires-clause-channels : goal.read-requires-clause-channels
read-requires-clause-channels c = ap length c.silent-samples.ensures ∙ length-replicate c.inputs.result (pos 0) ∙ c.inputs.ensures.value

pub silent-frame-requires : goal.silent-frame-requires
silent-frame-requires c = rw c.outputs.ensures.value c.outputs.ensures.bound.few_outputs

pub returns : goal.returns
returns c =
    let frame : samples_of c.mix.new.frame ≡ frame_from_bytes (conversion_of c.args.self.now) c.args.bytes.now = c.mix.ensures ∙ ap (output_samples c.args.self.now.table) (c.as_slice.ensures ∙ c.read.ensures) in
    let count = ap length c.mix.ensures ∙ length-output_samples c.args.self.now.table c.as_slice.result.now in
    record { course = rw count at c.advance.ensures.course; ok = rw (count, frame) at c.advance.ensures.ok; grows = c.advance.ensures.grows }

pub mix-requires-clause-channels : goal.mix-requires-clause-channels
mix-requires-clause-channels c = ap length c.silent-frame.ensures ∙ length-replicate c.outputs.result (pos 0) ∙ c.outputs.ensures.value

pub mix-requires-clause-samples : goal.mix-requires-clause-samples
mix-requires-clause-samples c = ap length (c.as_slice.ensures ∙ c.read.ensures) ∙ length-samples_in c.args.self.now.from c.args.self.now.table.inputs c.args.bytes.now

pub advance-requires : goal.advance-requires
advance-requires c =
    rw (ap length c.mix.ensures ∙ length-output_samples c.args.self.now.table c.as_slice.result.now) c.requires.course
