use Rattle.std.proofs.Common.{◌∙◌, ap, sym, length, ℤ}
use Rattle.std.proofs.lemmas.Int.{to_z-of_z}
use Rattle.std.specs.Int.{w16, cast_unsigned, to_be_bytes, to_le_bytes}
use Rattle.pcm_format.specs.declared.format.Format.{Format}
use Rattle.pcm_format.specs.Samples.{bytes_of, bytes_of_sample}
use Rattle.pcm_format.proofs.HighParts.{FitsSigned-above, FitsSigned-shifted, printed-S8, printed-U8, shifted_above-cast}
use Rattle.pcm_format.proofs.sample.print_sample.Goals as goal

pub overflow_cast-sample : goal.overflow_cast-sample
overflow_cast-sample c = FitsSigned-shifted c.args.sample c.ranges.sample

pub overflow_add-bytes : goal.overflow_add-bytes
overflow_add-bytes c = FitsSigned-above c.args.sample c.ranges.sample

pub overflow_cast-bytes : goal.overflow_cast-bytes
overflow_cast-bytes c = shifted_above-cast c.args.sample c.ranges.sample

pub copy_from_slice-requires : goal.copy_from_slice-requires
copy_from_slice-requires c = c.requires ∙ ap bytes_of c.in-S16Le.is ∙ sym (ap length c.to_le_bytes.ensures)

pub copy_from_slice-requires-in-S16Be : goal.copy_from_slice-requires-in-S16Be
copy_from_slice-requires-in-S16Be c = c.requires ∙ ap bytes_of c.in-S16Be.is ∙ sym (ap length c.to_be_bytes.ensures)

pub returns-in-S8 : goal.returns-in-S8
returns-in-S8 c = printed-S8 c.args.format c.args.bytes.now c.args.sample c.cast_unsigned.result c.in-S8.is c.requires c.ranges.sample c.cast_unsigned.ensures

pub returns-in-U8 : goal.returns-in-U8
returns-in-U8 c = printed-U8 c.args.format c.args.bytes.now c.args.sample c.in-U8.is c.requires c.ranges.sample

pub returns-in-S16Le : goal.returns-in-S16Le
returns-in-S16Le c = c.copy_from_slice.ensures.after ∙ c.to_le_bytes.ensures ∙ ap (λ (z : ℤ). to_le_bytes w16 (cast_unsigned w16 z)) (to_z-of_z w16 c.args.sample c.ranges.sample) ∙ ap (λ (f : Format). bytes_of_sample f c.args.sample) (sym c.in-S16Le.is)

pub returns-in-S16Be : goal.returns-in-S16Be
returns-in-S16Be c = c.copy_from_slice-in-S16Be.ensures.after ∙ c.to_be_bytes.ensures ∙ ap (λ (z : ℤ). to_be_bytes w16 (cast_unsigned w16 z)) (to_z-of_z w16 c.args.sample c.ranges.sample) ∙ ap (λ (f : Format). bytes_of_sample f c.args.sample) (sym c.in-S16Be.is)
