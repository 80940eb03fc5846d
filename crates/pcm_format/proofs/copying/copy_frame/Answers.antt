use Rattle.std.proofs.Common.{◌≡◌, ◌<◌, length, Some, ℤ, pos, arith, rules, ap, sym, ◌∙◌, slice_index_or}
use Rattle.std.specs.Prelude.{slice_get, FitsSigned}
use Rattle.std.specs.Int.{w16, cast_signed, cast_unsigned}
use Rattle.std.proofs.lemmas.Int.{to_z-of_z}
use Rattle.std.proofs.lemmas.Option.{slice_get-get_or}
use Rattle.pcm_format.specs.Places.{place_of}
use Rattle.pcm_format.proofs.Frames.{FrameHas-more, FrameOnly-more}
use Rattle.pcm_format.proofs.copying.copy_frame.Goals as goal

pub loop-channel-preserved : goal.loop-channel-preserved
loop-channel-preserved c =
    let x : ℤ = slice_index_or c.args.from.now c.place.result (pos 0) in
    let fits : FitsSigned w16 x = search rules in
    let from_in : c.place.result < length c.args.from.now =
    omega (arith, c.place.ensures, c.requires.from_places c.loop-channel.channel (omega arith))
    in
    let to_in : c.place-in-loop-channel.result < length c.loop-channel.to =
    omega (arith, c.place-in-loop-channel.ensures, c.requires.to_places c.loop-channel.channel (omega arith))
    in
    let is : Some (cast_signed w16 (cast_unsigned w16 x)) ≡ slice_get c.args.from.now (place_of c.args.from_areas.now c.args.first c.loop-channel.channel) =
    ap (λ (z : ℤ). Some z) (to_z-of_z w16 x fits) ∙ (sym (slice_get-get_or c.args.from.now c.place.result (pos 0) from_in) ∙ ap (slice_get c.args.from.now) c.place.ensures)
    in
    record {
      copied = FrameHas-more c.args.to_areas.now c.args.at c.loop-channel.channel c.place-in-loop-channel.result
          (λ d. slice_get c.args.from.now (place_of c.args.from_areas.now c.args.first d)) c.loop-channel.to (cast_signed w16 (cast_unsigned w16 x))
          c.requires.to_frame c.loop-channel-test.true c.place-in-loop-channel.ensures to_in is c.loop-channel.invariant.copied;
      others = FrameOnly-more c.args.to_areas.now c.args.at c.loop-channel.channel c.place-in-loop-channel.result c.args.to.now c.loop-channel.to
          (cast_signed w16 (cast_unsigned w16 x)) c.place-in-loop-channel.ensures c.loop-channel.invariant.others;
    }
