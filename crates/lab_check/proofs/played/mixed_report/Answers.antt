use Rattle.lab_check.specs.Prelude.{ap, arith, length, sym, ◌*◌, ◌+◌, ◌<◌, ◌∙◌, ◌≡◌, pos, replicate, placed_from, IsSummed, TotalsFit}
use Rattle.lab_check.proofs.Bounds.{placed_fits}
use Rattle.lab_check.proofs.Saturated.{back, window-played}
use Rattle.lab_check.proofs.played.mixed_report.Goals as goal

pub loop-done-preserved : goal.loop-done-preserved
loop-done-preserved c =
    let script = c.args.script.now in
    let wavs = c.args.wavs.now in
    let report = c.args.report.now in
    let channels = script.card.channels in
    let frames = c.min-frames.result in
    let es = placed_from script wavs report in
    let new = c.add_parts.new.sums in
    let size_is : length new ≡ frames * c.from.result = c.add_parts.ensures.same ∙ c.deref_mut.ensures.len ∙ c.in_ok-sums.ensures.len in
    let size : length new ≡ frames * channels = size_is ∙ ap (λ n. frames * n) c.from.ensures in
    let old_is : c.deref_mut.result.now ≡ replicate (length new) (pos 0) =
    c.deref_mut.ensures.value ∙ c.in_ok-sums.ensures.items_if_clones_equal (λ y e. e) ∙ ap (λ n. replicate n (pos 0)) (sym size_is) in
    let count : c.in_ok-sums.sums.len ≡ length new = sym (c.add_parts.ensures.same ∙ c.deref_mut.ensures.len) in
    let new_is : c.deref.result.now ≡ new = c.deref.ensures.value ∙ back c.in_ok-sums.sums.len new c.in_ok-sums.sums.items count in
    let summed : IsSummed channels (report.first + c.loop-done.done) es (replicate (length c.deref.result.now) (pos 0)) c.deref.result.now =
    rw (c.as_slice.ensures, old_is, sym new_is) at c.add_parts.ensures in
    let within : TotalsFit es = λ frame channel.
    placed_fits c.segments_place_once.ensures script wavs report.segments frame channel c.samples_are_of_16_bits.ensures c.requires.few in
    let some : 0 < channels = c.requires.script.card.channels.low in
    let played = c.in_ok-push_saturated.ensures channels (report.first + c.loop-done.done) es within summed in
    record {
      most = omega (arith, c.min-frames.ensures, c.loop-done.invariant.most);
      items = window-played channels report.first c.loop-done.done frames es c.loop-done.played.items c.push_saturated.new.played.items c.deref.result.now some
          (ap length new_is ∙ size) c.loop-done.invariant.items played;
    }
