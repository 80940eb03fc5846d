use Rattle.lab_check.specs.Prelude.{ap, arith, length, of_z, rules, subst, to_z, w16, ◌*◌, ◌+◌, ◌<◌, ◌∙◌, ◌≡◌, ◌≤◌, int_wrap, pos, slice_index, slice_index_or}
use Rattle.lab_check.specs.Prelude.{◌+ℤ◌, rising, length-rising, frame_entries, IsSummed}
use Rattle.std.proofs.Common.{w64}
use Rattle.lab_check.proofs.Summing.{frame-step}
use Rattle.lab_check.proofs.sums.add_frame.Goals as goal

pub loop-place-preserved : goal.loop-place-preserved
loop-place-preserved c = λ member from.
    let b = c.args.bindings in
    let count : length (rising b) ≡ length b = length-rising b c.rising-client.ensures.bound in
    let place : c.loop-place.place < length (rising b) = omega (arith, count, c.loop-place-test.true, c.requires.places) in
    let bound : slice_index b c.rising-client.result < c.args.channels = c.requires.channels c.rising-client.result c.rising-client.ensures.within in
    let channel : c.card_channel-channel.result < c.args.channels = omega (arith, bound, c.card_channel-channel.ensures.value) in
    let row : (c.args.row + 1) * c.args.channels ≤ length c.args.sums.now = c.requires.row in
    let size : length c.loop-place.sums ≡ length c.args.sums.now = c.loop-place.auto.sums in
    let in_sums : c.args.row * c.args.channels + c.card_channel-channel.result < length c.loop-place.sums = omega (arith, row, size, channel) in
    let sum_read : to_z w64 (of_z w64 (slice_index_or c.loop-place.sums (c.args.row * c.args.channels + c.card_channel-channel.result) (pos 0)))
    ≡ slice_index_or c.loop-place.sums (c.args.row * c.args.channels + c.card_channel-channel.result) (pos 0) = search rules in
    let sample_read : to_z w16 (of_z w16 (slice_index_or c.args.samples.now (c.args.at + c.rising-client.result) (pos 0)))
    ≡ slice_index_or c.args.samples.now (c.args.at + c.rising-client.result) (pos 0) = search rules in
    let written : to_z w64 (of_z w64 c.sum_with.result) ≡ c.sum_with.result = search rules in
    let value = written ∙ c.sum_with.ensures
    ∙ ap (λ x. int_wrap w64 (x +ℤ to_z w16 (of_z w16 (slice_index_or c.args.samples.now (c.args.at + c.rising-client.result) (pos 0))))) sum_read
    ∙ ap (λ x. int_wrap w64 (slice_index_or c.loop-place.sums (c.args.row * c.args.channels + c.card_channel-channel.result) (pos 0) +ℤ x)) sample_read in
    frame-step c.args.channels from c.args.row c.loop-place.place c.args.at member c.rising-client.result c.card_channel-channel.result b c.args.samples.now c.args.sums.now c.loop-place.sums (to_z w64 (of_z w64 c.sum_with.result))
    place c.rising-client.ensures.value c.card_channel-channel.ensures.value channel in_sums value (c.loop-place.invariant member from)

pub returns : goal.returns
returns c = λ member from.
    let most : c.args.places ≤ c.loop-place.place = c.loop-place-test.false in
    let all : c.loop-place.place ≡ c.args.places = omega (arith, most, c.loop-place.auto.place-end) in
    subst (λ n. IsSummed c.args.channels from (frame_entries member c.args.bindings (λ q. slice_index_or c.args.samples.now (c.args.at + q) (pos 0)) n (from + c.args.row)) c.args.sums.now c.loop-place.sums) all
    (c.loop-place.invariant member from)
