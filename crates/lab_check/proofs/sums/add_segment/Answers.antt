use Rattle.lab_check.specs.Prelude.{ap, arith, inl, inr, length, List, subst, sym, ℕ, ◌*◌, ◌+◌, ◌-◌, ◌<◌, ◌∙◌, ◌≡◌, ◌≤◌, ◌⊎◌, nat_tests, flat_map}
use Rattle.lab_check.specs.Prelude.{range_with_len, false, if◌then◌else◌, pos, slice_index_or, true, Entry, frame_entries, frames_taken, IsSummed}
use Rattle.lab_check.proofs.Adding.{samples-fit, all-in, frames-of, nothing-in, one-in, sample_from, places-of}
use Rattle.lab_check.proofs.Summing.{frame_of_segment, places_at}
use Rattle.lab_check.proofs.sums.add_segment.Goals.{then-j-segment, else-j-segment}
use Rattle.lab_check.proofs.sums.add_segment.Goals as goal

pub returns-then-frames-late : goal.returns-then-frames-late
returns-then-frames-late c = λ member.
    let s = c.args.segment.now in
    let b = c.args.bindings in
    let either : (c.args.frames ≤ s.card - c.args.from) ⊎ (frames_taken s ≤ c.args.from - s.card) =
    elim c.then-frames-late.either [
      | inl low ↦ inl (subst (λ n. c.args.frames ≤ n) c.saturating_sub-late.ensures low)
      | inr both ↦ inr (subst (λ n. n ≤ c.args.from - s.card) c.frames_taken-taken.ensures (subst (λ n. c.frames_taken-taken.result ≤ n) c.saturating_sub-skipped.ensures both.1))
    ] in
    subst (λ (es : List Entry). IsSummed c.args.channels c.args.from es c.args.sums.now c.args.sums.now)
    (sym (frames-of member b c.args.samples.now s.source s.card s.whole s.part))
    (nothing-in member b (sample_from member b c.args.samples.now s.source s.card s.whole) s.card s.whole s.part c.args.channels c.args.from c.args.frames (frames_taken s) c.args.sums.now c.requires.sums either)

pub loop-j-preserved : goal.loop-j-preserved
loop-j-preserved c = λ member.
    let s = c.args.segment.now in
    let b = c.args.bindings in
    let sample = sample_from member b c.args.samples.now s.source s.card s.whole in
    let low : c.saturating_sub-skipped.result ≤ c.loop-j.j = c.loop-j.auto.j in
    let places : c.if-j-segment.places ≡ places_at member b sample s.card s.whole s.part c.loop-j.j =
    elim c.if-j-segment.branch [
      | then-j-segment w ↦ w.places-is ∙ w.len-places.ensures.value ∙ sym (places-of s.whole s.part (length b) c.loop-j.j true (grind (arith, nat_tests, w.if-j-segment.true)))
      | else-j-segment w ↦ w.places-is ∙ sym (places-of s.whole s.part (length b) c.loop-j.j false (grind (arith, nat_tests, w.if-j-segment.false)))
    ] in
    let row : c.args.from + (c.saturating_sub-late.result + (c.loop-j.j - c.saturating_sub-skipped.result)) ≡ s.card + c.loop-j.j =
    omega (arith, low, c.saturating_sub-late.ensures, c.saturating_sub-skipped.ensures) in
    let at : (s.source + c.loop-j.j) * c.from-count.result ≡ (s.source + c.loop-j.j) * length b =
    ap (λ n. (s.source + c.loop-j.j) * n) (c.from-count.ensures ∙ c.len.ensures.value) in
    let here : IsSummed c.args.channels c.args.from
    (frame_entries member b (λ q. slice_index_or c.args.samples.now ((s.source + c.loop-j.j) * c.from-count.result + q) (pos 0)) c.if-j-segment.places
    (c.args.from + (c.saturating_sub-late.result + (c.loop-j.j - c.saturating_sub-skipped.result)))) c.loop-j.sums c.add_frame.new.sums
    = c.add_frame.ensures member c.args.from in
    let one : IsSummed c.args.channels c.args.from (frame_of_segment member b sample s.card s.whole s.part c.loop-j.j) c.loop-j.sums c.add_frame.new.sums =
    subst (λ n. IsSummed c.args.channels c.args.from (frame_entries member b (sample c.loop-j.j) n (s.card + c.loop-j.j)) c.loop-j.sums c.add_frame.new.sums) places
    (subst (λ f. IsSummed c.args.channels c.args.from (frame_entries member b (sample c.loop-j.j) c.if-j-segment.places f) c.loop-j.sums c.add_frame.new.sums) row
    (subst (λ (n : ℕ). IsSummed c.args.channels c.args.from (frame_entries member b (λ q. slice_index_or c.args.samples.now (n + q) (pos 0)) c.if-j-segment.places
    (c.args.from + (c.saturating_sub-late.result + (c.loop-j.j - c.saturating_sub-skipped.result)))) c.loop-j.sums c.add_frame.new.sums) at here)) in
    one-in member b sample s.card s.whole s.part c.args.channels c.args.from c.args.frames c.saturating_sub-skipped.result c.loop-j.j c.args.sums.now c.loop-j.sums c.add_frame.new.sums low
    (c.loop-j.invariant member) one

pub returns : goal.returns
returns c = λ member.
    let s = c.args.segment.now in
    let b = c.args.bindings in
    let sample = sample_from member b c.args.samples.now s.source s.card s.whole in
    let taken : c.frames_taken-taken.result ≡ frames_taken s = c.frames_taken-taken.ensures in
    let late : c.saturating_sub-late.result < c.args.frames = c.if-frames-late.false in
    let some : c.saturating_sub-skipped.result < frames_taken s = omega (arith, taken, c.if-taken-skipped.false) in
    let end : c.min-end.result ≡ Rattle.std.specs.Prelude.min (frames_taken s) (c.saturating_sub-skipped.result + (c.args.frames - c.saturating_sub-late.result)) =
    c.min-end.ensures ∙ ap (λ n. Rattle.std.specs.Prelude.min n (c.saturating_sub-skipped.result + (c.args.frames - c.saturating_sub-late.result))) taken in
    let upto : c.saturating_sub-skipped.result ≤ c.min-end.result = omega (arith, end, some) in
    let all : c.loop-j.j ≡ c.min-end.result = omega (arith, c.loop-j-test.false, c.loop-j.auto.j-end upto) in
    subst (λ (es : List Entry). IsSummed c.args.channels c.args.from es c.args.sums.now c.loop-j.sums)
    (sym (frames-of member b c.args.samples.now s.source s.card s.whole s.part))
    (all-in member b sample s.card s.whole s.part c.args.channels c.args.from c.args.frames (frames_taken s) c.saturating_sub-skipped.result c.saturating_sub-late.result c.min-end.result
    c.args.sums.now c.loop-j.sums c.requires.sums c.saturating_sub-skipped.ensures c.saturating_sub-late.ensures late some end
    (subst (λ j. IsSummed c.args.channels c.args.from (flat_map (frame_of_segment member b sample s.card s.whole s.part) (range_with_len c.saturating_sub-skipped.result (j - c.saturating_sub-skipped.result))) c.args.sums.now c.loop-j.sums) all
    (c.loop-j.invariant member)))

pub add_frame-requires-clause-samples : goal.add_frame-requires-clause-samples
add_frame-requires-clause-samples c =
    let s = c.args.segment.now in
    let low : c.loop-j.j < frames_taken s = omega (arith, c.frames_taken-taken.ensures, c.min-end.ensures, c.loop-j-test.true) in
    samples-fit s.source c.loop-j.j (frames_taken s) c.from-count.result (length c.args.bindings) (length c.args.samples.now) low (c.from-count.ensures ∙ c.len.ensures.value) c.requires.samples
