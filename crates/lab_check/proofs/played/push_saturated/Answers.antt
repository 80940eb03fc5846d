use Rattle.lab_check.specs.Prelude.{ap, get_or, List, of_z, rules, to_z, w16, [], ◌%◌, ◌++◌, ◌+◌, ◌/◌, ◌∙◌, ◌∷◌, ◌≡◌, int_wrap, pos, ℤ, clamp_of, total}
use Rattle.std.proofs.Common.{w64}
use Rattle.lab_check.proofs.Saturated.{played-more, saturated-total}
use Rattle.lab_check.proofs.played.push_saturated.Goals as goal

pub loop-sum-preserved : goal.loop-sum-preserved
loop-sum-preserved c = λ channels from es within summed.
    let k = c.loop-sum.sum-index in
    let sum = saturated-total channels from es c.args.sums.now k summed c.loop-sum-test.true in
    let read : to_z w64 (of_z w64 (get_or c.args.sums.now k (pos 0))) ≡ get_or c.args.sums.now k (pos 0) = search rules in
    let written : to_z w16 (of_z w16 c.saturate.result) ≡ c.saturate.result = search rules in
    let is : c.saturate.result ≡ clamp_of (total es (from + k / channels) (k % channels)) =
    c.saturate.ensures (total es (from + k / channels) (k % channels)) (within (from + k / channels) (k % channels)) (ap (int_wrap w64) read ∙ sum) in
    c.in_ok-push.ensures.items
    ∙ ap (λ (x : ℤ). c.loop-sum.played.items ++ x ∷ []) written
    ∙ ap (λ (l : List ℤ). l ++ c.saturate.result ∷ []) (c.loop-sum.invariant channels from es within summed)
    ∙ played-more channels from k es c.args.played.now.items c.saturate.result is
