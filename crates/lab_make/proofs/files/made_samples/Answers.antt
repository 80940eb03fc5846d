-- A sample is drawn from each word, up to the last.
use Rattle.lab_make.specs.Prelude.{ap, arith, FitsSigned, map, rules, sym, [], ◌++◌, ◌∙◌, ◌∷◌, ◌≡◌, to_z-of_z, range_with_len, advance_zero, multiplier_64}
use Rattle.lab_make.specs.Prelude.{after_words, next_sample}
use Rattle.std.specs.Int.{w16}
use Rattle.lab_make.proofs.Generator.{after_words-next, samples-push}
use Rattle.lab_make.proofs.files.made_samples.Goals as goal

pub loop-index-init : goal.loop-index-init
loop-index-init c = record { samples = c.in_ok-samples.ensures.items; next = sym (advance_zero 64 multiplier_64 c.args.generator.now) }

pub loop-index-preserved : goal.loop-index-preserved
loop-index-preserved c =
    let fits : FitsSigned w16 c.next_sample.result = search rules in
    let pushed : c.push.new.self.items ≡ c.loop-index.samples.items ++ c.next_sample.result ∷ [] =
    c.in_ok-push.ensures.items ∙ ap (λ x. c.loop-index.samples.items ++ x ∷ []) (to_z-of_z w16 c.next_sample.result fits) in
    record {
      samples = samples-push _ _ _ _ _ _ c.loop-index.invariant.samples c.loop-index.invariant.next c.next_sample.ensures.sample pushed;
      next = after_words-next _ _ _ _ c.loop-index.invariant.next c.next_sample.ensures.next;
    }

pub returns : goal.returns
returns c =
    let last : c.loop-index.index ≡ 8192 = omega (arith, c.loop-index-test.false, c.loop-index.auto.index-end) in
    record {
      samples = c.loop-index.invariant.samples ∙ ap (λ n. map (λ index. next_sample (after_words index c.args.generator.now)) (range_with_len 0 n)) last;
      next = c.loop-index.invariant.next ∙ ap (λ n. after_words n c.args.generator.now) last;
    }
