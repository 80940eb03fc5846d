use Rattle.plug_chain.specs.Prelude.{ap, arith, FitsSigned, length, map, rules, suc, sym, take, ℕ, [], ◌++◌, ◌+◌, ◌<◌, ◌∙◌, ◌∷◌, ◌≡◌, length-set, set}
use Rattle.plug_chain.specs.Prelude.{take-length, take-suc-set, to_z-of_z, map-range_with_len_more, w16, range_with_len, samples_of, ChannelTable}
use Rattle.plug_chain.specs.Prelude.{output_channel, output_samples}
use Rattle.plug_chain.proofs.table.Table.mix.Goals as goal

pub loop-output-preserved : goal.loop-output-preserved
loop-output-preserved c =
    let fits : FitsSigned w16 c.mix_channel.result = search rules in
    let placed : samples_of c.put.new.self ≡ set (samples_of c.loop-output.frame) c.loop-output.output c.mix_channel.result = simp to_z-of_z at c.put.ensures in
    let outputs : c.self.inside.outputs ≡ c.args.self.now.outputs = ap (λ (t : ChannelTable). t.outputs) c.self.view_is in
    let within : c.loop-output.output < length (samples_of c.loop-output.frame) = omega (arith, c.loop-output.invariant.channels, outputs, c.loop-output-test.true) in
    record {
      channels = ap length placed ∙ (length-set (samples_of c.loop-output.frame) c.loop-output.output c.mix_channel.result ∙ c.loop-output.invariant.channels);
      output_samples = ap (take (c.loop-output.output + 1)) placed
          ∙ (ap (λ (k : ℕ). take k (set (samples_of c.loop-output.frame) c.loop-output.output c.mix_channel.result)) (let e : c.loop-output.output + 1 ≡ suc c.loop-output.output = omega arith in e)
          ∙ (take-suc-set (samples_of c.loop-output.frame) c.loop-output.output c.mix_channel.result within
          ∙ (ap (λ xs. xs ++ c.mix_channel.result ∷ []) c.loop-output.invariant.output_samples
          ∙ (ap (λ x. map (output_channel c.args.self.now c.args.samples.now) (range_with_len 0 c.loop-output.output) ++ x ∷ []) c.mix_channel.ensures
          ∙ sym (map-range_with_len_more (output_channel c.args.self.now c.args.samples.now) 0 c.loop-output.output c.loop-output.output (omega arith))))));
    }

pub returns : goal.returns
unfolding output_samples
returns c =
    let outputs : c.self.inside.outputs ≡ c.args.self.now.outputs = ap (λ (t : ChannelTable). t.outputs) c.self.view_is in
    let all : c.loop-output.output ≡ c.args.self.now.outputs = omega (arith, outputs) in
    let whole : take c.loop-output.output (samples_of c.loop-output.frame) ≡ samples_of c.loop-output.frame =
    ap (λ (n : ℕ). take n (samples_of c.loop-output.frame)) (all ∙ sym c.loop-output.invariant.channels) ∙ take-length (samples_of c.loop-output.frame)
    in
    sym whole ∙ (c.loop-output.invariant.output_samples ∙ ap (λ n. map (output_channel c.args.self.now c.args.samples.now) (range_with_len 0 n)) all)
