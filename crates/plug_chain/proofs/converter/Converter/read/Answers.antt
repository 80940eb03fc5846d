use Rattle.plug_chain.specs.Prelude.{ap, arith, drop, FitsSigned, length, length-drop, rules, suc, sym, take, ℕ, [], ◌*◌, ◌++◌, ◌+◌, ◌-◌, ◌<◌, ◌∙◌, ◌∷◌, ◌≡◌}
use Rattle.plug_chain.specs.Prelude.{◌≤◌, length-set, set, take-length, take-suc-set, to_z-of_z, append-nil, w16, samples_in, samples_of, bytes_of, wide_sample}
use Rattle.plug_chain.proofs.Reached.{samples_in-step}
use Rattle.plug_chain.proofs.converter.Converter.read.Goals as goal

pub loop-channel-preserved : goal.loop-channel-preserved
loop-channel-preserved c =
    let fits : FitsSigned w16 c.sample.result = search rules in
    let placed : samples_of c.put.new.self ≡ set (samples_of c.loop-channel.frame) c.loop-channel.channel c.sample.result = simp to_z-of_z at c.put.ensures in
    let low : c.loop-channel.channel + 1 ≤ c.args.self.now.table.inputs = omega (arith, c.loop-channel-test.true, c.inputs-channel-end.ensures.value) in
    let within : c.loop-channel.channel < length (samples_of c.loop-channel.frame) = omega (arith, low, c.loop-channel.invariant.channels) in
    let more : c.args.self.now.table.inputs - c.loop-channel.channel ≡ suc (c.args.self.now.table.inputs - (c.loop-channel.channel + 1)) = omega (arith, low) in
    let grown : take (c.loop-channel.channel + 1) (samples_of c.put.new.self) ≡ take c.loop-channel.channel (samples_of c.loop-channel.frame) ++ c.sample.result ∷ [] =
    ap (take (c.loop-channel.channel + 1)) placed
    ∙ (ap (λ (k : ℕ). take k (set (samples_of c.loop-channel.frame) c.loop-channel.channel c.sample.result)) (let e : c.loop-channel.channel + 1 ≡ suc c.loop-channel.channel = omega arith in e)
    ∙ take-suc-set (samples_of c.loop-channel.frame) c.loop-channel.channel c.sample.result within)
    in
    let width : c.bytes-width.result ≡ bytes_of c.args.self.now.from = c.bytes-width.ensures in
    let front : c.split_at.result.0.now ≡ take (bytes_of c.args.self.now.from) c.loop-channel.rest.now = c.split_at.ensures.front ∙ ap (λ (n : ℕ). take n c.loop-channel.rest.now) width in
    let back : c.split_at.result.1.now ≡ drop (bytes_of c.args.self.now.from) c.loop-channel.rest.now = c.split_at.ensures.back ∙ ap (λ (n : ℕ). drop n c.loop-channel.rest.now) width in
    record {
      channels = ap length placed ∙ (length-set (samples_of c.loop-channel.frame) c.loop-channel.channel c.sample.result ∙ c.loop-channel.invariant.channels);
      left = omega (arith, ap length back, length-drop (bytes_of c.args.self.now.from) c.loop-channel.rest.now, c.loop-channel.invariant.left, ap (λ (n : ℕ). n * bytes_of c.args.self.now.from) more);
      all = rw (grown, back)
          (samples_in-step c.args.self.now.from (c.args.self.now.table.inputs - c.loop-channel.channel) (c.args.self.now.table.inputs - (c.loop-channel.channel + 1))
          c.loop-channel.rest.now (take c.loop-channel.channel (samples_of c.loop-channel.frame))
          (samples_in c.args.self.now.from c.args.self.now.table.inputs c.args.bytes.now) c.sample.result more (c.sample.ensures ∙ ap (wide_sample c.args.self.now.from) front) c.loop-channel.invariant.all);
    }

pub returns : goal.returns
returns c =
    let every : c.loop-channel.channel ≡ c.args.self.now.table.inputs = omega (arith, c.inputs-channel-end.ensures.value) in
    let none : c.args.self.now.table.inputs - c.loop-channel.channel ≡ 0 = omega (arith, every) in
    let whole : take c.loop-channel.channel (samples_of c.loop-channel.frame) ≡ samples_of c.loop-channel.frame =
    ap (λ (n : ℕ). take n (samples_of c.loop-channel.frame)) (every ∙ sym c.loop-channel.invariant.channels) ∙ take-length (samples_of c.loop-channel.frame)
    in
    sym whole
    ∙ (sym (append-nil (take c.loop-channel.channel (samples_of c.loop-channel.frame)))
    ∙ (ap (λ (n : ℕ). take c.loop-channel.channel (samples_of c.loop-channel.frame) ++ samples_in c.args.self.now.from n c.loop-channel.rest.now) (sym none)
    ∙ c.loop-channel.invariant.all))
