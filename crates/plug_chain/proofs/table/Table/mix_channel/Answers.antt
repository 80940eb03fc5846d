use Rattle.plug_chain.specs.Prelude.{ap, arith, FitsSigned, negsuc, pos, rules, ◌*◌, ◌+◌, ◌∙◌, ◌≡◌, ints, to_z-of_z, int_div_euclid, int_max, int_min, w16, w64}
use Rattle.plug_chain.specs.Prelude.{slice_range, of_z, to_z, ChannelTable, output_channel, row, weighted_sum}
use Rattle.plug_chain.proofs.Sums.{FitsSigned-sum, saturate_signed-is}
use Rattle.plug_chain.proofs.table.Table.mix_channel.Goals as goal

-- the sum is that of the output's row
sum_is : (c : goal.After-clamp) → c.weighted_sum.result ≡ weighted_sum (row c.args.self.now c.args.output) c.args.samples.now
sum_is c =
    c.weighted_sum.ensures.value
    ∙ (ap (λ ws. weighted_sum (slice_range ws (c.args.output * c.self.inside.inputs) (c.args.output * c.self.inside.inputs + c.self.inside.inputs)) c.args.samples.now) c.deref.ensures.value
    ∙ ap (λ (t : ChannelTable). weighted_sum (row t c.args.output) c.args.samples.now) c.self.view_is)

pub returns : goal.returns
unfolding output_channel
returns c =
    let sum_fits : FitsSigned w64 c.weighted_sum.result = FitsSigned-sum 8 c.weighted_sum.result (omega arith) c.weighted_sum.ensures.within in
    let part_fits : FitsSigned w64 c.div_euclid.result = search rules in
    let within : to_z w16 (of_z w16 (to_z w64 (of_z w64 c.clamp.result))) ≡ c.clamp.result = omega (arith, ints, c.clamp.ensures.lower_bound, c.clamp.ensures.upper_bound) in
    let part : to_z w64 (of_z w64 c.div_euclid.result) ≡ int_div_euclid (weighted_sum (row c.args.self.now c.args.output) c.args.samples.now) (pos 65536) =
    to_z-of_z w64 c.div_euclid.result part_fits ∙ (c.div_euclid.ensures ∙ ap (λ z. int_div_euclid z (pos 65536)) (to_z-of_z w64 c.weighted_sum.result sum_fits ∙ sum_is c))
    in
    within ∙ (c.clamp.ensures.value ∙ (ap (λ z. int_max (negsuc 32767) (int_min z (pos 32767))) part ∙ saturate_signed-is (int_div_euclid (weighted_sum (row c.args.self.now c.args.output) c.args.samples.now) (pos 65536))))
