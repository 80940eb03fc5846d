use Rattle.plug_chain.specs.Prelude.{ap, arith, FitsSigned, length, rules, sym, ◌∙◌, ◌≡◌, to_z-of_z, w16, bytes_of, wide_sample}
use Rattle.plug_chain.proofs.Bytes.{high_bytes-24, high_bytes-32}
use Rattle.plug_chain.proofs.wide.Wide.sample.Goals as goal

pub returns-in-S24Packed : goal.returns-in-S24Packed
returns-in-S24Packed c =
    let fits : FitsSigned w16 c.read_sample-in-S24Packed.result = search rules in
    let three : length c.args.bytes.now ≡ 3 = c.requires ∙ ap bytes_of c.in-S24Packed.is in
    to_z-of_z w16 c.read_sample-in-S24Packed.result fits
    ∙ (c.read_sample-in-S24Packed.ensures
    ∙ (high_bytes-24 c.args.bytes.now three (λ i. omega (arith, c.type_inv.bytes i))
    ∙ ap (λ from. wide_sample from c.args.bytes.now) (sym c.in-S24Packed.is)))

pub returns-in-S32Le : goal.returns-in-S32Le
returns-in-S32Le c =
    let fits : FitsSigned w16 c.read_sample-in-S32Le.result = search rules in
    let four : length c.args.bytes.now ≡ 4 = c.requires ∙ ap bytes_of c.in-S32Le.is in
    to_z-of_z w16 c.read_sample-in-S32Le.result fits
    ∙ (c.read_sample-in-S32Le.ensures
    ∙ (high_bytes-32 c.args.bytes.now four (λ i. omega (arith, c.type_inv.bytes i))
    ∙ ap (λ from. wide_sample from c.args.bytes.now) (sym c.in-S32Le.is)))
