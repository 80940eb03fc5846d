use Rattle.std.proofs.Common.{ℕ, ◌%◌, List, ℤ, length, Ok, ap, sym, ◌∙◌, arith}
use Rattle.lab_input.proofs.Plugging.{IsConverting-ended, IsConverting-whole}
use Rattle.lab_input.proofs.plug.PlugReader.finish.Goals as goal

pub invariant_of-result : goal.invariant_of-result
invariant_of-result c =
    let head = c.in_ok-finish.field-0 in
    let so_far = c.requires.converting in
    record {
      some_channel = omega (arith, c.from.ensures, so_far.shape.some_channel);
      few_channels = omega (arith, c.from.ensures, so_far.shape.few_channels);
      some_rate = so_far.shape.some_rate;
      whole =
          ap (λ (zs : List ℤ). length zs % c.from.result) c.from_vec.ensures
          ∙ ap (λ (n : ℕ). length c.in_ok-samples.samples.items % n) c.from.ensures
          ∙ IsConverting-whole c.args.self c.requires.seen head.channels head.rate head.bits c.in_ok-samples.samples.items head.some_rate so_far
          c.in_ok-samples.ensures.some c.in_ok-samples.ensures.none c.in_ok-finish.ensures.ok;
    }

pub returns : goal.returns
returns c seen so_far =
    let head = c.in_ok-finish.field-0 in
    IsConverting-ended c.args.self seen head.channels head.rate head.bits c.in_ok-samples.samples.items head.some_rate so_far
    c.in_ok-samples.ensures.some c.in_ok-samples.ensures.none c.in_ok-finish.ensures.ok
    ∙ ap (λ (n : ℕ). Ok (record { channels = n; rate = c.args.self.shape.rate; samples = c.in_ok-samples.samples.items })) (sym c.from.ensures)
    ∙ ap (λ (zs : List ℤ). Ok (record { channels = c.from.result; rate = c.args.self.shape.rate; samples = zs })) (sym c.from_vec.ensures)
