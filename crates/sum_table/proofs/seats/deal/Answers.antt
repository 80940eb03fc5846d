use Rattle.sum_table.specs.Prelude.{ap, arith, inl, [], ◌∙◌, ◌≡◌, View}
use Rattle.sum_table.proofs.Cuts.{splits}
use Rattle.sum_table.proofs.seats.deal.Goals as goal

pub split_seat-mix-requires : goal.split_seat-mix-requires
split_seat-mix-requires c =
    let v = c.args.first.me.0 in
    let k = c.args.ring.now.key in
    let same_key : v.key ≡ k = ap (λ (m : Rattle.atomic_table.specs.Table.Me _ View). m.0.key) c.requires.first.1 ∙ c.requires.key in
    let nothing : v.laid ≡ [] = ap (λ (m : Rattle.atomic_table.specs.Table.Me _ View). m.0.laid) c.requires.first.1 in
    (c.requires.first.0, omega (arith, c.requires.room), splits k c.args.first.id v 0 v.places same_key (omega arith) (inl nothing))
