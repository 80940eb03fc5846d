use Rattle.asound_conf.specs.Prelude.{ap, arith, Some, sym, ◌<◌, ◌^◌, ◌∙◌, ◌≤◌, decimal, decimal_of-decimal, hash_by}
use Rattle.asound_conf.proofs.table.hash_of_number.Goals as goal

pub returns : goal.returns
returns c =
    let number = c.args.number in
    let most : number ≤ 18446744073709551615 = omega arith in
    let small : number < 2 ^ 64 = omega arith in
    c.hash_by.ensures ∙ ap (λ n. hash_by c.args.group (Some n) (decimal number)) c.from.ensures ∙ ap (λ o. hash_by c.args.group o (decimal number))
    (sym (decimal_of-decimal 18446744073709551615 number most small))
