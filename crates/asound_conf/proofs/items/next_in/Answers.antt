use Rattle.asound_conf.specs.Prelude.{ap, arith, false, length, List, refl, suc, sym, true, ℕ, ◌+◌, ◌<◌, ◌∙◌, ◌≡◌, ConfRow, entries_from, is_in, row_at}
use Rattle.asound_conf.proofs.Walk.{entries_from-end, entries_from-in, entries_from-out}
use Rattle.asound_conf.proofs.items.next_in.Goals as goal

pub loop-number-init : goal.loop-number-init
loop-number-init c = refl

pub loop-number-preserved : goal.loop-number-preserved
loop-number-preserved c =
    let rows : List ConfRow = c.args.table.now.rows in
    let p : ℕ = c.args.group in
    let n : ℕ = c.loop-number.number in
    let inside : n < length rows = omega (arith, c.len-number-end.ensures, c.loop-number-test.true) in
    let out : is_in p (row_at rows n).parent ≡ false = sym c.is_node_of.ensures ∙ c.if-is_node_of.false in
    let next : suc n ≡ n + 1 = omega arith in
    c.loop-number.invariant ∙ (entries_from-out p n rows inside out ∙ ap (λ (k : ℕ). entries_from p k rows) next)

pub returns-then-is_node_of-clause-some : goal.returns-then-is_node_of-clause-some
returns-then-is_node_of-clause-some c =
    let rows : List ConfRow = c.args.table.now.rows in
    let p : ℕ = c.args.group in
    let n : ℕ = c.loop-number.number in
    let inside : n < length rows = omega (arith, c.len-number-end.ensures, c.loop-number-test.true) in
    let in_group : is_in p (row_at rows n).parent ≡ true = sym c.is_node_of.ensures ∙ c.if-is_node_of.true in
    record { inside = inside; entries = c.loop-number.invariant ∙ entries_from-in p n rows inside in_group }

pub returns-clause-none : goal.returns-clause-none
returns-clause-none c =
    c.loop-number.invariant
    ∙ entries_from-end c.args.group c.loop-number.number c.args.table.now.rows (omega (arith, c.len-number-end.ensures, c.loop-number-test.false))
