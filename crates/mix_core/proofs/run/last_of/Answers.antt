use Rattle.mix_core.specs.Prelude.{ap, arith, drop, get_or, length, pos, subst, sym, [], ◌+◌, ◌-◌, ◌<◌, ◌∙◌, ◌≡◌, drop_more, get_or_default, Entry, an_add}
use Rattle.mix_core.specs.Prelude.{own_entries}
use Rattle.std.proofs.Math.Seq.{drop-length}
use Rattle.mix_core.proofs.Standing.{own-cons_other}
use Rattle.mix_core.proofs.run.last_of.Goals as goal

pub loop-i-init : goal.loop-i-init
loop-i-init c = record { most = omega arith; none_later = ap (own_entries c.args.member) (drop-length c.args.standing.now) }

pub returns-then-standing-i : goal.returns-then-standing-i
returns-then-standing-i c =
    let within : c.loop-i.i - 1 < length c.args.standing.now = omega (arith, c.loop-i-test.true, c.loop-i.invariant.most) in
    let is : (c.loop-i.i - 1) + 1 ≡ c.loop-i.i = omega (arith, c.loop-i-test.true) in
    record {
      within = within;
      of_member = λ d.
          ap (λ (e : Entry). e.member) (get_or_default c.args.standing.now (c.loop-i.i - 1) d (an_add 0 0 0 (pos 0)) within) ∙ c.if-standing-i.true;
      none_later = subst (λ n. own_entries c.args.member (drop n c.args.standing.now) ≡ []) (sym is) c.loop-i.invariant.none_later;
    }

pub loop-i-preserved : goal.loop-i-preserved
loop-i-preserved c =
    let within : c.loop-i.i - 1 < length c.args.standing.now = omega (arith, c.loop-i-test.true, c.loop-i.invariant.most) in
    let is : (c.loop-i.i - 1) + 1 ≡ c.loop-i.i = omega (arith, c.loop-i-test.true) in
    record {
      most = omega (arith, c.loop-i.invariant.most);
      none_later =
          ap (own_entries c.args.member) (drop_more c.args.standing.now (c.loop-i.i - 1) (an_add 0 0 0 (pos 0)) within)
          ∙ (own-cons_other c.args.member (get_or c.args.standing.now (c.loop-i.i - 1) (an_add 0 0 0 (pos 0))) (drop ((c.loop-i.i - 1) + 1) c.args.standing.now) c.if-standing-i.false
          ∙ subst (λ n. own_entries c.args.member (drop n c.args.standing.now) ≡ []) (sym is) c.loop-i.invariant.none_later);
    }
