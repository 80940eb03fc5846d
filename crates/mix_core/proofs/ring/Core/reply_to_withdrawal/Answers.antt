use Rattle.mix_core.specs.Prelude.{ap, get_or, List, subst, sym, true, ℕ, [], ◌∙◌, ◌≡◌, false≢true, is_some, Entry, Kind, IsLaidBy, own_entries, IsLastOf}
use Rattle.mix_core.specs.Prelude.{MayWithdraw}
use Rattle.mix_core.proofs.Replies.{late-taken}
use Rattle.mix_core.proofs.Standing.{AtLast, answered-in, answered-late, answered-none, answered-outside, at_last}
use Rattle.mix_core.proofs.ring.Core.reply_to_withdrawal.Goals as goal

pub returns-in_default-clause-answer : goal.returns-in_default-clause-answer
returns-in_default-clause-answer c =
    answered-none c.args.self.now c.args.standing.now.items c.args.entry.member c.args.entry.frame c.args.entry.channel c.args.entry.sample
    (subst (λ xs. own_entries c.args.entry.member xs ≡ []) c.deref.ensures.value c.in_default.ensures)

-- the standing add that was read is the member's last
at_read : (st xs : List Entry) (m i : ℕ) (x : Entry) → xs ≡ st → IsLastOf xs m i → x ≡ get_or st i x → AtLast st m i x
at_read st xs m i x same last read = subst (AtLast st m i) (sym read) (at_last st m i x (subst (λ ys. IsLastOf ys m i) same last))

pub returns-then-not-may_withdraw-clause-answer : goal.returns-then-not-may_withdraw-clause-answer
returns-then-not-may_withdraw-clause-answer c =
    answered-outside c.args.self.now c.args.standing.now.items c.args.entry c.index.result.now c.in-Some.last
    (at_read _ _ _ _ _ c.deref.ensures.value c.in-Some.ensures c.index.ensures)
    (λ may. absurd (false≢true (sym c.if-not-may_withdraw.true ∙ c.may_withdraw.ensures.1 may)))

as_withdrawal : (e : Entry) (k : Kind) → e.kind ≡ k → e ≡ record { member = e.member; frame = e.frame; channel = e.channel; sample = e.sample; kind = k }
as_withdrawal e k is = ap (λ x. record { member = e.member; frame = e.frame; channel = e.channel; sample = e.sample; kind = x }) is

pub returns-then-is_some-clause-answer : goal.returns-then-is_some-clause-answer
returns-then-is_some-clause-answer c =
    answered-late c.args.self.now c.args.standing.now.items c.args.entry.member c.args.entry.frame c.args.entry.channel c.args.entry.sample c.index.result.now c.in-Some.last
    (at_read _ _ _ _ _ c.deref.ensures.value c.in-Some.ensures c.index.ensures)
    (subst (λ e. MayWithdraw c.args.self.now e c.index.result.now) (as_withdrawal c.args.entry _ c.requires) (c.may_withdraw.ensures.0 c.if-not-may_withdraw.false))
    (late-taken c.args.self.now c.args.entry.frame c.args.entry.channel c.late_word.result (sym c.is_some.ensures ∙ c.if-is_some.true) c.late_word.ensures)

pub returns-clause-answer : goal.returns-clause-answer
returns-clause-answer c =
    rw c.remove.ensures.by_index.2
    (answered-in c.args.self.now c.withdraw.new.self c.args.standing.now.items c.args.entry.member c.args.entry.frame c.args.entry.channel c.args.entry.sample c.index.result.now c.in-Some.last
    (at_read _ _ _ _ _ c.deref.ensures.value c.in-Some.ensures c.index.ensures)
    (subst (λ e. MayWithdraw c.args.self.now e c.index.result.now) (as_withdrawal c.args.entry _ c.requires) (c.may_withdraw.ensures.0 c.if-not-may_withdraw.false))
    (subst (IsLaidBy c.args.self.now c.withdraw.new.self) (as_withdrawal c.args.entry _ c.requires) c.withdraw.ensures))
