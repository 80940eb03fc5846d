use Rattle.mix_core.specs.Prelude.{ap, refl, Some, sym, true, ◌<◌, ◌∙◌, false≢true, is_some, first_free, MayAdd}
use Rattle.mix_core.proofs.Replies.{IsReplied-late, IsReplied-outside, IsReplied-added, late-taken}
use Rattle.mix_core.proofs.Standing.{answered-other, keeps-add, keeps-nothing}
use Rattle.mix_core.proofs.ring.Core.reply_to_add.Goals as goal

pub returns-then-not-may_add-clause-answer : goal.returns-then-not-may_add-clause-answer
returns-then-not-may_add-clause-answer c =
    answered-other _ _ _ _ _ _ tt
    (IsReplied-outside c.args.self.now c.args.entry (λ may. absurd (false≢true (sym c.if-not-may_add.true ∙ c.may_add.ensures.1 may))))
    (λ rows keeps. keeps-nothing _ rows _ refl keeps)

pub returns-then-is_some-clause-answer : goal.returns-then-is_some-clause-answer
returns-then-is_some-clause-answer c =
    let may : MayAdd c.args.self.now c.args.entry = c.may_add.ensures.0 c.if-not-may_add.false in
    let late : c.args.entry.frame < first_free c.args.self.now.next c.args.entry.channel =
    late-taken c.args.self.now c.args.entry.frame c.args.entry.channel c.late_word.result (sym c.is_some.ensures ∙ c.if-is_some.true) c.late_word.ensures in
    answered-other _ _ _ _ _ _ tt (IsReplied-late c.args.self.now c.args.entry c.requires.kind may late) (λ rows keeps. keeps-nothing _ rows _ refl keeps)

pub returns-clause-answer : goal.returns-clause-answer
returns-clause-answer c =
    let may : MayAdd c.args.self.now c.args.entry = c.may_add.ensures.0 c.if-not-may_add.false in
    let one = IsReplied-added c.args.self.now c.add.new.self c.args.entry c.requires.kind may c.add.ensures in
    answered-other _ _ _ _ _ _ tt one
    (λ rows keeps. rw c.keep.ensures.items (keeps-add _ rows _ c.args.entry (ap (λ k. Some (record { member = c.args.entry.member; frame = c.args.entry.frame; channel = c.args.entry.channel; sample = c.args.entry.sample; kind = k })) (sym c.requires.kind)) c.requires.kind keeps))
