use Rattle.std.proofs.Common.{◌≡◌, ℕ, ◌<◌, ◌∙◌, ap, sym, subst, refl, arith, below_more, length, List, get_or}
use Rattle.std.specs.Prelude.{All, Ok}
use Rattle.bindings.specs.Bound.{AreBindings}
use Rattle.bindings.proofs.Places.{padded-take, take-all}
use Rattle.bindings.specs.AnswerLaws.{AreBindings-none, All-below}
use Rattle.bindings.proofs.Defects.{answer_of-entries, or_first-none, or_first-some}
use Rattle.bindings.proofs.channels.Bindings.read.Goals as goal

pub returns-in-Some-clause-answer : goal.returns-in-Some-clause-answer
returns-in-Some-clause-answer c =
    sym (answer_of-entries c.args.list.now c.args.card_channels (sym c.if-is_empty.ensures) c.if-list-gt8.false
    ∙ or_first-some c.args.list.now c.args.card_channels c.loop-place.place c.in-Some.why c.loop-place-test.true c.loop-place.invariant.1 (sym c.defect.ensures ∙ c.in-Some.is))

pub loop-place-preserved : goal.loop-place-preserved
loop-place-preserved c = (
  padded-take c.args.list.now c.loop-place.channels c.loop-place.place (get_or c.args.list.now c.loop-place.place 0) c.loop-place-test.true (omega arith) refl c.loop-place.invariant.0,
  below_more _ _ c.loop-place.invariant.1 (sym c.in_default.ensures),
)

pub bind-requires : goal.bind-requires
bind-requires c =
    let at_end : c.loop-place.place ≡ length c.args.list.now = omega arith in
    subst AreBindings (sym (take-all c.args.list.now c.loop-place.channels c.loop-place.place at_end c.loop-place.invariant.0))
    (AreBindings-none c.args.list.now c.args.card_channels (sym c.if-is_empty.ensures) c.if-list-gt8.false (omega arith) (λ k h. c.loop-place.invariant.1 k (omega arith)))

pub returns-clause-answer : goal.returns-clause-answer
returns-clause-answer c =
    let at_end : c.loop-place.place ≡ length c.args.list.now = omega arith in
    let list = take-all c.args.list.now c.loop-place.channels c.loop-place.place at_end c.loop-place.invariant.0 in
    ap Ok (c.bind.ensures ∙ list)
    ∙ sym (answer_of-entries c.args.list.now c.args.card_channels (sym c.if-is_empty.ensures) c.if-list-gt8.false
    ∙ or_first-none c.args.list.now c.args.card_channels (λ k h. c.loop-place.invariant.1 k (omega arith)))

pub returns-clause-below : goal.returns-clause-below
returns-clause-below c =
    let at_end : c.loop-place.place ≡ length c.args.list.now = omega arith in
    let list = take-all c.args.list.now c.loop-place.channels c.loop-place.place at_end c.loop-place.invariant.0 in
    let below : List ℕ → Type 0 = All (λ (channel : ℕ). channel < c.args.card_channels) in
    subst below (sym (c.bind.ensures ∙ list)) (All-below c.args.list.now c.args.card_channels (λ k h. c.loop-place.invariant.1 k (omega arith)))
