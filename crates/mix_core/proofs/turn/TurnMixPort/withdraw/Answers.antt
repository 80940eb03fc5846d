use Rattle.mix_core.specs.Prelude.{ap, refl, ◌+◌, ◌∙◌, to_z-of_z, err_from_is_err_and, w16, SFits, IsLaidBy, held-place, may_in-back, missed-back, TurnLaid-one}
use Rattle.mix_core.specs.Prelude.{a_withdrawal, core_of}
use Rattle.mix_core.proofs.Turning.{lays-late, lays-unmade, lays-unseen, lays-whole}
use Rattle.mix_core.proofs.turn.TurnMixPort.withdraw.Goals as goal

pub returns-in_err-ask-clause-step : goal.returns-in_err-ask-clause-step
returns-in_err-ask-clause-step g c =
    let p = err_from_is_err_and c.from_residual.result c.from_residual.ensures.1 in
    rw p.1
    (lays-unseen g.G.Gate.stops g.G.Gate.asked c.args.self.now _ c.args.gate.now c.ask.new.gate _ (record { name = refl; member = refl; core = refl })
    c.in_err-ask.ensures.asked c.in_err-ask.ensures.answer)

pub late_word-requires-clause-channel : goal.late_word-requires-clause-channel
late_word-requires-clause-channel g c = (held-place (core_of c.args.self.now) c.requires.last.0 c.args.self.now.member c.args.frame c.args.channel c.args.sample c.requires.last.1.0 c.args.self.now.in_range c.requires.last.1.1).channel

pub late_word-requires-clause-ahead : goal.late_word-requires-clause-ahead
late_word-requires-clause-ahead g c = (held-place (core_of c.args.self.now) c.requires.last.0 c.args.self.now.member c.args.frame c.args.channel c.args.sample c.requires.last.1.0 c.args.self.now.in_range c.requires.last.1.1).ahead

pub withdraw-requires-clause-channel : goal.withdraw-requires-clause-channel
withdraw-requires-clause-channel g c = (held-place (core_of c.args.self.now) c.requires.last.0 c.args.self.now.member c.args.frame c.args.channel c.args.sample c.requires.last.1.0 c.args.self.now.in_range c.requires.last.1.1).channel

pub withdraw-requires-clause-before_cursor : goal.withdraw-requires-clause-before_cursor
withdraw-requires-clause-before_cursor g c = (held-place (core_of c.args.self.now) c.requires.last.0 c.args.self.now.member c.args.frame c.args.channel c.args.sample c.requires.last.1.0 c.args.self.now.in_range c.requires.last.1.1).before

pub withdraw-requires-clause-ahead : goal.withdraw-requires-clause-ahead
withdraw-requires-clause-ahead g c = (held-place (core_of c.args.self.now) c.requires.last.0 c.args.self.now.member c.args.frame c.args.channel c.args.sample c.requires.last.1.0 c.args.self.now.in_range c.requires.last.1.1).ahead

pub returns-in-Some-clause-step : goal.returns-in-Some-clause-step
returns-in-Some-clause-step g c =
    lays-late g.G.Gate.stops g.G.Gate.asked c.args.self.now _ c.args.gate.now c.ask.new.gate _ c.in-Some.word (record { name = refl; member = refl; core = refl })
    (held-place (core_of c.args.self.now) c.requires.last.0 c.args.self.now.member c.args.frame c.args.channel c.args.sample c.requires.last.1.0 c.args.self.now.in_range c.requires.last.1.1).channel
    c.in-Some.ensures
    (λ h stands held. missed-back (core_of c.args.self.now) h c.args.self.now.member c.args.frame c.args.channel c.args.sample held c.in-Some.ensures.taken stands)
    c.in_ok-ask.ensures.asked c.in_ok-ask.ensures.answer

pub returns-in_err-ask-2-clause-step : goal.returns-in_err-ask-2-clause-step
returns-in_err-ask-2-clause-step g c =
    let p = err_from_is_err_and c.from_residual-in_err-ask-2.result c.from_residual-in_err-ask-2.ensures.1 in
    rw p.1
    (lays-unmade g.G.Gate.stops g.G.Gate.asked c.args.self.now _ c.args.gate.now c.ask-2.new.gate _ (record { name = refl; member = refl; core = refl }) c.in_default.ensures
    (g.met.G.Gate.asked_composes.joined _ _ _ _ _ _ c.in_ok-ask.ensures.asked c.in_err-ask-2.ensures.asked)
    (c.in_err-ask-2.ensures.answer ∙ ap (λ n. n + 1) c.in_ok-ask.ensures.answer))

pub returns-clause-step : goal.returns-clause-step
returns-clause-step g c =
    let sample : SFits w16 c.args.sample = c.ranges.sample in
    let laid : IsLaidBy (core_of c.args.self.now) c.withdraw.new.self (a_withdrawal c.args.self.now.member c.args.frame c.args.channel c.args.sample) = simp to_z-of_z at c.withdraw.ensures in
    lays-whole g.G.Gate.stops g.G.Gate.asked c.args.self.now _ c.args.gate.now c.ask-2.new.gate _
    (TurnLaid-one c.args.self.now _ _ refl refl refl laid c.in_default.ensures.untaken
    (may_in-back (core_of c.args.self.now) c.args.self.now.member c.args.frame c.args.channel c.args.sample))
    c.in_default.ensures
    (g.met.G.Gate.asked_composes.joined _ _ _ _ _ _ c.in_ok-ask.ensures.asked c.in_ok-ask-2.ensures.asked)
    (c.in_ok-ask-2.ensures.answer ∙ c.in_ok-ask.ensures.answer)
