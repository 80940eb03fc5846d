use Rattle.mix_core.specs.Prelude.{ap, refl, ◌+◌, ◌∙◌, to_z-of_z, err_from_is_err_and, w16, SFits, IsLaidBy, may_in-add, TurnLaid-one, an_add, core_of}
use Rattle.mix_core.specs.Prelude.{TurnLaid-composes, TurnLaid-late}
use Rattle.mix_core.proofs.Turning.{lays-late, lays-unmade, lays-unseen, lays-whole}
use Rattle.mix_core.proofs.turn.TurnMixPort.place.Goals as goal

pub returns-in_err-ask-clause-step : goal.returns-in_err-ask-clause-step
returns-in_err-ask-clause-step g c fits =
    let p = err_from_is_err_and c.from_residual.result c.from_residual.ensures.1 in
    rw p.1
    (lays-unseen g.G.Gate.stops g.G.Gate.asked c.args.self.now _ c.args.gate.now c.ask.new.gate _ (record { name = refl; member = refl; core = refl })
    c.in_err-ask.ensures.asked c.in_err-ask.ensures.answer)

pub returns-in-Some-clause-step : goal.returns-in-Some-clause-step
returns-in-Some-clause-step g c fits =
    lays-late g.G.Gate.stops g.G.Gate.asked c.args.self.now _ c.args.gate.now c.ask.new.gate _ c.in-Some.seen (record { name = refl; member = refl; core = refl })
    c.requires.channel c.in-Some.ensures
    (TurnLaid-late c.args.self.now c.args.self.now _ refl refl c.requires.channel c.requires.from_cursor c.requires.ahead c.in-Some.ensures.taken
    (TurnLaid-composes.none c.args.self.now))
    c.in_ok-ask.ensures.asked c.in_ok-ask.ensures.answer

pub returns-in_err-ask-2-clause-step : goal.returns-in_err-ask-2-clause-step
returns-in_err-ask-2-clause-step g c fits =
    let p = err_from_is_err_and c.from_residual-in_err-ask-2.result c.from_residual-in_err-ask-2.ensures.1 in
    rw p.1
    (lays-unmade g.G.Gate.stops g.G.Gate.asked c.args.self.now _ c.args.gate.now c.ask-2.new.gate _ (record { name = refl; member = refl; core = refl }) c.in_default.ensures
    (g.met.G.Gate.asked_composes.joined _ _ _ _ _ _ c.in_ok-ask.ensures.asked c.in_err-ask-2.ensures.asked)
    (c.in_err-ask-2.ensures.answer ∙ ap (λ n. n + 1) c.in_ok-ask.ensures.answer))

pub returns-clause-step : goal.returns-clause-step
returns-clause-step g c fits =
    let sample : SFits w16 c.args.sample = c.ranges.sample in
    let laid : IsLaidBy (core_of c.args.self.now) c.add.new.self (an_add c.args.self.now.member c.args.frame c.args.channel c.args.sample) = simp to_z-of_z at c.add.ensures in
    lays-whole g.G.Gate.stops g.G.Gate.asked c.args.self.now _ c.args.gate.now c.ask-2.new.gate _
    (TurnLaid-one c.args.self.now _ _ refl refl refl laid c.in_default.ensures.untaken
    (may_in-add (core_of c.args.self.now) c.args.self.now.member c.args.frame c.args.channel c.args.sample c.args.self.now.in_range c.requires.channel c.requires.from_cursor c.requires.ahead fits))
    c.in_default.ensures
    (g.met.G.Gate.asked_composes.joined _ _ _ _ _ _ c.in_ok-ask.ensures.asked c.in_ok-ask-2.ensures.asked)
    (c.in_ok-ask-2.ensures.answer ∙ c.in_ok-ask.ensures.answer)
