use Rattle.snoop_table.specs.Prelude.{ap, rules, sym, ◌+◌, ◌∙◌, ◌≡◌, ◌≢◌, to_z-of_z, w16, SFits, lap, laps_of}
use Rattle.std.proofs.lemmas.Result.{err_from_is_err_and}
use Rattle.snoop_core.specs.PortLaws.{asked-more}
use Rattle.snoop_table.proofs.Fetching.{fetching-more, gets-overtaken, gets-stopped}
use Rattle.snoop_table.proofs.port.ReaderSeatSnoopPort.load_frame.Goals as goal

pub returns-in_err-ask-clause-step : goal.returns-in_err-ask-clause-step
returns-in_err-ask-clause-step g c =
    let p = err_from_is_err_and c.from_residual.result c.from_residual.ensures.1 in
    rw p.1
    (gets-stopped g.G.Gate.stops g.G.Gate.asked c.args.self.now c.loop-channel.self c.args.gate.now c.ask.new.gate c.args.frame c.loop-channel.channel _ c.loop-channel.invariant.fetching c.loop-channel-test.true
    (asked-more g.G.Gate.asked g.met.G.Gate.asked_composes _ _ _ c.loop-channel.channel _ c.loop-channel.invariant.asked c.in_err-ask.ensures.asked)
    (c.in_err-ask.ensures.answer ∙ ap (λ n. n + 1) c.loop-channel.invariant.unstopped))

pub returns-then-laps-own_laps-clause-step : goal.returns-then-laps-own_laps-clause-step
returns-then-laps-own_laps-clause-step g c =
    let s = c.args.self.now in
    let other : laps_of c.look-seen.result ≢ lap s.geometry c.args.frame + 1 =
    λ e. c.if-laps-own_laps.true (c.laps.ensures ∙ (e ∙ sym c.loop-channel.invariant.laps)) in
    gets-overtaken g.G.Gate.stops g.G.Gate.asked s c.loop-channel.self _ c.args.gate.now c.ask.new.gate c.args.frame c.loop-channel.channel c.look-seen.result _ c.loop-channel.invariant.fetching c.loop-channel-test.true
    c.look-seen.ensures other
    (asked-more g.G.Gate.asked g.met.G.Gate.asked_composes _ _ _ c.loop-channel.channel _ c.loop-channel.invariant.asked c.in_ok-ask.ensures.asked)
    (c.in_ok-ask.ensures.answer ∙ c.loop-channel.invariant.unstopped)

pub loop-channel-preserved : goal.loop-channel-preserved
loop-channel-preserved g c =
    let s = c.args.self.now in
    let fits : SFits w16 c.sample.result = search rules in
    let own : laps_of c.look-seen.result ≡ lap s.geometry c.args.frame + 1 =
    sym c.laps.ensures ∙ (c.if-laps-own_laps.false ∙ c.loop-channel.invariant.laps) in
    record {
      fetching = fetching-more s c.loop-channel.self c.look-seen.new.self c.args.frame c.loop-channel.channel c.look-seen.result _ _ c.loop-channel.invariant.fetching c.loop-channel-test.true c.look-seen.ensures own (to_z-of_z w16 c.sample.result fits ∙ c.sample.ensures);
      index = c.loop-channel.invariant.index;
      laps = c.loop-channel.invariant.laps;
      unstopped = c.in_ok-ask.ensures.answer ∙ c.loop-channel.invariant.unstopped;
      asked = asked-more g.G.Gate.asked g.met.G.Gate.asked_composes _ _ _ c.loop-channel.channel _ c.loop-channel.invariant.asked c.in_ok-ask.ensures.asked;
    }
