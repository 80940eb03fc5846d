use Rattle.snoop_core.specs.Prelude.{ap, arith, replicate, rules, subst, sym, ◌+◌, ◌<◌, ◌∙◌, ◌≡◌, ◌≢◌, to_z-of_z, w16, SFits, Geometry, lap, Go, Look, core_of}
use Rattle.snoop_core.specs.Prelude.{geometry_of, laps_of}
use Rattle.std.proofs.lemmas.Result.{err_from_is_err_and}
use Rattle.snoop_core.specs.PortLaws.{asked-more}
use Rattle.snoop_core.proofs.Getting.{IsLoading, gets-overtaken, gets-stopped, gets-whole, loading-more}
use Rattle.snoop_core.proofs.turn.SnoopTurnSnoopPort.load_frame.Goals as goal

pub returns-in_err-ask-clause-step : goal.returns-in_err-ask-clause-step
returns-in_err-ask-clause-step g c =
    let p = err_from_is_err_and c.from_residual.result c.from_residual.ensures.1 in
    let in_range : c.loop-channel.channel < (geometry_of (core_of c.args.self.now)).channels =
    subst (λ (k : Geometry). c.loop-channel.channel < k.channels) c.geometry-geometry.ensures c.loop-channel-test.true in
    rw p.1
    (gets-stopped g.G.Gate.stops g.G.Gate.asked c.args.self.now _ c.args.gate.now c.ask.new.gate c.args.frame c.loop-channel.channel _ c.loop-channel.invariant.loading in_range
    (asked-more g.G.Gate.asked g.met.G.Gate.asked_composes _ _ _ c.loop-channel.channel _ c.loop-channel.invariant.asked c.in_err-ask.ensures.asked)
    (c.in_err-ask.ensures.answer ∙ ap (λ n. n + 1) c.loop-channel.invariant.unstopped))

pub returns-then-laps-clause-step : goal.returns-then-laps-clause-step
returns-then-laps-clause-step g c =
    let in_range : c.loop-channel.channel < (geometry_of (core_of c.args.self.now)).channels =
    subst (λ (k : Geometry). c.loop-channel.channel < k.channels) c.geometry-geometry.ensures c.loop-channel-test.true in
    let lap_is : c.lap-laps.result ≡ lap (geometry_of (core_of c.args.self.now)) c.args.frame =
    c.lap-laps.ensures ∙ ap (λ (k : Geometry). lap k c.args.frame) c.geometry-geometry.ensures in
    let other : laps_of c.word-seen.result ≢ lap (geometry_of (core_of c.args.self.now)) c.args.frame + 1 =
    λ e. c.if-laps.true (c.laps.ensures ∙ (e ∙ ap (λ n. n + 1) (sym lap_is))) in
    gets-overtaken g.G.Gate.stops g.G.Gate.asked c.args.self.now _ c.args.gate.now c.ask.new.gate c.args.frame c.loop-channel.channel c.word-seen.result _ c.loop-channel.invariant.loading in_range
    c.word-seen.ensures other
    (asked-more g.G.Gate.asked g.met.G.Gate.asked_composes _ _ _ c.loop-channel.channel _ c.loop-channel.invariant.asked c.in_ok-ask.ensures.asked)
    (c.in_ok-ask.ensures.answer ∙ c.loop-channel.invariant.unstopped)

pub loop-channel-preserved : goal.loop-channel-preserved
loop-channel-preserved g c =
    let fits : SFits w16 c.sample.result = search rules in
    let in_range : c.loop-channel.channel < (geometry_of (core_of c.args.self.now)).channels =
    subst (λ (k : Geometry). c.loop-channel.channel < k.channels) c.geometry-geometry.ensures c.loop-channel-test.true in
    let lap_is : c.lap-laps.result ≡ lap (geometry_of (core_of c.args.self.now)) c.args.frame =
    c.lap-laps.ensures ∙ ap (λ (k : Geometry). lap k c.args.frame) c.geometry-geometry.ensures in
    let own : laps_of c.word-seen.result ≡ lap (geometry_of (core_of c.args.self.now)) c.args.frame + 1 =
    sym c.laps.ensures ∙ (c.if-laps.false ∙ ap (λ n. n + 1) lap_is) in
    record {
      loading = loading-more c.args.self.now _ c.args.frame c.loop-channel.channel c.word-seen.result _ _ in_range c.loop-channel.invariant.loading c.word-seen.ensures own (to_z-of_z w16 c.sample.result fits ∙ c.sample.ensures);
      unstopped = c.in_ok-ask.ensures.answer ∙ c.loop-channel.invariant.unstopped;
      asked = asked-more g.G.Gate.asked g.met.G.Gate.asked_composes _ _ _ c.loop-channel.channel _ c.loop-channel.invariant.asked c.in_ok-ask.ensures.asked;
    }

pub returns-clause-step : goal.returns-clause-step
returns-clause-step g c =
    let end : c.loop-channel.channel ≡ c.geometry-geometry.result.channels = omega (arith, c.loop-channel-test.false, c.loop-channel.auto.channel-end) in
    let all : c.loop-channel.channel ≡ (geometry_of (core_of c.args.self.now)).channels = end ∙ ap (λ (k : Geometry). k.channels) c.geometry-geometry.ensures in
    gets-whole g.G.Gate.stops g.G.Gate.asked c.args.self.now _ c.args.gate.now _ c.args.frame _
    (subst (λ n. IsLoading c.args.self.now c.args.self.now c.args.frame n c.loop-channel.out) all c.loop-channel.invariant.loading)
    c.requires.least c.requires.stored
    (subst (λ n. g.G.Gate.asked c.args.gate.now c.loop-channel.gate (replicate n Look) Go) all c.loop-channel.invariant.asked)
    c.loop-channel.invariant.unstopped
