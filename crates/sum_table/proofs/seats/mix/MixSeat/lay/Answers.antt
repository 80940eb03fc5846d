use Rattle.sum_table.specs.Prelude.{add-one, ap, arith, refl, subst, suc, sym, [], ◌+◌, ◌∙◌, ◌∷◌, ◌≡◌, ◌≢◌, to_z-of_z, length-append, w16, lap, lap_of, Go}
use Rattle.sum_table.specs.Prelude.{Exchange, Look, placement_asks}
use Rattle.sum_table.proofs.Placing.{asked_again, at_lay, first_trying, found_more, found_none, laid_as, late_lays, stopped_lays, trying_on, whole_lays}
use Rattle.sum_table.proofs.seats.mix.MixSeat.lay.Goals as goal

pub returns-in_default : goal.returns-in_default
returns-in_default g c =
    stopped_lays 1 (found_none c.args.self.now c.args.frame c.args.channel) refl (omega arith) (λ _. refl) c.in_default.ensures.asked c.in_default.ensures.answer
    (omega arith) (omega arith)

pub look-word-requires : goal.look-word-requires
look-word-requires g c = record { channel = (at_lay c.args.self.now c.args.kind c.args.frame c.args.channel c.args.sample c.requires.may).channel; spot = c.requires.spot }

pub returns-then-lap-spot : goal.returns-then-lap-spot
returns-then-lap-spot g c =
    let other : lap_of c.look-word.result ≢ lap c.args.self.now.key.geometry c.args.frame = λ same. c.if-lap-spot.true (c.lap.ensures.lap ∙ (same ∙ sym c.requires.spot.spot.lap_is)) in
    late_lays 1 (found_none c.args.self.now c.args.frame c.args.channel) c.look-word.ensures.noted c.requires.may other refl (λ _. refl)
    c.in-Ok.ensures.asked c.in-Ok.ensures.answer c.look-word.ensures.ticks (omega arith)

pub returns-in_default-ask : goal.returns-in_default-ask
returns-in_default-ask g c =
    let s = c.args.self.now in
    let same : lap_of c.look-word.result ≡ lap s.key.geometry c.args.frame = sym c.lap.ensures.lap ∙ (c.if-lap-spot.false ∙ c.requires.spot.spot.lap_is) in
    let trying = first_trying s c.look-word.new.self c.args.frame c.args.channel c.look-word.result c.args.steps.now c.look-word.new.steps c.look-word.ensures.noted
    (at_lay s c.args.kind c.args.frame c.args.channel c.args.sample c.requires.may) same c.look-word.ensures.ticks in
    stopped_lays 2 trying.found trying.number (omega arith) (λ before. absurd (omega (arith, before, trying.not_before)))
    (g.met.G.Gate.asked_composes.joined _ _ _ (Look ∷ []) (Exchange ∷ []) _ c.in-Ok.ensures.asked c.in_default-ask.ensures.asked)
    (c.in_default-ask.ensures.answer ∙ ap (λ n. n + 1) c.in-Ok.ensures.answer) c.look-word.ensures.ticks (omega arith)

pub loop-found-init : goal.loop-found-init
loop-found-init g c =
    let s = c.args.self.now in
    let same : lap_of c.look-word.result ≡ lap s.key.geometry c.args.frame = sym c.lap.ensures.lap ∙ (c.if-lap-spot.false ∙ c.requires.spot.spot.lap_is) in
    record {
      lost = 0;
      trying = first_trying s c.look-word.new.self c.args.frame c.args.channel c.look-word.result c.args.steps.now c.look-word.new.steps c.look-word.ensures.noted
          (at_lay s c.args.kind c.args.frame c.args.channel c.args.sample c.requires.may) same c.look-word.ensures.ticks;
      unstopped = c.in-Ok-ask.ensures.answer ∙ c.in-Ok.ensures.answer;
      asked = g.met.G.Gate.asked_composes.joined _ _ _ (Look ∷ []) (Exchange ∷ []) _ c.in-Ok.ensures.asked c.in-Ok-ask.ensures.asked;
    }

pub returns-in_default-exchange : goal.returns-in_default-exchange
returns-in_default-exchange g c =
    let is = c.loop-found.invariant.trying in
    whole_lays (suc (suc c.loop-found.invariant.lost)) is.found
    (laid_as c.args.self.now c.loop-found.self c.exchange.new.self c.args.kind c.args.frame c.args.channel _ c.args.sample is.found.goes.member (to_z-of_z w16 c.args.sample c.ranges.sample) c.in_default-exchange.ensures.ok)
    is.not_before (omega (arith, is.number)) (omega arith) c.loop-found.invariant.asked c.loop-found.invariant.unstopped (omega (arith, c.exchange.ensures.ticks, is.ticked)) (omega (arith, is.counted, is.room))

pub returns-then-lap-spot-2 : goal.returns-then-lap-spot-2
returns-then-lap-spot-2 g c =
    let is = c.loop-found.invariant.trying in
    let other : lap_of c.in-Err.found ≢ lap c.args.self.now.key.geometry c.args.frame = λ same. c.if-lap-spot-2.true (c.lap-in-loop-found.ensures.lap ∙ (same ∙ sym c.requires.spot.spot.lap_is)) in
    late_lays (suc (suc c.loop-found.invariant.lost)) is.found c.in-Err.ensures.err.noted c.requires.may other (omega (arith, is.number)) (λ before. absurd (omega (arith, before, is.not_before)))
    c.loop-found.invariant.asked c.loop-found.invariant.unstopped (omega (arith, c.exchange.ensures.ticks, is.ticked)) (omega (arith, is.counted, is.room))

pub returns-in_default-ask-2 : goal.returns-in_default-ask-2
returns-in_default-ask-2 g c =
    let is = c.loop-found.invariant.trying in
    stopped_lays (suc (suc (suc c.loop-found.invariant.lost)))
    (found_more c.args.self.now c.loop-found.self c.exchange.new.self c.args.frame c.args.channel c.in-Err.found is.words is.found c.in-Err.ensures.err.noted)
    (omega (arith, is.number, length-append is.words (c.in-Err.found ∷ []))) (omega arith) (λ before. absurd (omega (arith, before, is.not_before)))
    (asked_again g.G.Gate.asked g.met.G.Gate.asked_composes _ _ _ c.loop-found.invariant.lost _ c.loop-found.invariant.asked c.in_default-ask-2.ensures.asked)
    (c.in_default-ask-2.ensures.answer ∙ ap (λ n. n + 1) c.loop-found.invariant.unstopped) (omega (arith, c.exchange.ensures.ticks, is.ticked)) (omega (arith, is.counted, is.room))

pub loop-found-preserved : goal.loop-found-preserved
loop-found-preserved g c =
    let s = c.args.self.now in
    let same : lap_of c.in-Err.found ≡ lap s.key.geometry c.args.frame = sym c.lap-in-loop-found.ensures.lap ∙ (c.if-lap-spot-2.false ∙ c.requires.spot.spot.lap_is) in
    record {
      lost = c.loop-found.invariant.lost + 1;
      trying = trying_on s c.loop-found.self c.exchange.new.self c.args.frame c.args.channel c.loop-found.word c.in-Err.found c.loop-found.invariant.lost c.args.steps.now c.loop-found.steps c.exchange.new.steps c.loop-found.invariant.trying c.in-Err.ensures.err
          (at_lay s c.args.kind c.args.frame c.args.channel c.args.sample c.requires.may) same c.exchange.ensures.ticks;
      unstopped = c.in-Ok-ask-2.ensures.answer ∙ c.loop-found.invariant.unstopped;
      asked = subst (λ n. g.G.Gate.asked c.args.gate.now c.ask-in-loop-found.new.gate (placement_asks (suc (suc n))) Go) (sym (add-one c.loop-found.invariant.lost))
          (asked_again g.G.Gate.asked g.met.G.Gate.asked_composes _ _ _ c.loop-found.invariant.lost _ c.loop-found.invariant.asked c.in-Ok-ask-2.ensures.asked);
    }
