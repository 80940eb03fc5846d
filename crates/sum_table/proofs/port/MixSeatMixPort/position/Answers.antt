use Rattle.sum_table.proofs.Placing.{loads_none, loads_one}
use Rattle.sum_table.proofs.port.MixSeatMixPort.position.Goals as goal

pub returns-in_err-ask-clause-step : goal.returns-in_err-ask-clause-step
returns-in_err-ask-clause-step g c = loads_none g.G.Gate.stops g.G.Gate.asked c.args.self.now _ _ _ c.from_residual.ensures.0 c.in_err-ask.ensures.asked c.in_err-ask.ensures.answer

pub returns-clause-step : goal.returns-clause-step
returns-clause-step g c = loads_one g.G.Gate.stops g.G.Gate.asked c.args.self.now _ _ _ _ c.locate.ensures c.in_ok-ask.ensures.asked c.in_ok-ask.ensures.answer
