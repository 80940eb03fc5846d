use Rattle.lab_play.specs.Prelude.{rules, CountsNoFault-writes, StoresAndPuts-passed, StoresAndPuts-puts, StoresAndPuts-writes}
use Rattle.lab_play.proofs.run.begin.Goals as goal

pub returns-in_err-begin-clause-stores_and_puts : goal.returns-in_err-begin-clause-stores_and_puts
returns-in_err-begin-clause-stores_and_puts g c =
    StoresAndPuts-passed g.S.Shelf g.K.Sink c.from_residual.result c.in_err-begin.field-0.0 _ _ c.from_residual.ensures.1
    (StoresAndPuts-writes g.S.Shelf g.K.Sink _ _ _ _ c.in_err-begin.ensures.only_writes)

pub returns : goal.returns
returns g c = record {
  going_on = search rules;
  taken = c.put_head.ensures.puts_text.taken;
  changes = search rules;
  text = c.put_head.ensures.puts_text.text;
  stores_and_puts = StoresAndPuts-puts g.S.Shelf g.K.Sink _ _ _ _ _ _ (CountsNoFault-writes g.S.Shelf _ _ _ c.in_ok-begin.ensures.only_writes)
      c.put_head.ensures.puts_text;
  never = λ shelf out. c.put_head.ensures.puts_text.reliable out;
}
