use Rattle.lab_refine.specs.Prelude.{ap, arith, sym, ◌∙◌, on_line}
use Rattle.lab_refine.proofs.AskLines.{Reads-refused, asks_of-more, asks_of-none, asks_of-refused, All-asks, All-read}
use Rattle.lab_refine.proofs.reader.read_asks.Goals as goal

pub returns-in_err-ask-clause-exact : goal.returns-in_err-ask-clause-exact
returns-in_err-ask-clause-exact c =
    Reads-refused _ c.from_residual.result c.in_err-ask.field-0.0 _ c.from_residual.ensures.1
    (sym c.loop-line.invariant.asked
    ∙ asks_of-refused c.loop-line.asks.items _ _ _ _ _ c.in-Some.ensures.line
    (c.in_err-ask.ensures ∙ ap (on_line c.in-Some.line.number) c.read_ask.ensures.value))

pub loop-line-preserved : goal.loop-line-preserved
loop-line-preserved c = record {
  asked =
      asks_of-more c.loop-line.asks.items _ _ _ _ _ _ c.in-Some.ensures.line
      (c.in_ok-ask.ensures ∙ ap (on_line c.in-Some.line.number) c.read_ask.ensures.value) c.in_ok-add.ensures.items
      ∙ c.loop-line.invariant.asked;
  can =
      All-asks _ _ _ c.loop-line.invariant.can (All-read c.in_ok-ask.ask _ _ c.in_ok-ask.ensures c.read_ask.ensures.can)
      c.in_ok-add.ensures.items;
  counted = omega (arith, c.in-Some.ensures.shorter, c.loop-line.invariant.counted);
}

pub returns-clause-exact : goal.returns-clause-exact
returns-clause-exact c = sym c.loop-line.invariant.asked ∙ asks_of-none c.loop-line.asks.items _ c.in_default.ensures.line
