use Rattle.asound_conf.specs.Prelude.{ap, Contents}
use Rattle.asound_conf.proofs.Readers.{new-open, new-start}
use Rattle.asound_conf.proofs.reading.Reading.new.Goals as goal

pub returns : goal.returns
returns c = record {
  start = new-start c.in_ok-new.field-0 c.args.text.now c.new-2.result.items c.new-3.result.items c.in_ok-new.ensures c.new-2.ensures.items c.new-3.ensures.items;
  valid = new-open c.in_ok-new.field-0 c.args.text.now c.new-2.result.items c.new-3.result.items c.in_ok-new.ensures c.new-2.ensures.items c.new-3.ensures.items;
  text = ap (λ (k : Contents). k.text) c.in_ok-new.ensures;
}
