use Rattle.lab_stop.specs.EffectLaws.{PutsText-written}
use Rattle.lab_stop.proofs.calls.put.Goals as goal

pub returns : goal.returns
returns g c =
    rw c.written.ensures
    (record {
      puts_text = PutsText-written g.K.Sink _ c.put.result _ _ c.put.ensures.ok c.put.ensures.err c.put.ensures.faults c.put.ensures.reliable
          c.put.ensures.puts;
    })
