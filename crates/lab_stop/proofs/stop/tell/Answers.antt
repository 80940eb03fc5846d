use Rattle.std.proofs.Common.{◌∙◌, subst}
use Rattle.std.specs.Prelude.{List, ℕ}
use Rattle.lab_shelf.specs.Changes.{TookPart-nothing}
use Rattle.lab_shelf.specs.Files.{TookPart}
use Rattle.lab_stop.specs.Lines.{stop_line}
use Rattle.lab_stop.proofs.Puts.{Counted-most, TookPart-put}
use Rattle.lab_stop.proofs.stop.tell.Goals as goal

pub returns-in-Ok-clause-took : goal.returns-in-Ok-clause-took
returns-in-Ok-clause-took g c =
    subst (λ (line : List ℕ). TookPart (g.E.Sink.taken c.args.errors.now) (g.E.Sink.taken c.put-end.new.self) line)
    (c.as_bytes.ensures.value ∙ c.in-Ok.ensures) (TookPart-put c.put-end.result _ _ _ c.put-end.ensures.ok c.put-end.ensures.err)

pub returns-in-Ok-clause-faults : goal.returns-in-Ok-clause-faults
returns-in-Ok-clause-faults g c = Counted-most c.put-end.result (g.E.Sink.faults c.args.errors.now) (g.E.Sink.faults c.put-end.new.self) c.put-end.ensures.faults

pub returns-in_default-clause-took : goal.returns-in_default-clause-took
returns-in_default-clause-took g c = TookPart-nothing (g.E.Sink.taken c.args.errors.now) (stop_line c.args.stop.now)
