use Rattle.plug_chain.specs.Prelude.{arith, refl, subst, Continues, Stage, stage_of}
use Rattle.plug_chain.proofs.Courses.{Extends-cut}
use Rattle.plug_chain.proofs.plug.Plug.feed.Goals as goal

pub take-requires : goal.take-requires
take-requires c = c.self.invariant

pub invariant_of-self : goal.invariant_of-self
invariant_of-self c = c.in-Ok.ensures.stage

pub returns-in-Ok-clause-ok : goal.returns-in-Ok-clause-ok
returns-in-Ok-clause-ok c =
    subst (λ (s : Stage). Continues s (stage_of c.self.inside.converter c.take.new.progress) c.args.bytes.now c.args.out.now.items c.take.new.out.items) c.self.view_is c.in-Ok.ensures.ok

pub returns-in-Err-clause-err : goal.returns-in-Err-clause-err
returns-in-Err-clause-err c = (
  refl,
  Extends-cut c.args.out.now.items c.take.new.out.items c.truncate.new.self.items c.len-start.result c.in-Err.ensures.grows (omega (arith, c.len-start.ensures)) c.truncate.ensures.items,
)
