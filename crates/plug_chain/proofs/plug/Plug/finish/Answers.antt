use Rattle.plug_chain.specs.Prelude.{arith, refl, subst, Completes, Stage}
use Rattle.plug_chain.proofs.Courses.{Extends-cut}
use Rattle.plug_chain.proofs.Stages.{Completes-ends}
use Rattle.plug_chain.proofs.plug.Plug.finish.Goals as goal

pub end-requires : goal.end-requires
end-requires c = record { same_channels = refl; begun = c.self.invariant.course.begun; near = c.self.invariant.course.near }

pub returns-in-Ok-clause-ok : goal.returns-in-Ok-clause-ok
returns-in-Ok-clause-ok c =
    subst (λ (s : Stage). Completes s c.args.out.now.items c.end.new.out.items) c.self.view_is
    (Completes-ends c.self.inside.converter c.self.inside.progress c.args.out.now.items c.end.new.out.items c.self.invariant c.in-Ok.ensures.ok)

pub returns-clause-err : goal.returns-clause-err
returns-clause-err c =
    Extends-cut c.args.out.now.items c.end.new.out.items c.truncate.new.self.items c.len-start.result c.in-Err.ensures.grows (omega (arith, c.len-start.ensures)) c.truncate.ensures.items
