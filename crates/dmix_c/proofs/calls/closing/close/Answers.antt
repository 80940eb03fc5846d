use Rattle.std.proofs.Common.{refl}
use Rattle.dmix_c.proofs.HandleLaws.{Closes-done, Closes-other}
use Rattle.dmix_c.proofs.calls.closing.close.Goals as goal

pub returns-then-not-is : goal.returns-then-not-is
returns-then-not-is c = Closes-other c.args.kind _ _ _ _ c.is.result _ c.in-Some.ensures.value c.deref.ensures c.is.ensures c.if-not-is.true c.put.ensures refl

pub returns : goal.returns
returns c = Closes-done c.args.kind _ _ _ _ c.is.result _ c.in-Some.ensures.value c.deref.ensures c.is.ensures c.if-not-is.false c.in-Some.ensures.closed refl
