use Rattle.dmix_client.specs.Prelude.{subst, sym, Answered, KeepsAccepted}
use Rattle.dmix_client.proofs.Ends.{KeepsAccepted-after_start}
use Rattle.dmix_client.proofs.Looking.{starts-by}
use Rattle.dmix_client.proofs.control.begin.Goals as goal

pub returns-clause-takes : goal.returns-clause-takes
returns-clause-takes g c =
    let found = c.look_and_start-found.result in
    rw (← c.cursor-cursor.ensures.value) (starts-by g.P.MixPort g.G.Gate _ _ c.args.stream.now c.args.state c.cursor-cursor.result c.args.upto c.args.ring.now
    found.load found.commit (c.after_start-answer.new.stream, c.after_start-answer.result) c.look_and_start-found.ensures.takes (sym c.after_start-answer.ensures))

pub returns-clause-same : goal.returns-clause-same
returns-clause-same g c =
    let found = c.look_and_start-found.result in
    subst (λ (a : Answered (Unit {0})). KeepsAccepted c.args.stream.now a.0) (sym c.after_start-answer.ensures)
    (KeepsAccepted-after_start c.args.stream.now c.args.state c.cursor-cursor.result found.load found.commit)
