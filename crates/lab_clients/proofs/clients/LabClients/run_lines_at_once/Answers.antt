use Rattle.lab_clients.specs.Prelude.{arith, length, List, subst, sym, ◌≡◌, ◌≤◌, LabClient, AreReady, AreSameFrom, RunsAt}
use Rattle.lab_clients.proofs.Lent.{AreEach-lent}
use Rattle.lab_clients.proofs.clients.LabClients.run_lines_at_once.Goals as goal

pub run_at_once-requires-clause-gates : goal.run_at_once-requires-clause-gates
run_at_once-requires-clause-gates g c κs within = subst (λ (ds : List LabClient). length ds ≤ length c.args.gates.now) (sym c.as_mut_slice.ensures.value) c.requires.gates

pub run_at_once-requires-clause-files : goal.run_at_once-requires-clause-files
run_at_once-requires-clause-files g c κs within = subst (λ (ds : List LabClient). length c.args.wavs.now ≡ length ds) (sym c.as_mut_slice.ensures.value) c.requires.files

pub run_at_once-requires-clause-ready : goal.run_at_once-requires-clause-ready
run_at_once-requires-clause-ready g c κs within = subst (λ (ds : List LabClient). AreReady c.args.wavs.now c.args.lines.now ds) (sym c.as_mut_slice.ensures.value) c.requires.ready

pub returns-clause-run : goal.returns-clause-run
returns-clause-run g c =
    let same = c.run_at_once.auto.clients in
    let len = c.as_mut_slice.ensures.len in
    AreEach-lent (RunsAt g.G.Gate c.args.gates.now c.run_at_once.new.gates c.args.wavs.now c.args.phase c.args.lines.now) _ _ c.run_at_once.new.clients _ c.as_mut_slice.ensures.value
    (omega (arith, same, len)) c.run_at_once.ensures.run

pub returns-clause-others : goal.returns-clause-others
returns-clause-others g c =
    subst (λ (ds : List LabClient). AreSameFrom (length ds) c.args.gates.now c.run_at_once.new.gates) c.as_mut_slice.ensures.value c.run_at_once.ensures.others
