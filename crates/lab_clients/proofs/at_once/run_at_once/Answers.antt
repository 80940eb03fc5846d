use Rattle.std.proofs.Common.{rules}
use Rattle.lab_clients.proofs.RunLemmas.{AreEach-pairs}
use Rattle.lab_clients.proofs.at_once.run_at_once.Goals as goal

pub returns-clause-run : goal.returns-clause-run
returns-clause-run g c =
    AreEach-pairs _ _ g.G.Gate c.args.gates.now c.for_each_pair.new.gates c.args.wavs.now c.args.phase c.args.lines.now c.args.clients.now c.for_each_pair.new.items
    c.requires.gates c.for_each_pair.ensures (λ i p q p' q' call. search rules)

pub returns-clause-others : goal.returns-clause-others
returns-clause-others g c = c.for_each_pair.ensures.beyond
