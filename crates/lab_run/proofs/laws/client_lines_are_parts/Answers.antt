use Rattle.lab_run.proofs.ClientLines.{client-lines}
use Rattle.lab_run.proofs.laws.client_lines_are_parts.Goals as goal

pub returns : goal.returns
returns g c left by_gate at_gate first ring from counts =
    client-lines g.P.MixPort g.G.Gate g.met.P.MixPort.shown_laid g.met.P.MixPort.loaded_composes left by_gate at_gate counts first ring from
