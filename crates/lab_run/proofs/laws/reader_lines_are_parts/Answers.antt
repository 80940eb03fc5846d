use Rattle.lab_run.proofs.ReaderLines.{reader-lines}
use Rattle.lab_run.proofs.laws.reader_lines_are_parts.Goals as goal

pub returns : goal.returns
returns g c left by_gate at_gate first ring counts =
    reader-lines g.P.SnoopPort g.G.Gate g.met.P.SnoopPort.shown_got g.met.P.SnoopPort.loaded_composes left by_gate at_gate counts first ring
