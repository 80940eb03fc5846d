use Rattle.run_laws.proofs.Recorded.{LabRun-recordings}
use Rattle.run_laws.proofs.headline.runs_record_captures.Goals as goal

pub returns : goal.returns
returns c session capture body client_stops reader_stops outcome run =
    LabRun-recordings session capture body client_stops reader_stops outcome (c.readers_read_on.ensures.runs session capture body) run
