use Rattle.run_laws.proofs.FromFiles.{LabRun-files, mix-files}
use Rattle.run_laws.proofs.Mixes.{LabRun-mix}
use Rattle.run_laws.proofs.headline.runs_mix_files.Goals as goal

pub returns-clause-placed : goal.returns-clause-placed
returns-clause-placed c = LabRun-files

pub returns-clause-mix : goal.returns-clause-mix
returns-clause-mix c script wavs session capture client_stops reader_stops outcome is run =
    mix-files script wavs session outcome.report outcome.played is
    (LabRun-files script wavs session capture client_stops reader_stops outcome is run)
    (LabRun-mix session capture script.body client_stops reader_stops outcome run)
