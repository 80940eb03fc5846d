use Rattle.lab_check.proofs.RunPasses.{run-checked, run-says, unlate-pass}
use Rattle.lab_check.proofs.laws.runs_are_checked.Goals as goal

pub returns-clause-checked : goal.returns-clause-checked
returns-clause-checked c script wavs session capture client_stops reader_stops outcome valid is run =
    run-checked script wavs session capture client_stops reader_stops outcome valid is run
    (c.runs_keep_headline.ensures.headline script wavs session capture client_stops reader_stops outcome valid is run)
    (c.segments_are_of_files.ensures script wavs session capture client_stops reader_stops outcome valid is run)
    (c.unopened_readers_have_no_runs.ensures session capture script.body client_stops reader_stops outcome run)

pub returns-clause-headline : goal.returns-clause-headline
returns-clause-headline c script wavs session capture client_stops reader_stops outcome valid is run =
    run-says script wavs session capture client_stops reader_stops outcome valid is run
    (c.runs_keep_headline.ensures.headline script wavs session capture client_stops reader_stops outcome valid is run)
    (c.segments_are_of_files.ensures script wavs session capture client_stops reader_stops outcome valid is run)
    (c.unopened_readers_have_no_runs.ensures session capture script.body client_stops reader_stops outcome run)

pub returns-clause-unlate : goal.returns-clause-unlate
returns-clause-unlate c = unlate-pass
