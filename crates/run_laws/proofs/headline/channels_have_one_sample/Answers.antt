use Rattle.run_laws.proofs.OneSample.{LabRun-once}
use Rattle.run_laws.proofs.OnePlayed.{LabRun-one_played}
use Rattle.run_laws.proofs.headline.channels_have_one_sample.Goals as goal

pub returns-clause-placed : goal.returns-clause-placed
returns-clause-placed c script wavs session capture client_stops reader_stops outcome is bound run =
    LabRun-once script wavs session capture client_stops reader_stops outcome c.claims_are_of_owners.ensures is bound run

pub returns-clause-played : goal.returns-clause-played
returns-clause-played c script wavs session capture client_stops reader_stops outcome is bound samples run =
    LabRun-one_played script wavs session capture client_stops reader_stops outcome c.claims_are_of_owners.ensures is bound samples run
