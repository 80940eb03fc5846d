use Rattle.run_laws.proofs.Recorded.{session-bound}
use Rattle.run_laws.proofs.headline.runs_keep_headline.Goals as goal

pub returns-clause-headline : goal.returns-clause-headline
returns-clause-headline c script wavs session capture client_stops reader_stops outcome valid is run = record {
  mix = c.runs_mix_files.ensures.mix script wavs session capture client_stops reader_stops outcome is run;
  placed = c.runs_mix_files.ensures.placed script wavs session capture client_stops reader_stops outcome is run;
  clients = c.mixes_are_of_clients.ensures session capture script.body client_stops reader_stops outcome run;
  late = c.late_rows_miss.ensures.rows session capture script.body client_stops reader_stops outcome run;
  recordings = c.runs_record_captures.ensures session capture script.body client_stops reader_stops outcome run;
  readers = session-bound script wavs session is;
  one =
      let bound = c.scripts_bind_channels.ensures script wavs session valid is in
      c.channels_have_one_sample.ensures.placed script wavs session capture client_stops reader_stops outcome is bound run;
}

pub returns-clause-one : goal.returns-clause-one
returns-clause-one c script wavs session capture client_stops reader_stops outcome valid is samples run =
    let bound = c.scripts_bind_channels.ensures script wavs session valid is in
    c.channels_have_one_sample.ensures.played script wavs session capture client_stops reader_stops outcome is bound samples run
