-- What a run of a script says, all in all.
use Rattle.std.specs.Prelude.{List, Option}
use Rattle.wav_io.specs.Sound.{Sound}
use Rattle.lab_lines.specs.declared.script.Script.{Script}
use Rattle.lab_run.specs.LabRun.{Outcome}
use Rattle.lab_run.specs.Stage.{Session}
use Rattle.run_laws.specs.Clients.{IsSumOfClients}
use Rattle.run_laws.specs.Files.{IsMixOfFiles, IsPlacedFrom}
use Rattle.run_laws.specs.Late.{LateRowsMiss}
use Rattle.run_laws.specs.OneSample.{HasOneSample}
use Rattle.run_laws.specs.Recordings.{AreRecordingsOf, ReadersAreBound}

-- The played samples are the saturated sums of exactly the samples that the report's segments placed, which are those of the script and the files; each
-- client's are there beside those of the others; a late row names a place without a sample of its stretch, or, of a rewind, the last sample of this, and
-- the report lists the segment of the stretch as it is then; and each reader recorded the captured frames of its runs, one slice in a stretch; and where
-- clients share the card by channels, at most one sample is placed at each frame and channel.
pub record Headline (script : Script) (wavs : List Sound) (session : Session)
    (capture : Option Sound) (outcome : Outcome) : Type 0 where
  pub mix : IsMixOfFiles script wavs outcome.report outcome.played
  pub placed : IsPlacedFrom script wavs session outcome.report
  pub clients : IsSumOfClients session outcome.report
  pub late : LateRowsMiss session script.body outcome.report
  pub recordings : AreRecordingsOf session capture outcome.report outcome.recorded
  pub readers : ReadersAreBound script session
  -- where clients share the card by channels
  pub one : HasOneSample session outcome.report
