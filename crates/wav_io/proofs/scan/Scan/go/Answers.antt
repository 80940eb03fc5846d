use Rattle.wav_io.proofs.Scans.{through_data, through_walk, through_none}
use Rattle.wav_io.proofs.scan.Scan.go.Goals as goal

pub returns-in-DataBody : goal.returns-in-DataBody
returns-in-DataBody c =
    through_data c.args.depths c.in-DataBody.format c.in-DataBody.missing c.args.self.now c.args.bytes.now c.data.result c.data.new.self c.in-DataBody.is c.requires.place c.data.ensures.place c.data.ensures.part c.data.ensures.body

pub returns-in-DataBody-place : goal.returns-in-DataBody-place
returns-in-DataBody-place c =
    through_walk c.args.depths c.args.self.now c.walk-rest.new.self c.args.bytes.now c.walk-rest.result.now _ _ c.in_default.not-DataBody c.walk-rest.ensures.goes_on c.walk-rest.ensures.counted
    (through_data c.args.depths c.in-DataBody-place.format c.in-DataBody-place.missing c.walk-rest.new.self c.walk-rest.result.now c.data-in-DataBody-place.result c.data-in-DataBody-place.new.self c.in-DataBody-place.is c.walk-rest.ensures.goes_on.place c.data-in-DataBody-place.ensures.place c.data-in-DataBody-place.ensures.part c.data-in-DataBody-place.ensures.body)

pub returns : goal.returns
returns c =
    through_walk c.args.depths c.args.self.now c.walk-rest.new.self c.args.bytes.now c.walk-rest.result.now _ _ c.in_default.not-DataBody c.walk-rest.ensures.goes_on c.walk-rest.ensures.counted
    (through_none c.args.depths c.walk-rest.new.self c.walk-rest.result.now c.walk-rest.ensures.goes_on.place c.walk-rest.ensures.walked c.in_default-place.not-DataBody)
