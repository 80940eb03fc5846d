use Rattle.wav_io.specs.Prelude.{ap, Sixteen, sounds}
use Rattle.wav_io.proofs.Readers.{new_comes}
use Rattle.wav_io.proofs.reader.WavReader.new.Goals as goal

pub returns-clause-whole : goal.returns-clause-whole
returns-clause-whole c bytes = ap sounds (new_comes Sixteen c.new.result c.new-2.result bytes c.new.ensures c.new-2.ensures)
