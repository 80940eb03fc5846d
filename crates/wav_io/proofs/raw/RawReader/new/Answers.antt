use Rattle.wav_io.specs.Prelude.{ap, UpTo32, raws}
use Rattle.wav_io.proofs.Readers.{new_comes}
use Rattle.wav_io.proofs.raw.RawReader.new.Goals as goal

pub returns-clause-whole : goal.returns-clause-whole
returns-clause-whole c bytes = ap raws (new_comes UpTo32 c.new.result c.new-2.result bytes c.new.ensures c.new-2.ensures)
