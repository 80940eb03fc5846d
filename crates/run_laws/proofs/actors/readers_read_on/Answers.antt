use Rattle.run_laws.proofs.SliceItems.{readers-read_in_slices}
use Rattle.run_laws.proofs.SliceLines.{lines-get_slices, readers-read_on}
use Rattle.run_laws.proofs.actors.readers_read_on.Goals as goal

pub returns : goal.returns
returns c = record { slices = lines-get_slices; goes_on = readers-read_on; runs = readers-read_in_slices }
