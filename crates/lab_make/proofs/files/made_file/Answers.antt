-- The file has the samples that were drawn.
use Rattle.lab_make.specs.Prelude.{ap, List, ℤ, ◌∙◌, Sound}
use Rattle.lab_make.proofs.files.made_file.Goals as goal

-- a stereo file at 48,000 Hz
abbrev stereo : List ℤ → Sound
stereo samples = record { channels = 2; rate = 48000; samples = samples }

pub returns-clause-file : goal.returns-clause-file
returns-clause-file c = ap stereo (c.from_vec.ensures ∙ c.in_ok-samples.ensures.samples)
