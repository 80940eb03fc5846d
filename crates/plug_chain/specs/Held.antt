-- What the arrays of a frame and of a begun frame have.
use Rattle.std.specs.Prelude.{ℕ, List, take, ℤ}
use Rattle.plug_chain.specs.declared.frame.Frame.{Frame}
use Rattle.plug_chain.specs.declared.frame.Part.{Part}

-- the samples of a frame
abbrev pub samples_of : Frame → List ℤ
samples_of f = take f.len f.samples

-- the bytes of a begun frame
abbrev pub part_bytes : Part → List ℕ
part_bytes p = take p.len p.bytes
