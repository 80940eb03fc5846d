-- What a plug gives for all bytes, and what it has given before the end.
use Rattle.std.specs.Prelude.{◌≡◌, ℕ, ◌<◌, List, [], ◌++◌, length, ℤ}
use Rattle.plug_chain.specs.Frames.{Conversion, frame_bytes, frames_of_bytes, rest_of}
use Rattle.plug_chain.specs.Growth.{Appends}
use Rattle.plug_chain.specs.Rates.{AreRates, IsRateAt, IsCourse, known_samples, resampled_samples}
use Rattle.plug_chain.specs.Tables.{IsTable}

-- the interleaved samples that bytes are converted to
abbrev pub plug_of : Conversion → List ℕ → List ℤ
plug_of c bytes = resampled_samples c.rates (frames_of_bytes c bytes)

-- those that no later bytes change
abbrev pub known_of : Conversion → List ℕ → List ℤ
known_of c bytes = known_samples c.rates (frames_of_bytes c bytes)

-- how far a conversion has come: the begun frame, the last whole frame, and where the next output frame lies
pub record Stage : Type 0 where
  pub conversion : Conversion
  pub part : List ℕ
  pub last : List ℤ
  pub place : ℕ

-- the stage to which these bytes lead, however they are divided
pub record HasTakenBytes (s : Stage) (bytes : List ℕ) : Type 0 where
  pub part : s.part ≡ rest_of s.conversion bytes
  pub course : IsRateAt s.conversion.rates s.conversion.table.outputs
      (frames_of_bytes s.conversion bytes) s.last s.place

-- a stage that can be reached: a conversion in range, less than a frame begun, and a course
pub record IsStage (s : Stage) : Type 0 where
  pub table : IsTable s.conversion.table
  pub rates : AreRates s.conversion.rates
  pub part : length s.part < frame_bytes s.conversion
  pub course : IsCourse s.conversion.rates s.conversion.table.outputs s.last s.place

-- whatever bytes led to the old stage, these bytes more lead to the new one, and what is known grew by what was appended
pub record Continues (old new : Stage) (bytes : List ℕ) (old_out new_out : List ℤ) : Type 0 where
  pub conversion : new.conversion ≡ old.conversion
  pub stage : (fed : List ℕ) → HasTakenBytes old fed → HasTakenBytes new (fed ++ bytes)
  pub appends : (fed : List ℕ) → HasTakenBytes old fed
      → Appends (known_of old.conversion fed) (known_of old.conversion (fed ++ bytes))
      old_out new_out

-- whatever bytes led to the stage, what is left of the whole conversion was appended
abbrev pub Completes : Stage → List ℤ → List ℤ → Type 0
Completes s old_out new_out =
    (fed : List ℕ) → HasTakenBytes s fed
    → Appends (known_of s.conversion fed) (plug_of s.conversion fed) old_out new_out

-- a stage to which no bytes have led yet
pub record IsBeginning (s : Stage) (c : Conversion) : Type 0 where
  pub conversion : s.conversion ≡ c
  pub stage : HasTakenBytes s []
