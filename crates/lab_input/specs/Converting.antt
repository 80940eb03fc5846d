-- A file that comes in pieces, and is converted meanwhile.
use Rattle.std.specs.Prelude.{◌≡◌, ℕ, ◌*◌, ◌≤◌, List, [], ◌++◌, length, Option, Some, None, IsOk, ℤ}
use Rattle.lab_input.specs.declared.plug.PlugReader.{PlugReader}
use Rattle.lab_input.specs.declared.shape.Shape.{Shape}
use Rattle.lab_input.specs.Plug.{IsShape, conversion_to}
use Rattle.plug_chain.specs.Plugs.{HasTakenBytes, Stage, known_of, plug_of}
use Rattle.plug_chain.specs.Rates.{AreRates}
use Rattle.wav_io.specs.Reading.{most_bytes}
use Rattle.wav_io.specs.Readers.{Reader, IsOfHead, error_of, raw_file, raw_to_come, with_bytes}

-- a conversion that has begun: it is that of the file's channels, rate and bits, it has taken these bytes of the samples, what
-- is known of it is there, and it isn't too long so far
pub record IsConverted (s : Shape) (reader : Reader) (stage : Stage) (fed : List ℕ)
    (samples : List ℤ) : Type 0 where
  pub channels : ℕ
  pub rate : ℕ
  pub bits : ℕ
  pub conversion : stage.conversion ≡ conversion_to s channels rate bits
  pub rates : AreRates stage.conversion.rates
  pub head : (more : List ℕ) → IsOfHead channels rate bits (raw_to_come reader more)
  pub taken : HasTakenBytes stage fed
  pub known : samples ≡ known_of stage.conversion fed
  pub short : 2 * length (plug_of stage.conversion fed) ≤ most_bytes

-- before a conversion begins no byte of the samples came
abbrev pub IsSoFar : Shape → Reader → Option Stage → List ℕ → List ℤ → Type 0
IsSoFar s reader None fed samples = (fed ≡ []) × (samples ≡ [])
IsSoFar s reader (Some stage) fed samples = IsConverted s reader stage fed samples

-- these bytes of a file are read, and those of its samples are converted
pub record IsConverting (r : PlugReader) (seen : List ℕ) : Type 0 where
  pub fed : List ℕ
  pub same : (more : List ℕ) → with_bytes fed (raw_to_come r.reader more) ≡ raw_file (seen ++ more)
  pub no_error : error_of r.reader ≡ None
  pub taken : r.taken ≡ length fed
  pub shape : IsShape r.shape
  pub so_far : IsSoFar r.shape r.reader r.plug fed r.samples.items

-- a piece more is read of a file with this head: the bytes of its samples came after those that are converted
pub record IsFed (r : PlugReader) (channels rate bits : ℕ) (seen : List ℕ) : Type 0 where
  pub fed : List ℕ
  pub same : (more : List ℕ)
      → with_bytes (fed ++ r.body.items) (raw_to_come r.reader more) ≡ raw_file (seen ++ more)
  pub no_error : error_of r.reader ≡ None
  pub taken : r.taken ≡ length fed
  pub shape : IsShape r.shape
  pub so_far : IsSoFar r.shape r.reader r.plug fed r.samples.items
  pub head : (more : List ℕ) → IsOfHead channels rate bits (raw_to_come r.reader more)
  pub ends : IsOk (raw_to_come r.reader [])

pub record HasPiece (r : PlugReader) (channels rate bits : ℕ) : Type 0 where
  pub seen : List ℕ
  pub fed : IsFed r channels rate bits seen

pub record IsPlugOfFile (r : PlugReader) : Type 0 where
  pub seen : List ℕ
  pub converting : IsConverting r seen
