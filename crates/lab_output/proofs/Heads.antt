-- The channels and rates of a run's files are such as a head can hold.
use Rattle.lab_output.specs.Prelude.{arith, List, map, subst, sym, ℕ, [], ◌∷◌, ◌≡◌, All-from_recursion, recursion_from_All, AllByRecursion, All, CardLine}
use Rattle.lab_output.specs.Prelude.{ReaderLine, Script, IsCardLine, IsReaderLine, IsScript, IsOutputFile, output_files, recorded_file, FitsWavFile}
use Rattle.lab_output.specs.FileLaws.{IsOutputFile-played, IsOutputFile-recorded}

-- a head can hold the channels and rate of each reader's file
recorded-heads : (card : CardLine) (out : List ℕ) (readers : List ReaderLine) → IsCardLine card
    → AllByRecursion (IsReaderLine card) readers → AllByRecursion IsOutputFile (map (recorded_file card out) readers)
recorded-heads card out [] is lines = tt
recorded-heads card out (reader ∷ readers) is lines =
    (IsOutputFile-recorded card out reader is lines.0, recorded-heads card out readers is lines.1)

-- a head can hold each file of a run
pub output_files-heads : (script : Script) (out : List ℕ) → IsScript script → All IsOutputFile (output_files script out)
output_files-heads script out is =
    All-from_recursion IsOutputFile (output_files script out) (
      IsOutputFile-played script.card out is.card,
      recorded-heads script.card out script.readers is.card (recursion_from_All (IsReaderLine script.card) script.readers is.each_reader),
    )

-- no samples are few
pub few-nothing : (counts : List ℕ) → All (λ (n : ℕ). n ≡ 0) counts → All FitsWavFile counts
few-nothing counts zeros k d within = subst FitsWavFile (sym (zeros k d within)) (omega arith)
