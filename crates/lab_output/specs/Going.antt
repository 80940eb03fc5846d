-- A run's files from call to call: begun, appended to, and finished.
use Rattle.std.specs.Prelude.{◌≡◌, ◌⊎◌, ℕ, ◌+◌, ◌*◌, ◌^◌, ◌<◌, ◌≤◌, ℤ, List, [], ◌∷◌, ◌++◌, length, map, take, All, Option, IfSome, IsSome, IsSomeAnd, ⊤}
use Rattle.std.specs.List.{AllByRecursion, flat_map}
use Rattle.std.specs.Option.{option_map}
use Rattle.wav_io.specs.Canonical.{sample_bytes}
use Rattle.lab_shelf.specs.Files.{Files, bytes_under, with_file, with_change, with_first_bytes, IsPartWritten, IsPartFinished}
use Rattle.lab_output.specs.declared.file.OutputFile.{OutputFile}
use Rattle.lab_lines.specs.declared.script.Script.{Script}
use Rattle.lab_output.specs.declared.outputs.Outputs.{Outputs}
use Rattle.lab_output.specs.Files.{IsOutputFile, AreApart, output_files, open_head_of, head_of, unfinished_files}

-- the files, with each output begun
abbrev pub opened_files : List OutputFile → Files → Files
opened_files [] files = files
opened_files (output ∷ outputs) files =
    opened_files outputs (with_file files output.name (open_head_of output))

-- some of the outputs were begun, and one of them maybe in part
abbrev pub OpenedInPart : List OutputFile → Option Files → Option Files → Type 0
OpenedInPart [] before after = after ≡ before
OpenedInPart (output ∷ outputs) before after =
    IsPartWritten before after output.name (open_head_of output)
    ⊎ OpenedInPart outputs
    (option_map (λ files. with_file files output.name (open_head_of output)) before) after

-- the files, with the true head of so many samples in each output
abbrev pub closed_files : List OutputFile → List ℕ → Files → Files
closed_files [] counts files = files
closed_files (output ∷ outputs) [] files = files
closed_files (output ∷ outputs) (samples ∷ counts) files =
    closed_files outputs counts (with_change (with_first_bytes (head_of output samples)) files output.name)

-- some of the outputs have their true heads, and one of them maybe in part
abbrev pub ClosedInPart : List OutputFile → List ℕ → Option Files → Option Files → Type 0
ClosedInPart [] counts before after = after ≡ before
ClosedInPart (output ∷ outputs) [] before after = after ≡ before
ClosedInPart (output ∷ outputs) (samples ∷ counts) before after =
    IsPartFinished before after output.name (head_of output samples)
    ⊎ ClosedInPart outputs counts
    (option_map (λ files. with_change (with_first_bytes (head_of output samples)) files output.name) before)
    after

-- a file of this name, where it is known, has room for a head
abbrev pub HasHeadRoom : Option Files → List ℕ → Type 0
HasHeadRoom files name =
    IfSome files (λ m. IfSome (bytes_under m name) (λ content. 44 ≤ length content))

-- each output, where the files are known, has room for a head
abbrev pub HaveHeadRoom : Option Files → List OutputFile → Type 0
HaveHeadRoom files outputs =
    AllByRecursion (λ (output : OutputFile). HasHeadRoom files output.name) outputs

-- the files are known, and one of them has this name
abbrev pub HasFile : Option Files → List ℕ → Type 0
HasFile files name = IsSomeAnd files (λ m. IsSome (bytes_under m name))

-- the same of each output
abbrev pub HaveFiles : Option Files → List OutputFile → Type 0
HaveFiles files outputs =
    AllByRecursion (λ (output : OutputFile). HasFile files output.name) outputs

-- so many samples fit into a WAV file
abbrev pub FitsWavFile : ℕ → Type 0
FitsWavFile samples = samples * 2 + 36 < 2 ^ 32

-- while a run goes on: the shelf holds the files as they were before, but for the outputs, each of which has an open head and
-- the samples so far, of which there are so many
pub record IsGoingOn (outputs : List OutputFile) (counts : List ℕ) (sounds : List (List ℤ))
    (before now : Option Files) : Type 0 where
  pub counted : map length sounds ≡ counts
  pub number : length sounds ≡ length outputs
  pub files : now ≡ option_map (unfinished_files outputs sounds) before

-- these samples are the first of others, or all of them
abbrev pub IsPartOf : List ℤ → List ℤ → Type 0
IsPartOf sound other = (k : ℕ) × (sound ≡ take k other)

-- each output has its samples, and maybe more of them
abbrev pub AreLonger : List (List ℤ) → List (List ℤ) → Type 0
AreLonger [] [] = ⊤
AreLonger [] (other ∷ others) = ⊥
AreLonger (sound ∷ sounds) [] = ⊥
AreLonger (sound ∷ sounds) (other ∷ others) = IsPartOf sound other × AreLonger sounds others

-- a file has a head of 44 bytes, these samples after it, and maybe more bytes
pub record HasSamples (samples : List ℤ) (content : List ℕ) : Type 0 where
  pub head : List ℕ
  pub more : List ℕ
  pub head_length : length head ≡ 44
  pub content_is : content ≡ head ++ (flat_map sample_bytes samples ++ more)

-- each output is there and has its samples, and maybe more bytes
abbrev pub HaveSamples : List OutputFile → List (List ℤ) → Files → Type 0
HaveSamples [] sounds files = ⊤
HaveSamples (output ∷ outputs) [] files = ⊤
HaveSamples (output ∷ outputs) (samples ∷ sounds) files =
    IsSomeAnd (bytes_under files output.name) (HasSamples samples)
    × HaveSamples outputs sounds files

-- the same of files that may not be known
abbrev pub KeepSamples : List OutputFile → List (List ℤ) → Option Files → Type 0
KeepSamples outputs sounds files = IfSome files (HaveSamples outputs sounds)

-- what a run writes is in order: its files have heads and names that differ, and there is a number of samples for each
pub record AreOutputs (outputs : Outputs) : Type 0 where
  pub files : All IsOutputFile outputs.files.items
  pub apart : AreApart outputs.files.items
  pub number : length outputs.samples.items ≡ length outputs.files.items
  pub few : All FitsWavFile outputs.samples.items

-- these are the outputs of a run of which nothing is written
pub record AreNew (script : Script) (out : List ℕ) (outputs : Outputs) : Type 0 where
  pub files : outputs.files.items ≡ output_files script out
  pub samples : All (λ (n : ℕ). n ≡ 0) outputs.samples.items
  pub rows : outputs.rows ≡ 0

-- the shelf is as a run leaves it that goes on
pub record SomeGoOn (outputs : Outputs) (now : Option Files) : Type 0 where
  pub before : Option Files
  pub sounds : List (List ℤ)
  pub going_on : IsGoingOn outputs.files.items outputs.samples.items sounds before now
