-- The files that a run writes: their names, what each holds, and what the shelf holds of them.
--     OUT.wav has what the card played; OUT.NAME.wav has what the reader of this name took
--     output_files script out      the files of a run, in the order in which they are written
--     open_file, finished_file      what a file holds while the run goes on, and when it is done
--     begun, stored      what the shelf holds while the run goes on, and when it is done
--     MayHold      what a file of a run that stopped may hold
use Rattle.std.specs.Prelude.{◌≡◌, ◌≢◌, ◌⊎◌, ℕ, ◌/◌, ◌^◌, ◌<◌, ◌≤◌, ℤ, List, [], ◌∷◌, ◌++◌, length, map, take, drop, codes, Option, Some, None, ⊤}
use Rattle.std.specs.List.{flat_map, AllByRecursion}
use Rattle.lab_lines.specs.declared.script.CardLine.{CardLine}
use Rattle.lab_lines.specs.declared.script.ReaderLine.{ReaderLine}
use Rattle.lab_lines.specs.declared.script.Script.{Script}
use Rattle.lab_shelf.specs.Files.{Files, with_file}
use Rattle.wav_io.specs.Canonical.{head, open_head, sample_bytes, canonical}
use Rattle.wav_io.specs.Sound.{Sound}
use Rattle.lab_output.specs.declared.file.OutputFile.{OutputFile}

-- the name of the file with what the card played: OUT.wav
abbrev pub played_name : List ℕ → List ℕ
played_name out = out ++ codes ".wav"

-- the name of the file with what a reader took: OUT.NAME.wav
abbrev pub recorded_name : List ℕ → List ℕ → List ℕ
recorded_name out name = out ++ 46 ∷ name ++ codes ".wav"

-- the channels of a reader: those that its bindings name, or all of the card
abbrev pub reader_channels : CardLine → Option (List ℕ) → ℕ
reader_channels card None = card.channels
reader_channels card (Some bindings) = length bindings

-- the file with what the card played: of the card's channels and rate
abbrev pub played_file : CardLine → List ℕ → OutputFile
played_file card out = record { name = played_name out; channels = card.channels; rate = card.rate }

-- the file with what a reader took: of the reader's channels and the card's rate
abbrev pub recorded_file : CardLine → List ℕ → ReaderLine → OutputFile
recorded_file card out reader = record {
  name = recorded_name out reader.name;
  channels = reader_channels card reader.bindings;
  rate = card.rate;
}

-- the files of a run, in the order in which they are written
abbrev pub output_files : Script → List ℕ → List OutputFile
output_files script out =
    played_file script.card out ∷ map (recorded_file script.card out) script.readers

-- a file has 1 to 8 channels, and a rate that the head of a WAV file can hold
pub record IsOutputFile (file : OutputFile) : Type 0 where
  pub some_channel : 1 ≤ file.channels
  pub few_channels : file.channels ≤ 8
  pub some_rate : 1 ≤ file.rate
  pub low_rate : file.rate < 2 ^ 28

-- no two files have one name
abbrev pub AreApart : List OutputFile → Type 0
AreApart [] = ⊤
AreApart (file ∷ files) =
    AllByRecursion (λ (other : OutputFile). file.name ≢ other.name) files × AreApart files

-- the samples of a file, as a sound
abbrev pub sound_of : OutputFile → List ℤ → Sound
sound_of file samples = record { channels = file.channels; rate = file.rate; samples = samples }

-- the head of a file while the run goes on
abbrev pub open_head_of : OutputFile → List ℕ
open_head_of file = open_head file.channels file.rate

-- the head of a file that is finished and has so many samples
abbrev pub head_of : OutputFile → ℕ → List ℕ
head_of file samples = head file.channels file.rate (samples / file.channels)

-- what a file holds while the run goes on: an open head, and the samples so far
abbrev pub open_file : OutputFile → List ℤ → List ℕ
open_file file samples = open_head_of file ++ flat_map sample_bytes samples

-- what a file holds that is finished: the canonical WAV file of its samples
abbrev pub finished_file : OutputFile → List ℤ → List ℕ
finished_file file samples = canonical (sound_of file samples)

-- the files, with each output holding what is made of its samples
abbrev pub with_outputs : (OutputFile → List ℤ → List ℕ) → List OutputFile
    → List (List ℤ) → Files → Files
with_outputs make [] sounds files = files
with_outputs make (output ∷ outputs) [] files = files
with_outputs make (output ∷ outputs) (samples ∷ sounds) files =
    with_outputs make outputs sounds (with_file files output.name (make output samples))

-- the files of a shelf while the run goes on
abbrev pub unfinished_files : List OutputFile → List (List ℤ) → Files → Files
unfinished_files outputs sounds files = with_outputs open_file outputs sounds files

-- the files of a shelf when the run is done
abbrev pub finished_files : List OutputFile → List (List ℤ) → Files → Files
finished_files outputs sounds files = with_outputs finished_file outputs sounds files

-- outputs that have no sample yet
abbrev pub nothing : List OutputFile → List (List ℤ)
nothing outputs = map (λ _. []) outputs

-- what an output of a run that stopped may hold: the first bytes of an open head and of the samples, or its finished form with
-- some last bytes of the head still those of the open head
abbrev pub IsFormOf : OutputFile → List ℤ → List ℕ → Type 0
IsFormOf output samples bytes =
    (k : ℕ) × ((bytes ≡ take k (open_file output samples))
    ⊎ ((k ≤ 44)
    × (bytes ≡ take k (head_of output (length samples)) ++ drop k (open_file output samples))))

-- a file of this name is an output of the run, and these bytes are one of the forms that it may have
abbrev pub MayHold : List OutputFile → List (List ℤ) → List ℕ → List ℕ → Type 0
MayHold [] sounds name bytes = ⊥
MayHold (output ∷ outputs) [] name bytes = ⊥
MayHold (output ∷ outputs) (samples ∷ sounds) name bytes =
    ((name ≡ output.name) × IsFormOf output samples bytes) ⊎ MayHold outputs sounds name bytes
