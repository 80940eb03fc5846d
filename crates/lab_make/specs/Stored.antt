-- What is stored of a workload before its run: its clients' files and its script.
--     made_input w      what a run of a workload reads
--     NamedFile, with_files      files, and a shelf's files with them
--     StoredInPart      some of them are stored, and one of them maybe in part
--     with_input, InputInPart      the same of the files and the script of a run
use Rattle.std.specs.Prelude.{◌≡◌, ◌⊎◌, ℕ, ◌+◌, List, [], ◌∷◌, codes, Option, None, Ok}
use Rattle.std.specs.Option.{option_map}
use Rattle.wav_io.specs.Canonical.{canonical}
use Rattle.wav_io.specs.Reading.{wav_file}
use Rattle.wav_io.specs.Sound.{Sound}
use Rattle.lab_shelf.specs.Files.{Files, IsPartWritten, with_file}
use Rattle.lab_input.specs.Input.{RunInput}
use Rattle.lab_make.specs.declared.workload.Workload.{Workload}
use Rattle.lab_make.specs.Files.{file_name, made_sounds}
use Rattle.lab_make.specs.Lines.{made_text}
use Rattle.lab_make.specs.Script.{made_script}

-- what a run of a workload reads: its script and its clients' sounds; its card captures nothing
abbrev pub made_input : Workload → RunInput
made_input w = record {
  script = made_script w.clients w.phases;
  capture = None;
  sounds = made_sounds w.seed w.clients;
}

-- a file: its name and its bytes
pub record NamedFile : Type 0 where
  pub name : List ℕ
  pub bytes : List ℕ

-- the files, with these stored one after the other
abbrev pub with_files : List NamedFile → Files → Files
with_files [] files = files
with_files (file ∷ more) files = with_files more (with_file files file.name file.bytes)

-- they are stored in order up to one of them, and that one maybe in part
abbrev pub StoredInPart : List NamedFile → Option Files → Option Files → Type 0
StoredInPart [] before after = after ≡ before
StoredInPart (file ∷ more) before after =
    IsPartWritten before after file.name file.bytes
    ⊎ StoredInPart more (option_map (λ files. with_file files file.name file.bytes) before) after

-- the WAV files of clients' sounds, of which the first is the client of this number
abbrev pub sound_files : ℕ → List Sound → List NamedFile
sound_files number [] = []
sound_files number (sound ∷ sounds) =
    record { name = file_name number; bytes = canonical sound } ∷ sound_files (number + 1) sounds

-- a WAV file of a sound is read as that sound
abbrev pub IsReadBack : Sound → Type 0
IsReadBack sound = wav_file (canonical sound) ≡ Ok sound

-- the name of a workload's script
abbrev pub script_name : List ℕ
script_name = codes "made.script"

-- the files, with those of clients' sounds and then a script's text stored
abbrev pub with_input : List Sound → List ℕ → Files → Files
with_input sounds text files = with_file (with_files (sound_files 0 sounds) files) script_name text

-- they are stored in order up to one of them, and that one maybe in part
abbrev pub InputInPart : List Sound → List ℕ → Option Files → Option Files → Type 0
InputInPart sounds text before after =
    StoredInPart (sound_files 0 sounds) before after
    ⊎ IsPartWritten (option_map (with_files (sound_files 0 sounds)) before) after script_name text

-- the files, with a workload stored: a WAV file for each client, and the script
abbrev pub with_workload : Workload → Files → Files
with_workload w files =
    with_input (made_sounds w.seed w.clients) (made_text w.clients w.phases) files

-- a workload is stored in part
abbrev pub WorkloadInPart : Workload → Option Files → Option Files → Type 0
WorkloadInPart w before after =
    InputInPart (made_sounds w.seed w.clients) (made_text w.clients w.phases) before after
