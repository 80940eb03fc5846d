-- The line that says why a command stopped.
--     file_shown name      the name of a file as it is shown
--     stop_line stop      the line
use Rattle.std.specs.Prelude.{ℕ, List, [], ◌++◌, codes, if◌then◌else◌}
use Rattle.std.specs.Fmt.{decimal}
use Rattle.std.specs.Str.{is_utf8}
use Rattle.asound_conf.specs.ErrorText as conf
use Rattle.lab_script.specs.ErrorText as script
use Rattle.wav_io.specs.ErrorText as wav
use Rattle.lab_stop.specs.declared.stop.Stop.{Stop}
use Rattle.lab_stop.specs.declared.stop.Stop.TheVariants.{Words, Script, Conf, Wav, Read, No, Write, Memory}

-- a name is shown where it is UTF-8
abbrev pub file_shown : List ℕ → List ℕ
file_shown name = if is_utf8 name then name else []

-- the line of a stop: for the words, for a refusal with its line and cause, for a file, for a test with the report's line, for a write, or for memory
abbrev pub stop_line : Stop → List ℕ
stop_line Words = codes "dmixlab: words\n"
stop_line (Script error) = codes "dmixlab: script " ++ (script.error_text error ++ codes "\n")
stop_line (Conf error) = codes "dmixlab: conf " ++ (conf.error_text error ++ codes "\n")
stop_line (Wav name why) = codes "dmixlab: wav " ++ (file_shown name.items ++ (codes ": " ++ (wav.error_text why ++ codes "\n")))
stop_line (Read name) = codes "dmixlab: read " ++ (file_shown name.items ++ codes "\n")
stop_line (No line) = codes "dmixlab: no: line " ++ (decimal line ++ codes "\n")
stop_line Write = codes "dmixlab: write\n"
stop_line Memory = codes "dmixlab: memory\n"
