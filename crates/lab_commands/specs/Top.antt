-- What a call of the program leaves and when each exit status comes.
use Rattle.std.specs.Prelude.{◌≡◌, ◌≢◌, ◌⊎◌, ◌++◌, ℕ, List, Option, Some, None, IsSome, Result, Ok, Err, ⊤}
use Rattle.std.specs.Option.{ForSome, option_map}
use Rattle.mix_core.specs.declared.gate.Pass.{Pass}
use Rattle.mix_core.specs.declared.gate.StepKind.{StepKind}
use Rattle.asound_conf.specs.declared.error.ConfError.{ConfError}
use Rattle.asound_conf.specs.declared.plugin.Device.{Device}
use Rattle.lab_conf.specs.Described.{IsDescribed, DescribedPart, IsOnlyDevice, device_in}
use Rattle.lab_input.specs.Input.{input_in}
use Rattle.lab_phase.specs.PhaseRuns.{Stops}
use Rattle.lab_play.specs.Played.{IsUntouched}
use Rattle.lab_play.specs.Stops.{HaveNoStops}
use Rattle.lab_refine.specs.Answered.{HasAnswered, AnsweredPart, request_in}
use Rattle.lab_script.specs.declared.error.ScriptError.{ScriptError}
use Rattle.lab_shelf.specs.Files.{Files, TookPart}
use Rattle.lab_stop.specs.Causes.{Cause, cause, missing, script_refused, conf_refused, wav_refused, not_a_run}
use Rattle.lab_stop.specs.Lines.{stop_line}
use Rattle.lab_stop.specs.Stops.{StopKind, at_output, at_memory, stop_facts, EndsOf, EndsReliably, status_of}
use Rattle.lab_stop.specs.declared.stop.Stop.{Stop}
use Rattle.wav_io.specs.declared.error.WavError.{WavError}
use Rattle.lab_commands.specs.Made.{IsMade, IsMadeAsking, IsMadePart, IsOnlyMade}
use Rattle.lab_compare.specs.Checking.{check_in, IsCheckedRun}
use Rattle.lab_commands.specs.Words.{Form, run, check, refine, conf, make, help, version, form_of, help_text, version_text}
use Rattle.lab_commands.specs.Run.{HasFinished, HasFinishedAsking, IsOnlyRunOf, IsUnfinished}

-- what a check leaves that is done: the files are those of a checked run, no file changed, and nothing was put
pub record HasChecked (script report out : List ℕ) (before after : Option Files)
    (taken taken_after : Option (List ℕ)) : Type 0 where
  pub run : IsCheckedRun before script report out
  pub untouched : IsUntouched before after taken taken_after

-- the first cause in the order of the work, form by form
abbrev pub cause_in : Option Form → Files → Option Cause
cause_in None files = None
cause_in (Some (run script out)) files = cause (input_in files script)
cause_in (Some (check script report out)) files = cause (check_in files script report out)
cause_in (Some (refine text)) files = cause (request_in files text)
cause_in (Some (conf file name)) files = cause (device_in files file name)
cause_in (Some (make workload)) files = None
cause_in (Some help) files = None
cause_in (Some version) files = None

-- the first cause that the files give for a call of some words
abbrev pub cause_of : List (List ℕ) → Files → Option Cause
cause_of words files = cause_in (form_of words) files

-- the script that the words name is refused, or the text on a parameter space
abbrev pub IsScriptRefused : Option Cause → Type 0
IsScriptRefused first = (e : ScriptError) × (first ≡ Some (script_refused e))

-- the configuration that the words name is refused, or what it says of the device
abbrev pub IsConfRefused : Option Cause → Type 0
IsConfRefused first = (e : ConfError) × (first ≡ Some (conf_refused e))

-- the text that the words name is refused: a script, a text on a parameter space, or a configuration
abbrev pub IsTextRefused : List (List ℕ) → Files → Type 0
IsTextRefused words files = IsScriptRefused (cause_of words files)
    ⊎ IsConfRefused (cause_of words files)

-- a client's file is refused, and nothing before it
abbrev pub IsWavRefused : List (List ℕ) → Files → Type 0
IsWavRefused words files = (name : List ℕ)
    × ((e : WavError) × (cause_of words files ≡ Some (wav_refused name e)))

-- a file that is read isn't there, and nothing before it is refused
abbrev pub IsMissing : List (List ℕ) → Files → Type 0
IsMissing words files = (name : List ℕ) × (cause_of words files ≡ Some (missing name))

-- the files that a check reads are there and its script is right, but the report and the outputs aren't those of a run
abbrev pub IsNoRun : List (List ℕ) → Files → Type 0
IsNoRun words files = (line : ℕ) × (cause_of words files ≡ Some (not_a_run line))

-- the greatest exit status of some words: that of files that aren't those of a run comes in a check alone
abbrev pub most_status : Option Form → ℕ
most_status (Some (check script report out)) = 7
most_status other = 6

-- the words have a listed form, and all that it reads is there and right
abbrev pub IsValidCall : List (List ℕ) → Files → Type 0
IsValidCall words files = IsSome (form_of words) × (cause_of words files ≡ None)

-- a status comes exactly where its cause does, but for a fault before it or want of memory
pub record ComesExactly (status result : ℕ) (rose cause : Type 0) : Type 0 where
  pub only : result ≡ status → cause
  pub always : cause → ¬ rose → result ≢ 6 → result ≡ status

-- how a call ends over reliable files and a reliable output: with status 4 only where a file that is read isn't there, never
-- with 5; where all that it reads is there and right, with 0, and where a check's files aren't those of a run, with 7, or with 6 for want of memory
pub record EndsWell (result : ℕ) (words : List (List ℕ)) (files : Files) : Type 0 where
  pub reads : result ≡ 4 → IsMissing words files
  pub writes : result ≢ 5
  pub valid : IsValidCall words files → (result ≡ 0) ⊎ (result ≡ 6)
  pub no : IsNoRun words files → (result ≡ 7) ⊎ (result ≡ 6)

-- a text was put, and no file changed
pub record HasPut (text : List ℕ) (before after : Option Files)
    (taken taken_after : Option (List ℕ)) : Type 0 where
  pub files : after ≡ before
  pub put : taken_after ≡ option_map (λ t. t ++ text) taken

-- the first bytes of a text were put, and no file changed
pub record HasPutPart (text : List ℕ) (before after : Option Files)
    (taken taken_after : Option (List ℕ)) : Type 0 where
  pub files : after ≡ before
  pub put : TookPart taken taken_after text

-- what a command leaves that is done, form by form; the gates stopped actors so often
abbrev pub DoneIn : Option Form → Stops → Option Files → Option Files → Option (List ℕ)
    → Option (List ℕ) → Type 0
DoneIn None gates before after taken taken_after = ⊥
DoneIn (Some (run script out)) gates before after taken taken_after = HasFinished script out gates before after taken taken_after
DoneIn (Some (check script report out)) gates before after taken taken_after = HasChecked script report out before after taken taken_after
DoneIn (Some (refine text)) gates before after taken taken_after = HasAnswered text before after taken taken_after
DoneIn (Some (conf file name)) gates before after taken taken_after = IsDescribed file name before after taken taken_after
DoneIn (Some (make workload)) gates before after taken taken_after = IsMade workload gates before after taken taken_after
DoneIn (Some help) gates before after taken taken_after = HasPut help_text before after taken taken_after
DoneIn (Some version) gates before after taken taken_after = HasPut version_text before after taken taken_after

-- what a command that is done asked its gates, form by form: a run asked that of each actor as often as it counts, and other commands ask none
abbrev pub AskedIn : {T : Type 0} → (T → T → List StepKind → Pass → Type 0) → List T → List T
    → Option Form → Stops → Option Files → Option Files → Option (List ℕ) → Option (List ℕ) → Type 0
AskedIn asked gates gates_after (Some (run script out)) stops before after taken taken_after = HasFinishedAsking asked gates gates_after script out stops before after taken taken_after
AskedIn asked gates gates_after (Some (make workload)) stops before after taken taken_after = IsMadeAsking asked gates gates_after workload stops before after taken taken_after
AskedIn asked gates gates_after other stops before after taken taken_after = gates_after ≡ gates

-- what a command leaves that ended in its output, form by form; the gates stopped actors so often; a check has no output
abbrev pub PartIn : Option Form → Stops → Option Files → Option Files → Option (List ℕ)
    → Option (List ℕ) → Type 0
PartIn None gates before after taken taken_after = ⊥
PartIn (Some (run script out)) gates before after taken taken_after = IsUnfinished script out gates before after taken taken_after
PartIn (Some (check script report out)) gates before after taken taken_after = ⊥
PartIn (Some (refine text)) gates before after taken taken_after = AnsweredPart text before after taken taken_after
PartIn (Some (conf file name)) gates before after taken taken_after = DescribedPart file name before after taken taken_after
PartIn (Some (make workload)) gates before after taken taken_after = IsMadePart workload gates before after taken taken_after
PartIn (Some help) gates before after taken taken_after = HasPutPart help_text before after taken taken_after
PartIn (Some version) gates before after taken taken_after = HasPutPart version_text before after taken taken_after

-- what a command leaves that is done is the only thing that it can leave: a run of a script without mixed phases, whose gates stopped nobody, has one
-- report and one list of samples for each file, so also a run of a workload, and a configuration has one device of a name
abbrev pub OnlyIn : Option Form → Stops → Option Files → Option Files → Option (List ℕ)
    → Option (List ℕ) → Type 0
OnlyIn (Some (run script out)) gates before after taken taken_after = IsOnlyRunOf script out gates before after taken taken_after
OnlyIn (Some (conf file name)) gates before after taken taken_after =
    ForSome before (λ files. (device : Device) → device_in files file name ≡ Ok device → IsOnlyDevice after files taken taken_after device)
OnlyIn (Some (make workload)) gates before after taken taken_after = HaveNoStops gates → IsOnlyMade workload before after taken taken_after
OnlyIn other gates before after taken taken_after = ⊤

-- what a call leaves with status 0
abbrev pub Headline : List (List ℕ) → Stops → Option Files → Option Files → Option (List ℕ)
    → Option (List ℕ) → Type 0
Headline words gates before after taken taken_after = DoneIn (form_of words) gates before after taken taken_after

-- what a call leaves with status 0 is the only thing that it can leave
abbrev pub IsOnlyLeft : List (List ℕ) → Stops → Option Files → Option Files → Option (List ℕ)
    → Option (List ℕ) → Type 0
IsOnlyLeft words gates before after taken taken_after = OnlyIn (form_of words) gates before after taken taken_after

-- what a call leaves with another status: nothing was written, or, with 5 or 6, it ended in its output
abbrev pub IsLeftByFault : ℕ → List (List ℕ) → Stops → Option Files → Option Files → Option (List ℕ)
    → Option (List ℕ) → Type 0
IsLeftByFault result words gates before after taken taken_after =
    IsUntouched before after taken taken_after
    ⊎ (((result ≡ 5) ⊎ (result ≡ 6)) × PartIn (form_of words) gates before after taken taken_after)

-- a sink took the line that says why a call ended with a status, or the first bytes of it: with 2, 3 and 7 the line of the
-- first cause that the files give, and with 4, over reliable files, the line of the file that is missing
pub record SaysWhy (reliable : Type 0) (result : ℕ) (words : List (List ℕ)) (files : Option Files)
    (taken taken_after : Option (List ℕ)) : Type 0 where
  pub stop : Stop
  pub status : result ≡ status_of {T = Unit {0}} (Err stop)
  pub cause : ForSome files (λ m. EndsOf {X = Unit {0}} (Err stop) (cause_of words m))
  pub missing : reliable → ForSome files (λ m. EndsReliably {X = Unit {0}} (Err stop) (cause_of words m))
  pub took : TookPart taken taken_after (stop_line stop)

-- what a command leaves, by how it ended: nothing was written, unless it ended in its output or for want of memory
abbrev pub LeavesAt : StopKind → Option Form → Stops → Option Files → Option Files
    → Option (List ℕ) → Option (List ℕ) → Type 0
LeavesAt at_output form gates before after taken taken_after = IsUntouched before after taken taken_after ⊎ PartIn form gates before after taken taken_after
LeavesAt at_memory form gates before after taken taken_after = IsUntouched before after taken taken_after ⊎ PartIn form gates before after taken taken_after
LeavesAt other form gates before after taken taken_after = IsUntouched before after taken taken_after

abbrev pub CommandLeaves : {X : Type 0} → Result X Stop → Option Form → Stops → Option Files
    → Option Files → Option (List ℕ) → Option (List ℕ) → Type 0
CommandLeaves (Ok x) form gates before after taken taken_after = DoneIn form gates before after taken taken_after
CommandLeaves (Err stop) form gates before after taken taken_after = LeavesAt (stop_facts stop).kind form gates before after taken taken_after
