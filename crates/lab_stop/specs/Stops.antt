-- Why a command stops, beside the causes that the files give and the faults that are counted.
--     StopKind, StopFacts, stop_facts      two facts of each stop: where a command stops, and the cause; all words from IsReadStop on are made of them
--     status_of end      the exit status
--     IsScriptStop, IsConfStop, IsWavStop, NamesWav      the stop at a script, a configuration or a WAV file that is refused
--     IsReadStop      why a call that writes nothing stops
--     AnswersOrStops view result given      a call answers what the files give, seen by a view, or stops at the cause that they give
--     IsCauseOf stop given      a stop is at the cause that the files give, but for a fetch that failed and for memory
--     FetchFaults, TestFaults, Misses      when a call that only reads, or reads and tests, stops at a fetch: by the count of faults, and over a reliable shelf
--     IsWriteStop, WriteFaults      when a call that only writes stops at a write
--     AreSameCounts      a call counted no fault of its writes and puts
--     InputFaults, OutputFaults      when a command stops at a fetch, or at a write
--     EndsOf, EndsReliably, Refuses      how a command ends, by the first cause that the files give and by its words
use Rattle.std.specs.Prelude.{◌≡◌, ◌⊎◌, ℕ, ◌≤◌, List, Option, Some, None, IsSome, Result, Ok, Err, ⊤}
use Rattle.asound_conf.specs.declared.error.ConfError.{ConfError}
use Rattle.asound_conf.specs.declared.error.ConfWhy.{ConfWhy}
use Rattle.asound_conf.specs.declared.error.ConfWhy.TheVariants as conf_whys
use Rattle.lab_script.specs.declared.error.ScriptError.{ScriptError}
use Rattle.lab_script.specs.declared.error.ScriptWhy.{ScriptWhy}
use Rattle.lab_script.specs.declared.error.ScriptWhy.TheVariants as script_whys
use Rattle.wav_io.specs.declared.error.WavError.{WavError}
use Rattle.wav_io.specs.declared.error.WavError.TheVariants as wav_whys
use Rattle.lab_shelf.specs.Counts.{Rose}
use Rattle.lab_stop.specs.declared.stop.Stop.{Stop}
use Rattle.lab_stop.specs.declared.stop.Stop.TheVariants.{Words, Script, Conf, Wav, Read, No, Write, Memory}
use Rattle.lab_stop.specs.Causes.{Cause, missing, script_refused, conf_refused, wav_refused, not_a_run}

-- Where a command stops: at its words; at its input, which is refused; at a fetch that fails, which is counted; at a test, by which files aren't those of a
-- run; at its output, of which a write or a put fails, which is counted; or wherever memory runs out.
pub data StopKind : Type 0 where
  at_words : StopKind
  at_input : StopKind
  at_fetch : StopKind
  at_test : StopKind
  at_output : StopKind
  at_memory : StopKind

-- what is known of a stop: where it is, which says also whether a count of faults rises by it, and the cause that the files give for it, if it is at one; a
-- fetch that fails is at one over reliable files alone
pub record StopFacts : Type 0 where
  pub kind : StopKind
  pub cause : Option Cause

-- each stop
abbrev pub stop_facts : Stop → StopFacts
stop_facts Words = record { kind = at_words; cause = None }
stop_facts (Script error) = record { kind = at_input; cause = Some (script_refused error) }
stop_facts (Conf error) = record { kind = at_input; cause = Some (conf_refused error) }
stop_facts (Wav name why) = record { kind = at_input; cause = Some (wav_refused name.items why) }
stop_facts (Read name) = record { kind = at_fetch; cause = Some (missing name.items) }
stop_facts (No line) = record { kind = at_test; cause = Some (not_a_run line) }
stop_facts Write = record { kind = at_output; cause = None }
stop_facts Memory = record { kind = at_memory; cause = None }

-- the exit status: 1 for the words, 2 for the script or the configuration, 3 for a client's file, 4 for a read, 5 for a write, 6 for memory, 7 for files that
-- aren't those of a run
abbrev pub status_of : {T : Type 0} → Result T Stop → ℕ
status_of (Ok done) = 0
status_of (Err Words) = 1
status_of (Err (Script error)) = 2
status_of (Err (Conf error)) = 2
status_of (Err (Wav name why)) = 3
status_of (Err (Read name)) = 4
status_of (Err Write) = 5
status_of (Err Memory) = 6
status_of (Err (No line)) = 7

-- ---- what is refused

-- the stop at a script that is refused
abbrev pub IsScriptStop : ScriptWhy → ScriptError → Stop → Type 0
IsScriptStop script_whys.Memory error stop = stop ≡ Memory
IsScriptStop why error stop = stop ≡ Script error

-- the stop at a configuration that is refused
abbrev pub IsConfStop : ConfWhy → ConfError → Stop → Type 0
IsConfStop conf_whys.Memory error stop = stop ≡ Memory
IsConfStop why error stop = stop ≡ Conf error

-- the stop names a file and why it is refused, unless there was no memory for that
abbrev pub NamesWav : WavError → List ℕ → Stop → Type 0
NamesWav why file (Wav name because) = (name.items ≡ file) × (because ≡ why)
NamesWav why file Memory = ⊤
NamesWav why file other = ⊥

-- the stop at a client's file that is refused
abbrev pub IsWavStop : WavError → List ℕ → Stop → Type 0
IsWavStop wav_whys.Memory file stop = stop ≡ Memory
IsWavStop why file stop = NamesWav why file stop

-- ---- calls that only read

-- a call that writes nothing stops for the script, a client's file, a read or memory
abbrev pub IsReadKind : StopKind → Type 0
IsReadKind at_input = ⊤
IsReadKind at_fetch = ⊤
IsReadKind at_memory = ⊤
IsReadKind other = ⊥

abbrev pub IsReadStop : Stop → Type 0
IsReadStop stop = IsReadKind (stop_facts stop).kind

-- what the files give is this cause, if there is one
abbrev pub IsRefusedFor : {Y : Type 0} → Option Cause → Result Y Cause → Type 0
IsRefusedFor None given = ⊤
IsRefusedFor (Some e) given = given ≡ Err e

-- a call that only reads and tests stops at the first cause that the files give, unless a fetch failed or memory ran out
abbrev pub IsCauseAt : {Y : Type 0} → StopKind → Option Cause → Result Y Cause → Type 0
IsCauseAt at_input cause given = IsRefusedFor cause given
IsCauseAt at_fetch cause given = ⊤
IsCauseAt at_test cause given = IsRefusedFor cause given
IsCauseAt at_memory cause given = ⊤
IsCauseAt other cause given = ⊥

abbrev pub IsCauseOf : {Y : Type 0} → Stop → Result Y Cause → Type 0
IsCauseOf stop given = IsCauseAt (stop_facts stop).kind (stop_facts stop).cause given

-- a call that only reads and tests answers what the files give, seen by a view, or stops at the cause that they give
abbrev pub AnswersOrStops : {X Y : Type 0} → (X → Y) → Result X Stop → Result Y Cause → Type 0
AnswersOrStops view (Ok x) given = given ≡ Ok (view x)
AnswersOrStops view (Err stop) given = IsCauseOf stop given

-- a call that only reads stops neither for the words, nor at a test, nor for a write; the count of fetches that failed rises exactly where it
-- stops for a read
abbrev pub FetchCount : StopKind → ℕ → ℕ → Type 0
FetchCount at_input before now = now ≡ before
FetchCount at_fetch before now = (before ≤ now) × Rose before now
FetchCount at_memory before now = now ≡ before
FetchCount other before now = ⊥

abbrev pub FetchFaults : {X : Type 0} → Result X Stop → ℕ → ℕ → Type 0
FetchFaults (Ok x) before now = now ≡ before
FetchFaults (Err stop) before now = FetchCount (stop_facts stop).kind before now

-- the same of a call that reads and tests, which may stop at a test too
abbrev pub TestCount : StopKind → ℕ → ℕ → Type 0
TestCount at_test before now = now ≡ before
TestCount other before now = FetchCount other before now

abbrev pub TestFaults : {X : Type 0} → Result X Stop → ℕ → ℕ → Type 0
TestFaults (Ok x) before now = now ≡ before
TestFaults (Err stop) before now = TestCount (stop_facts stop).kind before now

-- a call that only reads, over reliable files, stops at a read only where the file is missing that the stop names
abbrev pub IsMissingAt : {Y : Type 0} → StopKind → Option Cause → Result Y Cause → Type 0
IsMissingAt at_fetch cause given = IsRefusedFor cause given
IsMissingAt other cause given = ⊤

abbrev pub Misses : {X Y : Type 0} → Result X Stop → Result Y Cause → Type 0
Misses (Ok x) given = ⊤
Misses (Err stop) given = IsMissingAt (stop_facts stop).kind (stop_facts stop).cause given

-- ---- calls that only write

-- a call that only writes stops for a write or for memory
abbrev pub IsWriteKind : StopKind → Type 0
IsWriteKind at_output = ⊤
IsWriteKind at_memory = ⊤
IsWriteKind other = ⊥

abbrev pub IsWriteStop : Stop → Type 0
IsWriteStop stop = IsWriteKind (stop_facts stop).kind

-- the count of writes, or of puts, that failed rises exactly where a call stops for a write
abbrev pub WriteCount : StopKind → ℕ → ℕ → Type 0
WriteCount at_output before now = (before ≤ now) × Rose before now
WriteCount other before now = now ≡ before

abbrev pub WriteFaults : {X : Type 0} → Result X Stop → ℕ → ℕ → Type 0
WriteFaults (Ok x) before now = now ≡ before
WriteFaults (Err stop) before now = WriteCount (stop_facts stop).kind before now

-- ---- commands

-- neither count changed: that of writes that failed, nor that of puts
pub record AreSameCounts (writes writes_now puts puts_now : ℕ) : Type 0 where
  pub writes_same : writes_now ≡ writes
  pub puts_same : puts_now ≡ puts

-- one of the two counts rises exactly where a call that stores and puts stops for a write
abbrev pub OutputCount : StopKind → ℕ → ℕ → ℕ → ℕ → Type 0
OutputCount at_output writes writes_now puts puts_now = Rose writes writes_now ⊎ Rose puts puts_now
OutputCount other writes writes_now puts puts_now = AreSameCounts writes writes_now puts puts_now

abbrev pub OutputFaults : {X : Type 0} → Result X Stop → ℕ → ℕ → ℕ → ℕ → Type 0
OutputFaults (Ok x) writes writes_now puts puts_now = AreSameCounts writes writes_now puts puts_now
OutputFaults (Err stop) writes writes_now puts puts_now = OutputCount (stop_facts stop).kind writes writes_now puts puts_now

-- the count of fetches that failed rises exactly where a call stops for a read
abbrev pub InputCount : StopKind → ℕ → ℕ → Type 0
InputCount at_fetch before now = Rose before now
InputCount other before now = now ≡ before

abbrev pub InputFaults : {X : Type 0} → Result X Stop → ℕ → ℕ → Type 0
InputFaults (Ok x) before now = now ≡ before
InputFaults (Err stop) before now = InputCount (stop_facts stop).kind before now

-- the first cause that the files give is this one, if there is one
abbrev pub IsFirstCause : Option Cause → Option Cause → Type 0
IsFirstCause None first = ⊤
IsFirstCause (Some e) first = first ≡ Some e

-- a command that reads and writes ends as the first cause says, but for a fetch that fails and for memory; it writes only
-- where there is none
abbrev pub IsEndAt : StopKind → Option Cause → Option Cause → Type 0
IsEndAt at_input cause first = IsFirstCause cause first
IsEndAt at_test cause first = IsFirstCause cause first
IsEndAt at_output cause first = first ≡ None
IsEndAt other cause first = ⊤

abbrev pub EndsOf : {X : Type 0} → Result X Stop → Option Cause → Type 0
EndsOf (Ok x) first = first ≡ None
EndsOf (Err stop) first = IsEndAt (stop_facts stop).kind (stop_facts stop).cause first

-- a command that reads and writes, over reliable files and a reliable output, stops at a read only where the first cause is
-- that the file is missing that the stop names, and never at a write
abbrev pub IsReliableEndAt : StopKind → Option Cause → Option Cause → Type 0
IsReliableEndAt at_fetch cause first = IsFirstCause cause first
IsReliableEndAt at_output cause first = ⊥
IsReliableEndAt other cause first = ⊤

abbrev pub EndsReliably : {X : Type 0} → Result X Stop → Option Cause → Type 0
EndsReliably (Ok x) first = ⊤
EndsReliably (Err stop) first = IsReliableEndAt (stop_facts stop).kind (stop_facts stop).cause first

-- a command refuses the words exactly where they have no form
abbrev pub HasFormAt : {Y : Type 0} → StopKind → Option Y → Type 0
HasFormAt at_words form = form ≡ None
HasFormAt other form = IsSome form

abbrev pub Refuses : {X Y : Type 0} → Result X Stop → Option Y → Type 0
Refuses (Ok x) form = IsSome form
Refuses (Err stop) form = HasFormAt (stop_facts stop).kind form
