-- What a run reads: its script, the sound that its card captures, and its clients' sounds.
use Rattle.lab_input.specs.Prelude.{ap, List, subst, sym, ℕ, ◌∙◌, ◌≡◌, ForSome, Err, Ok, Option, Result, Sound, Files, ClientLine, Stop, Cause, first_bytes}
use Rattle.lab_input.specs.Prelude.{◌>>=◌, FetchFaults, IsCauseOf, IsScriptStop, Misses, as_script, capture_in, input_in, RunInput, script_in, sounds_in}
use Rattle.lab_lines.specs.declared.script.Script.{Script}
use Rattle.lab_script.specs.declared.error.ScriptError.{ScriptError}
use Rattle.lab_script.specs.declared.error.ScriptWhy.{ScriptWhy}
use Rattle.lab_script.specs.Reading.{script_of, RefusesAt}
use Rattle.lab_script.specs.declared.error.ScriptWhy.TheVariants as why
use Rattle.lab_stop.specs.declared.stop.Stop.TheVariants as stops

-- ---- the script

-- the script, where this is what the first bytes of its file are
abbrev script_from : Result (List ℕ) Cause → Result Script Cause
script_from bytes = bytes >>= λ text. as_script (script_of text)

pub script_in-missing : (files : Files) (name : List ℕ) (e : Cause)
    → first_bytes files name 1048577 ≡ Err e → script_in files name ≡ Err e
unfolding script_in
script_in-missing files name e is = ap script_from is

-- what the bytes of a script spell is the script
script_in-read : (files : Files) (name text : List ℕ) → first_bytes files name 1048577 ≡ Ok text
    → script_in files name ≡ as_script (script_of text)
unfolding script_in
script_in-read files name text is = ap script_from is

pub script_in-all : (files : Option Files) (name text spelled : List ℕ) (script : Script)
    → ForSome files (λ m. first_bytes m name 1048577 ≡ Ok text) → spelled ≡ text → script_of spelled ≡ Ok script
    → ForSome files (λ m. script_in m name ≡ Ok script)
script_in-all files name text spelled script read same is m told =
    script_in-read m name text (read m told) ∙ ap (λ (t : List ℕ). as_script (script_of t)) (sym same) ∙ ap as_script is

-- what holds of a stop for memory, and of the refusal, holds of a stop at a text that is refused
refused-holds : (holds : Stop → Type 0) (why : ScriptWhy) (error : ScriptError) (stop : Stop) (said : Result Script ScriptError)
    → holds stops.Memory → (said ≡ Err error → holds (stops.Script error)) → RefusesAt why error said → IsScriptStop why error stop → holds stop
refused-holds holds why.Memory error stop said memory script refuses is = subst holds (sym is) memory
refused-holds holds other error stop said memory script refuses is = subst holds (sym is) (script refuses)

-- a stop at a script that is refused is at that cause
pub script_in-refused : (files : Option Files) (name text spelled : List ℕ) (error : ScriptError) (stop : Stop)
    → ForSome files (λ m. first_bytes m name 1048577 ≡ Ok text) → spelled ≡ text
    → RefusesAt error.why error (script_of spelled) → IsScriptStop error.why error stop
    → ForSome files (λ m. IsCauseOf stop (script_in m name))
script_in-refused files name text spelled error stop read same refuses is m told =
    subst (λ (r : Result Script Cause). IsCauseOf stop r)
    (sym (script_in-read m name text (read m told) ∙ ap (λ (t : List ℕ). as_script (script_of t)) (sym same)))
    (refused-holds (λ (s : Stop). IsCauseOf s (as_script (script_of spelled))) error.why error stop (script_of spelled) tt (ap as_script) refuses is)

-- a stop at a script that is refused is at no missing file
pub Misses-refused : {Y : Type 0} (error : ScriptError) (stop : Stop) (said : Result Script ScriptError) (given : Result Y Cause)
    → RefusesAt error.why error said → IsScriptStop error.why error stop
    → Misses {X = Unit {0}} (Err stop) given
Misses-refused {Y} error stop said given refuses is =
    refused-holds (λ (s : Stop). Misses {X = Unit {0}} (Err s) given) error.why error stop said tt (λ e. tt) refuses is

-- a stop at a script that is refused counts no fault
pub FetchFaults-refused : (error : ScriptError) (stop : Stop) (said : Result Script ScriptError) (before now : ℕ)
    → RefusesAt error.why error said → IsScriptStop error.why error stop
    → now ≡ before → FetchFaults {X = Unit {0}} (Err stop) before now
FetchFaults-refused error stop said before now refuses is same =
    refused-holds (λ (s : Stop). FetchFaults {X = Unit {0}} (Err s) before now) error.why error stop said same (λ e. same) refuses is

-- ---- the sounds

-- what a run reads, where these are its script, and its sounds once the script is there
abbrev input_from : Files → Result Script Cause → Result RunInput Cause
input_from files script = do
  s ← script
  capture ← capture_in files s.card.capture
  sounds ← sounds_in files capture.1 s.card s.clients
  Ok (record { script = s; capture = capture.0; sounds = sounds })

pub input_in-missing : (files : Files) (name : List ℕ) (e : Cause)
    → script_in files name ≡ Err e → input_in files name ≡ Err e
unfolding input_in
input_in-missing files name e is = ap (input_from files) is

-- the input of a script that is there
abbrev captured_from : Files → Script → Result (Option Sound × ℕ) Cause → Result RunInput Cause
captured_from files script captured = do
  capture ← captured
  sounds ← sounds_in files capture.1 script.card script.clients
  Ok (record { script = script; capture = capture.0; sounds = sounds })

input_in-script : (files : Files) (name : List ℕ) (script : Script) → script_in files name ≡ Ok script
    → input_in files name ≡ captured_from files script (capture_in files script.card.capture)
unfolding input_in
input_in-script files name script is = ap (input_from files) is

-- what the captured file is refused for, the input is
pub capture-missing : (files : Files) (name : List ℕ) (script : Script) (e : Cause) → script_in files name ≡ Ok script
    → capture_in files script.card.capture ≡ Err e → input_in files name ≡ Err e
capture-missing files name script e read is = input_in-script files name script read ∙ ap (captured_from files script) is

-- the input of a script and of a captured sound that are there
abbrev sounds_from : Script → Option Sound → Result (List Sound) Cause → Result RunInput Cause
sounds_from script capture read = do
  sounds ← read
  Ok (record { script = script; capture = capture; sounds = sounds })

input_in-captured : (files : Files) (name : List ℕ) (script : Script) (captured : Option Sound × ℕ) (clients : List ClientLine)
    → clients ≡ script.clients → script_in files name ≡ Ok script → capture_in files script.card.capture ≡ Ok captured
    → input_in files name ≡ sounds_from script captured.0 (sounds_in files captured.1 script.card clients)
input_in-captured files name script captured clients listed read is =
    input_in-script files name script read
    ∙ ap (captured_from files script) is
    ∙ ap (λ cs. sounds_from script captured.0 (sounds_in files captured.1 script.card cs)) (sym listed)

-- what the clients' sounds are refused for, the input is
pub sounds-missing : (files : Files) (name : List ℕ) (script : Script) (captured : Option Sound × ℕ) (clients : List ClientLine) (e : Cause)
    → clients ≡ script.clients → script_in files name ≡ Ok script → capture_in files script.card.capture ≡ Ok captured
    → sounds_in files captured.1 script.card clients ≡ Err e → input_in files name ≡ Err e
sounds-missing files name script captured clients e listed read found is =
    input_in-captured files name script captured clients listed read found ∙ ap (sounds_from script captured.0) is

-- the input of a script, of a captured sound and of sounds that are there
pub input_in-all : (files now then_ : Option Files) (name : List ℕ) (script : Script) (captured : Option Sound × ℕ) (clients : List ClientLine) (sounds : List Sound)
    → clients ≡ script.clients → now ≡ files → then_ ≡ now
    → ForSome files (λ m. script_in m name ≡ Ok script)
    → ForSome now (λ m. capture_in m script.card.capture ≡ Ok captured)
    → ForSome then_ (λ m. sounds_in m captured.1 script.card clients ≡ Ok sounds)
    → ForSome files (λ m. input_in m name ≡ Ok (record { script = script; capture = captured.0; sounds = sounds }))
input_in-all files now then_ name script captured clients sounds listed same same_then read found is m told =
    input_in-captured m name script captured clients listed (read m told) (found m (same ∙ told))
    ∙ ap (sounds_from script captured.0) (is m (same_then ∙ same ∙ told))
