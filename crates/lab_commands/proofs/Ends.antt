-- Exit statuses 2, 3 and 7 come exactly where their causes do, how a call ends where nothing fails, and the line that says why.
use Rattle.lab_commands.specs.Prelude.{arith, List, ℕ, ◌≡◌, ◌≢◌, ◌⊎◌, nat_tests, ForSome, IfErr, Option, Result, Some, Files, TookPart, Stop, EndsOf}
use Rattle.lab_commands.specs.Prelude.{EndsReliably, InputFaults, Refuses, status_of, cause_in, cause_of, ComesExactly, EndsWell, IsConfRefused}
use Rattle.lab_commands.specs.Prelude.{IsScriptRefused, SaysWhy, Form, form_of}
use Rattle.wav_io.specs.declared.error.WavError.{WavError}
use Rattle.lab_shelf.specs.Counts.{Rose}
use Rattle.lab_stop.specs.Causes.{not_a_run, wav_refused}
use Rattle.lab_stop.specs.Lines.{stop_line}

-- status 2 comes exactly where a text is refused
pub status_of-text : {T : Type 0} (end : Result T Stop) (form : Option Form) (files : Files) (before now : ℕ)
    → EndsOf end (cause_in form files) → Refuses end form → InputFaults end before now
    → ComesExactly 2 (status_of end) (Rose before now) (IsScriptRefused (cause_in form files) ⊎ IsConfRefused (cause_in form files))
status_of-text other form files before now ends refuses faults = grind (arith, nat_tests)

-- status 3 comes exactly where a client's file is refused
pub status_of-wav : {T : Type 0} (end : Result T Stop) (form : Option Form) (files : Files) (before now : ℕ)
    → EndsOf end (cause_in form files) → Refuses end form → InputFaults end before now
    → ComesExactly 3 (status_of end) (Rose before now) ((name : List ℕ) × ((e : WavError) × (cause_in form files ≡ Some (wav_refused name e))))
status_of-wav other form files before now ends refuses faults = grind (arith, nat_tests)

-- status 7 comes exactly where files aren't those of a run
pub status_of-no : {T : Type 0} (end : Result T Stop) (form : Option Form) (files : Files) (before now : ℕ)
    → EndsOf end (cause_in form files) → Refuses end form → InputFaults end before now
    → ComesExactly 7 (status_of end) (Rose before now) ((line : ℕ) × (cause_in form files ≡ Some (not_a_run line)))
status_of-no other form files before now ends refuses faults = grind (arith, nat_tests)

-- over reliable files and a reliable output a call ends well
pub status_of-reliable : {T : Type 0} (end : Result T Stop) (words : List (List ℕ)) (files : Files)
    → EndsOf end (cause_in (form_of words) files) → Refuses end (form_of words) → EndsReliably end (cause_in (form_of words) files)
    → EndsWell (status_of end) words files
status_of-reliable other words files ends refuses reliable = grind (arith, nat_tests)

-- a sink took the line that says why a call isn't done
pub SaysWhy-stop : (end : Result (Unit {0}) Stop) (reliable : Type 0) (words : List (List ℕ)) (files : Option Files) (taken taken_after : Option (List ℕ))
    → ForSome files (λ m. EndsOf end (cause_of words m)) → (reliable → ForSome files (λ m. EndsReliably end (cause_of words m)))
    → IfErr end (λ stop. TookPart taken taken_after (stop_line stop)) → status_of end ≢ 0
    → SaysWhy reliable (status_of end) words files taken taken_after
SaysWhy-stop end reliable words files taken taken_after cause missing took other = grind (arith, nat_tests)
