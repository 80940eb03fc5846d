-- Where all tests of a check pass, its files are those of a checked run.
use Rattle.lab_compare.specs.Prelude.{Err, List, map, refl, ℕ, [], ◌≡◌, ForSome, Ok, OnOk, Option, Result, canonical, Sound, Files, Report, Script, IsChecked}
use Rattle.lab_compare.specs.Prelude.{run_sounds, run_samples, AnswersOrStops, input_in, RunInput, IsCheckedRun, IsReportIn, outputs_in}
use Rattle.lab_check.specs.Shown.{IsShown}
use Rattle.lab_stop.specs.declared.stop.Stop.{Stop}
use Rattle.lab_compare.proofs.PassedChecks.{outputs-tell}

-- what is known where the check is done; and what checked runs show
pub IsCheckedRun-done : ((script : Script) (wavs : List Sound) (capture : Option Sound) (text : List ℕ) (files : List (List ℕ)) → IsChecked script wavs capture text files
    → IsShown script wavs capture text files)
    → (files : Option Files) (script name out : List ℕ) (input : RunInput) (report : Report) (end : Result (Unit {0}) Stop)
    → ForSome files (λ m. input_in m script ≡ Ok input) → IsReportIn files input name report
    → ForSome files (λ m. AnswersOrStops (λ done. done) end (outputs_in m input out report)) → OnOk end (IsCheckedRun files script name out)
IsCheckedRun-done show files script name out input report (Ok done) read in_file outputs =
    let contents : List (List ℕ) = map canonical (run_sounds input.script (run_samples input.script input.sounds input.capture report)) in
    let checked : IsChecked input.script input.sounds input.capture in_file.text contents = record { report = report; passes = in_file.passes; files_are = refl } in
    record {
      input = input;
      read = read;
      text = in_file.text;
      fetched = in_file.fetched;
      contents = contents;
      held = λ m told. (outputs-tell m input out report).0 (outputs m told);
      checked = checked;
      shown = show input.script input.sounds input.capture in_file.text contents checked;
    }
IsCheckedRun-done show files script name out input report (Err stop) read in_file outputs = tt
