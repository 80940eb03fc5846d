-- How a command ends whose parts read, run and write.
use Rattle.lab_commands.specs.Prelude.{ap, arith, inl, inr, List, subst, ℕ, ◌++◌, ◌∙◌, ◌≡◌, ◌⊎◌, nat_tests, ForSome, option_map, Err, IfErr, Ok, OnErr, OnOk}
use Rattle.lab_commands.specs.Prelude.{Option, Result, Some, Pass, StepKind, Sound, Files, TookPart, Item, Script as ScriptOf, IsScript, Outcome, IsSessionOf}
use Rattle.lab_commands.specs.Prelude.{Session, Stops, IsExactRun, IsOwnRun, IsUnstoppedRun, Stop, IsWriteKind-only, IsWriteStop, stop_facts, input_in}
use Rattle.lab_commands.specs.Prelude.{RunInput, IsCheckedRun, Workload, HasPlayedAsking, HasPlayedPart, IsUntouched, IsMadeAsking, IsMadePart}
use Rattle.lab_commands.specs.Prelude.{HasFinishedAsking, IsUnfinished, CommandLeaves, LeavesAt, check, make, refine, run}
use Rattle.lab_report.specs.Ranges.{IsReportInRange}
use Rattle.lab_check.specs.Runs.{RunsAreChecked, RunsSayHeadline}
use Rattle.lab_compare.proofs.PassedChecks.{run-passes}
use Rattle.lab_refine.specs.Answered.{IsAnswerTo}
use Rattle.lab_play.specs.Exact.{HasStoppedRun}

-- what the laws of runs say of each run
pub record RunLaws : Type 0 where
  pub exact : (session : Session) (capture : Option Sound) (body : List Item) (outcome : Outcome) → IsUnstoppedRun session capture body outcome → IsExactRun session capture body outcome
  pub own : (script : ScriptOf) (wavs : List Sound) (session : Session) (capture : Option Sound) (outcome : Outcome) → IsScript script → IsSessionOf script wavs session
      → IsUnstoppedRun session capture script.body outcome → IsOwnRun script session outcome
  pub says : RunsSayHeadline
  pub checked : RunsAreChecked

-- a run that is done is finished
pub Finished-played : {T : Type 0} (asked : T → T → List StepKind → Pass → Type 0) (gates gates_after : List T) (laws : RunLaws) (input : RunInput) (script out : List ℕ) (stops : Stops)
    (before between after : Option Files) (taken taken_after : Option (List ℕ)) → ForSome before (λ files. input_in files script ≡ Ok input) → IsScript input.script → between ≡ before → (outcome : Outcome) → IsReportInRange outcome.report
    → HasPlayedAsking asked gates gates_after input out stops outcome between after taken taken_after
    → HasFinishedAsking asked gates gates_after script out stops before after taken taken_after
Finished-played asked gates gates_after laws input script out stops before between after taken taken_after read valid same outcome numbers asking =
    let played = asking.played in
    record {
      finished = record {
        input = input;
        read = read;
        session = played.session;
        outcome = outcome;
        is = played.is;
        exact = λ none. laws.exact played.session input.capture input.script.body outcome
            (record { client_stops = stops.clients; reader_stops = stops.readers; clients = none.clients; readers = none.readers; run = played.is.run });
        own = λ none. laws.own input.script input.sounds played.session input.capture outcome valid played.is.session_is
            (record { client_stops = stops.clients; reader_stops = stops.readers; clients = none.clients; readers = none.readers; run = played.is.run });
        says = laws.says input.script input.sounds played.session input.capture stops.clients stops.readers outcome valid played.is.session_is played.is.run;
        passes = λ held report can holds. run-passes held script report out input outcome holds
            (laws.checked input.script input.sounds played.session input.capture stops.clients stops.readers outcome valid played.is.session_is played.is.run numbers can);
        files = played.files ∙ ap (option_map _) same;
        text = played.text;
      };
      gates_asked = asking.gates_asked;
    }

module _ (laws : RunLaws) (input : RunInput) (script out : List ℕ) (gates : Stops) (before between after : Option Files) (taken taken_after : Option (List ℕ))
    (read : ForSome before (λ files. input_in files script ≡ Ok input)) (valid : IsScript input.script) (same : between ≡ before) where
  left-part : HasPlayedPart input out gates between after taken taken_after → IsUntouched before after taken taken_after ⊎ IsUnfinished script out gates before after taken taken_after
  left-part (inl untouched) = inl (record { files = untouched.files ∙ same; text = untouched.text })
  left-part (inr stopped) = inr (record { input = input; read = read; run = subst (λ (b : Option Files). HasStoppedRun input out gates b after taken taken_after) same stopped })

  -- what a run leaves that was read and stopped
  pub CommandLeaves-stopped : (stop : Stop) → IsWriteStop stop → HasPlayedPart input out gates between after taken taken_after
      → CommandLeaves {X = Unit {0}} (Err stop) (Some (run script out)) gates before after taken taken_after
  CommandLeaves-stopped stop only part =
      IsWriteKind-only (λ kind. LeavesAt kind (Some (run script out)) gates before after taken taken_after) (stop_facts stop).kind only (left-part part) (left-part part)

-- what a call leaves that makes a workload
pub CommandLeaves-made : {T : Type 0} (asked : T → T → List StepKind → Pass → Type 0) (gates gates_after : List T) (w : Workload) (stops : Stops) (before after : Option Files)
    (taken taken_after : Option (List ℕ)) (r : Result (Unit {0}) Stop) → IfErr r IsWriteStop
    → OnOk r (IsMadeAsking asked gates gates_after w stops before after taken taken_after)
    → OnErr r (IsUntouched before after taken taken_after ⊎ IsMadePart w stops before after taken taken_after)
    → CommandLeaves r (Some (make w)) stops before after taken taken_after
CommandLeaves-made asked gates gates_after w stops before after taken taken_after r only done part = grind (arith, nat_tests)

-- what a call leaves that puts answers
pub CommandLeaves-answered : (name text : List ℕ) (gates : Stops) (before after : Option Files) (taken taken_after : Option (List ℕ)) (r : Result (Unit {0}) Stop)
    → IfErr r IsWriteStop → IsAnswerTo before name text → after ≡ before → OnOk r (taken_after ≡ option_map (λ t. t ++ text) taken)
    → OnErr r (TookPart taken taken_after text)
    → CommandLeaves r (Some (refine name)) gates before after taken taken_after
CommandLeaves-answered name text gates before after taken taken_after r only answers files put part = grind (arith, nat_tests)

-- what a call leaves that checks a run
pub CommandLeaves-checked : (script report out : List ℕ) (gates : Stops) (before after : Option Files) (taken : Option (List ℕ)) (r : Result (Unit {0}) Stop)
    → OnOk r (IsCheckedRun before script report out) → after ≡ before → CommandLeaves r (Some (check script report out)) gates before after taken taken
CommandLeaves-checked script report out gates before after taken r done same = grind (arith, nat_tests)
