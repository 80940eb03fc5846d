-- What the command `make` leaves.
--     IsMade      it is done: the workload is stored and run, its report is stored, and its summary was put
--     IsMadeAsking      and the run asked its gates as often as it counts
--     IsOnlyMade      what it leaves is the only thing that it can leave
--     IsMadePart      it stopped in its output
use Rattle.std.specs.Prelude.{◌≡◌, ◌⊎◌, ◌++◌, ℕ, List, [], codes, Option, Some, None, Ok}
use Rattle.std.specs.Option.{ForSome, option_map}
use Rattle.mix_core.specs.declared.gate.Pass.{Pass}
use Rattle.mix_core.specs.declared.gate.StepKind.{StepKind}
use Rattle.run_laws.specs.Exact.{IsOwnRun}
use Rattle.lab_input.specs.Input.{input_in}
use Rattle.lab_output.specs.Files.{output_files, finished_files}
use Rattle.lab_phase.specs.PhaseRuns.{HaveAsked, Stops}
use Rattle.lab_play.specs.Played.{HasPlayedPart, IsRunOf, sounds_of}
use Rattle.lab_play.specs.Stops.{HaveNoStops}
use Rattle.lab_report.specs.Text.{report_text}
use Rattle.lab_run.specs.LabRun.{Outcome, lab_text}
use Rattle.lab_run.specs.Openings.{IsSessionOf}
use Rattle.lab_run.specs.Stage.{Session, first_stage}
use Rattle.lab_shelf.specs.Files.{Files, IsPartWritten, TookPart, with_file}
use Rattle.lab_make.specs.declared.summary.Summary.{Summary}
use Rattle.lab_make.specs.declared.workload.Workload.{Workload}
use Rattle.lab_make.specs.Script.{made_script}
use Rattle.lab_make.specs.Summary.{IsSummaryOf, summary_text}
use Rattle.lab_make.specs.Stored.{WorkloadInPart, made_input, script_name, with_workload}

-- the name of the run's output, so that its file is made.wav
abbrev pub output_name : List ℕ
output_name = codes "made"

-- the name of the file with the report's text
abbrev pub report_name : List ℕ
report_name = codes "made.report"

-- the text of a run's report
abbrev pub made_report : Workload → Outcome → List ℕ
made_report w outcome = report_text (made_script w.clients w.phases) outcome.report

-- the files, with a workload stored, and then what a run of it writes
abbrev pub with_run_files : Workload → Outcome → Files → Files
with_run_files w outcome files =
    finished_files (output_files (made_script w.clients w.phases) output_name)
    (sounds_of outcome) (with_workload w files)

-- the files, with the report stored as well
abbrev pub with_made : Workload → Outcome → Files → Files
with_made w outcome files = with_file (with_run_files w outcome files) report_name (made_report w outcome)

-- what a run of a workload leaves where each of its lines has the one answer that it has by itself
abbrev pub made_outcome : Workload → Session → Outcome
made_outcome w session = lab_text session None (made_script w.clients w.phases).body

-- what is left is the only thing that can be: that of the one run of a workload whose clients no gate stops, since none of its phases is mixed
pub record IsOnlyMade (w : Workload) (before after : Option Files)
    (taken taken_after : Option (List ℕ)) : Type 0 where
  pub files : (session : Session)
      → IsSessionOf (made_script w.clients w.phases) (made_input w).sounds session
      → after ≡ option_map (with_made w (made_outcome w session)) before
  pub text : (session : Session) (summary : Summary)
      → IsSessionOf (made_script w.clients w.phases) (made_input w).sounds session
      → IsSummaryOf w (made_outcome w session).report (made_outcome w session).played summary
      → taken_after ≡ option_map (λ t. t ++ summary_text summary) taken

-- the text of a run's summary was put
pub record HasPutSummary (w : Workload) (outcome : Outcome)
    (taken taken_after : Option (List ℕ)) : Type 0 where
  pub summary : Summary
  pub is_summary : IsSummaryOf w outcome.report outcome.played summary
  pub text : taken_after ≡ option_map (λ t. t ++ summary_text summary) taken

-- the first bytes of it were put
pub record HasPutSummaryPart (w : Workload) (outcome : Outcome)
    (taken taken_after : Option (List ℕ)) : Type 0 where
  pub summary : Summary
  pub is_summary : IsSummaryOf w outcome.report outcome.played summary
  pub text : TookPart taken taken_after (summary_text summary)

-- The command is done. The workload is stored, and what is stored is what `run made.script made` reads. There are a report and samples that are of a run
-- of it, in which each gate stopped its client at most so often (`IsRunOf`); made.wav is the WAV file of the samples, made.report has the text of the
-- report, no other file changed, and the output took the text of their summary. Where no gate stopped a client, that is the only thing that can be left,
-- and each client does in the run what it does by itself.
pub record IsMade (w : Workload) (stops : Stops) (before after : Option Files)
    (taken taken_after : Option (List ℕ)) : Type 0 where
  pub session : Session
  pub outcome : Outcome
  pub read : ForSome before
      (λ files. input_in (with_workload w files) script_name ≡ Ok (made_input w))
  pub is : IsRunOf (made_input w) session stops outcome
  pub own : HaveNoStops stops → IsOwnRun (made_script w.clients w.phases) session outcome
  pub only : HaveNoStops stops → IsOnlyMade w before after taken taken_after
  pub files : after ≡ option_map (with_made w outcome) before
  pub text : HasPutSummary w outcome taken taken_after

-- and from the beginning of the run to its end the clients asked these gates as often as it counts
pub record IsMadeAsking {T : Type 0} (asked : T → T → List StepKind → Pass → Type 0)
    (gates gates_after : List T) (w : Workload) (stops : Stops) (before after : Option Files)
    (taken taken_after : Option (List ℕ)) : Type 0 where
  pub made : IsMade w stops before after taken taken_after
  pub gates_asked : HaveAsked asked gates gates_after (first_stage made.session) made.is.run.end

-- the command stopped while it stored the workload
pub record StoppedBefore (w : Workload) (before after : Option Files)
    (taken taken_after : Option (List ℕ)) : Type 0 where
  pub files : WorkloadInPart w before after
  pub text : taken_after ≡ taken

-- it stopped in the run of the workload, which is stored, and in which each gate stopped its client at most so often; the report's text so far isn't stored
pub record StoppedInRun (w : Workload) (stops : Stops) (before after : Option Files)
    (taken taken_after : Option (List ℕ)) : Type 0 where
  pub report : List ℕ
  pub run : HasPlayedPart (made_input w) output_name stops (option_map (with_workload w) before)
      after (Some []) (Some report)
  pub text : taken_after ≡ taken

-- it stopped after the run, which is done, while it stored the report or before
pub record StoppedAfterRun (w : Workload) (stops : Stops) (before after : Option Files)
    (taken taken_after : Option (List ℕ)) : Type 0 where
  pub session : Session
  pub outcome : Outcome
  pub is : IsRunOf (made_input w) session stops outcome
  pub files : IsPartWritten (option_map (with_run_files w outcome) before) after
      report_name (made_report w outcome)
  pub text : taken_after ≡ taken

-- it stopped while it put the summary, or before; everything is stored
pub record StoppedAtEnd (w : Workload) (stops : Stops) (before after : Option Files)
    (taken taken_after : Option (List ℕ)) : Type 0 where
  pub session : Session
  pub outcome : Outcome
  pub is : IsRunOf (made_input w) session stops outcome
  pub files : after ≡ option_map (with_made w outcome) before
  pub text : HasPutSummaryPart w outcome taken taken_after

-- the command stopped in its output: in one of its four parts, each of which begins when the one before it is done
abbrev pub IsMadePart : Workload → Stops → Option Files → Option Files → Option (List ℕ)
    → Option (List ℕ) → Type 0
IsMadePart w stops before after taken taken_after =
    StoppedBefore w before after taken taken_after
    ⊎ (StoppedInRun w stops before after taken taken_after
    ⊎ (StoppedAfterRun w stops before after taken taken_after
    ⊎ StoppedAtEnd w stops before after taken taken_after))
