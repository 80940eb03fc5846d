-- The names that most proofs of this crate cite, passed on from one place. Declares nothing.
pub use Rattle.std.proofs.Common.{ap, arith, false, inl, inr, List, map, refl, rules, subst, sym, ℕ, [], ◌++◌, ◌∙◌, ◌∷◌, ◌≡◌, ◌≢◌, ◌⊎◌}
pub use Rattle.std.proofs.lemmas.Bool.Decides.{nat_tests}
pub use Rattle.std.proofs.lemmas.Result.{err_from_is_err_and, on_err_weaker, on_ok_weaker}
pub use Rattle.std.specs.Option.{ForSome, option_map}
pub use Rattle.std.specs.Prelude.{All, Err, IfErr, is_ok, MatchResult, None, not, Ok, OnErr, OnOk, Option, Result, Some, string_bytes, ℤ, ⊤, ◌&&◌}
pub use Rattle.mix_core.specs.declared.gate.Pass.{Pass}
pub use Rattle.mix_core.specs.declared.gate.StepKind.{StepKind}
pub use Rattle.wav_io.specs.Sound.{Sound}
pub use Rattle.lab_shelf.specs.Files.{Files, IsPartWritten, TookPart, with_file}
pub use Rattle.lab_lines.specs.declared.line.Item.{Item}
pub use Rattle.lab_lines.specs.declared.script.Script.{Script}
pub use Rattle.lab_lines.specs.Limits.{IsScript}
pub use Rattle.lab_run.specs.LabRun.{lab_text, Outcome}
pub use Rattle.lab_run.specs.Openings.{IsSessionOf}
pub use Rattle.lab_run.specs.Phases.{AreUnmixed}
pub use Rattle.lab_run.specs.Stage.{Session}
pub use Rattle.lab_phase.specs.Ended.{outcome_in}
pub use Rattle.lab_phase.specs.PhaseRuns.{Stops, stops_by}
pub use Rattle.run_laws.specs.Exact.{IsExactRun, IsOwnRun, IsUnstoppedRun}
pub use Rattle.run_laws.specs.OneSession.{HaveOneSession}
pub use Rattle.lab_stop.specs.declared.stop.Stop.{Stop}
pub use Rattle.lab_stop.specs.EndLaws.{EndsOf-answered, EndsOf-written, EndsReliably-answered, EndsReliably-written, InputFaults-other, OnOk-done}
pub use Rattle.lab_stop.specs.EndLaws.{OutputFaults-other, Refuses-tests, Refuses-written, status_of-most, status_of-read, status_of-written}
pub use Rattle.lab_stop.specs.FaultLaws.{FetchFaults-only, InputFaults-reads, InputFaults-same, InputFaults-tests, IsWriteKind-only, OutputFaults-after}
pub use Rattle.lab_stop.specs.FaultLaws.{OutputFaults-kept, OutputFaults-memory, OutputFaults-puts, OutputFaults-reads, OutputFaults-tests, OutputFaults-writes}
pub use Rattle.lab_stop.specs.Stops.{EndsOf, EndsReliably, InputFaults, IsWriteStop, Refuses, status_of, stop_facts}
pub use Rattle.lab_input.specs.Input.{input_in, RunInput}
pub use Rattle.lab_input.specs.Read.{input_of}
pub use Rattle.lab_output.specs.Files.{finished_files, output_files}
pub use Rattle.lab_compare.specs.Checking.{check_in, IsCheckedRun}
pub use Rattle.lab_make.specs.declared.summary.Summary.{Summary}
pub use Rattle.lab_make.specs.declared.workload.Workload.{Workload}
pub use Rattle.lab_make.specs.Files.{IsMadeSound, made_sounds}
pub use Rattle.lab_make.specs.Script.{made_body, made_opening, made_script, turn_items, write_line}
pub use Rattle.lab_make.specs.Stored.{InputInPart, IsReadBack, made_input, with_input, with_workload}
pub use Rattle.lab_make.specs.Summary.{IsSummaryOf, summary_text}
pub use Rattle.lab_play.specs.Played.{HasPlayed, HasPlayedAsking, HasPlayedPart, IsUntouched, sounds_of}
pub use Rattle.lab_play.specs.Stops.{HaveNoStops, rises}
pub use Rattle.lab_commands.specs.Made.{HasPutSummary, HasPutSummaryPart, IsMadeAsking, IsMadePart, IsOnlyMade, made_outcome, made_report, output_name}
pub use Rattle.lab_commands.specs.Made.{report_name, with_made, with_run_files}
pub use Rattle.lab_commands.specs.Run.{HasFinished, HasFinishedAsking, IsOnlyRun, IsOnlyRunOf, IsUnfinished}
pub use Rattle.lab_commands.specs.Top.{AskedIn, cause_in, cause_of, ComesExactly, CommandLeaves, EndsWell, IsConfRefused, IsScriptRefused, LeavesAt, OnlyIn}
pub use Rattle.lab_commands.specs.Top.{SaysWhy}
pub use Rattle.lab_commands.specs.Words.{check, conf, Form, form_of, make, refine, run, texts}
unfoldable pub use Rattle.lab_commands.specs.Words.{help_text}
