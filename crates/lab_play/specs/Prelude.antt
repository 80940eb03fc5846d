-- The names that most proofs of this crate cite, passed on from one place. Declares nothing.
pub use Rattle.std.proofs.Common.{ap, append_assoc, arith, FitsSigned, get_or, inl, inr, map, pos, refl, rules, subst, suc, sym, take, w16, zero, ◌-◌, ◌<◌, ◌∙◌}
pub use Rattle.std.proofs.Common.{◌≢◌, ◌≤◌}
pub use Rattle.std.proofs.Math.Seq.{take-append_seam, take-length}
pub use Rattle.std.proofs.lemmas.Bool.Decides.{nat_tests}
pub use Rattle.std.proofs.lemmas.List.{append-nil, get_or_default, length-append, length-map, length-take, take-append-drop, take-append-le, take_all, take_min}
pub use Rattle.std.proofs.lemmas.List.Concat.{flat_map-append}
pub use Rattle.std.proofs.lemmas.List.Elements.{All-more}
pub use Rattle.std.proofs.lemmas.Result.{IfOk-weaker}
pub use Rattle.std.specs.List.{flat_map, range_with_len}
pub use Rattle.std.specs.Option.{option_copied, option_map}
pub use Rattle.std.specs.Prelude.{All, drop, Err, IsErrAnd, IsSomeAnd, length, List, None, Ok, OnErr, OnOk, Option, Result, slice_get, slice_index_or}
pub use Rattle.std.specs.Prelude.{slice_set, Some, ℕ, ℤ, [], ◌*◌, ◌++◌, ◌+◌, ◌∷◌, ◌≡◌}
pub use Rattle.lap_word.specs.Clamp.{IsSample}
pub use Rattle.wav_io.specs.Sound.{Sound}
pub use Rattle.lab_shelf.specs.Changes.{Changes, TookPart-all, TookPart-first, TookPart-then}
pub use Rattle.lab_shelf.specs.Files.{Files, TookPart}
pub use Rattle.lab_lines.specs.declared.line.Item.{Item}
pub use Rattle.lab_lines.specs.declared.line.Line.{Line}
pub use Rattle.lab_lines.specs.declared.report.Report.{Report}
pub use Rattle.lab_lines.specs.declared.row.Row.{Row}
pub use Rattle.lab_lines.specs.declared.script.CardLine.{CardLine}
pub use Rattle.lab_lines.specs.declared.script.Script.{Script}
pub use Rattle.lab_lines.specs.Limits.{IsScript}
pub use Rattle.lab_report.specs.Text.{IsReportOf, IsRowOf, report_text, row_line, tail_text}
pub use Rattle.lab_run.specs.Items.{ItemMay, items_text, ItemsMay}
pub use Rattle.lab_run.specs.LabRun.{all_segments, AreWithin, CanGoOn, entries_of, IsOneRun, lab_text, LabRun, mix_of, mixed_at, Outcome, outcome_of}
pub use Rattle.lab_run.specs.LabRun.{recorded_by, recorded_from, report_of}
pub use Rattle.lab_run.specs.Openings.{AreReaderOpenings, IsSessionOf}
pub use Rattle.lab_run.specs.Reader.{Reader}
pub use Rattle.lab_run.specs.Rules.{AtPort}
pub use Rattle.lab_run.specs.ScriptWords.{IsReached}
pub use Rattle.lab_run.specs.Stage.{first_stage, no_reader, Session, Setup, Stage}
pub use Rattle.lab_phase.specs.declared.lab.Lab.{Lab}
pub use Rattle.lab_phase.specs.AskLaws.{HaveAsked-joined, HaveAsked-none, HaveSameAsks-border, HaveSameAsks-none}
pub use Rattle.lab_phase.specs.AtStage.{capture_of, DoesItem, IsAtStage, IsBorderItem, IsCardOf, IsNextItem, IsNextItem-at, IsOfScript, IsSameScript}
pub use Rattle.lab_phase.specs.AtStage.{items_done, played_by, played_of, readers_in, rows_of, session_of}
pub use Rattle.lab_phase.specs.BorderLaws.{OnOk-more, session_of-same}
pub use Rattle.lab_phase.specs.Ended.{HasPlayedMix, LeavesStage, outcome_in}
pub use Rattle.lab_phase.specs.PhaseRuns.{DoesPhase, HaveAsked, StaysAtStage, Stops, stops_by}
pub use Rattle.lab_phase.specs.StopLaws.{AreStopsOf-border, AreStopsOf-first, AreWithin-counted}
pub use Rattle.run_laws.specs.Growth.{AreGrown, BordersKeepFrames, frames_of_readers, recorded_from-at, recorded_from-grown, recorded_from-same}
pub use Rattle.run_laws.specs.Growth.{recorded_from-size, StagesGrow}
pub use Rattle.run_laws.specs.OneSample.{AreBound, AreSamples, PlaysOneSample}
pub use Rattle.run_laws.specs.Reports.{OutcomesAreOfScripts, StagesAreReported}
pub use Rattle.lab_stop.specs.EffectLaws.{CountsNoFault-then, CountsNoFault-writes, OnlyWrites-after, OnlyWrites-done, OnlyWrites-passed}
pub use Rattle.lab_stop.specs.Effects.{BothCountNoFault, CountsNoFault}
pub use Rattle.lab_stop.specs.OutputLaws.{BothCountNoFault-done, BothCountNoFault-same, BothCountNoFault-then, StoresAndPuts-after, StoresAndPuts-done}
pub use Rattle.lab_stop.specs.OutputLaws.{StoresAndPuts-nothing, StoresAndPuts-passed, StoresAndPuts-puts, StoresAndPuts-writes}
pub use Rattle.lab_input.specs.Input.{RunInput}
pub use Rattle.lab_output.specs.declared.file.OutputFile.{OutputFile}
pub use Rattle.lab_output.specs.declared.outputs.Outputs.{Outputs}
pub use Rattle.lab_output.specs.Files.{finished_files, MayHold, nothing, output_files, recorded_file, unfinished_files}
pub use Rattle.lab_output.specs.Going.{AreLonger, AreOutputs, FitsWavFile, IsGoingOn, IsPartOf, KeepSamples}
pub use Rattle.lab_output.specs.GoingLaws.{AreLonger-same, IsGoingOn-Changes}
pub use Rattle.lab_output.specs.Text.{head_text, rows_text, tail_from, text_so_far}
pub use Rattle.lab_play.specs.Ends.{EndsAt, EndsWith, IsNewRun, StopsAtEnd}
pub use Rattle.lab_play.specs.Order.{RowsFollowFrames, StopsInFrames, StopsInHeads, StopsInTail}
pub use Rattle.lab_play.specs.Played.{HasPlayedAsking, HasPlayedPart, sounds_of}
pub use Rattle.lab_play.specs.Playing.{AreWritten, GoesOn, GoesOnWriting, HasStopped, HasUnwrittenPhase, IsLabOf, IsPlaying, IsStopped, IsStoppedAt, Scene}
pub use Rattle.lab_play.specs.Playing.{scene, sounds_at, Start, StaysWritten, StopsAt, StopsWritingPhase, text_at, WritesPhase}
pub use Rattle.lab_play.specs.Stops.{HaveNoStops, IsWithinStops, rises}
