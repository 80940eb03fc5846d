-- The names that most proofs of this crate cite, passed on from one place. Declares nothing.
pub use Rattle.std.proofs.Common.{add-one, ap, arith, cond, drop, drop-cons, Err, false, get_or, inl, inr, length, length-drop, length-take, List, map, refl}
pub use Rattle.std.proofs.Common.{subst, suc, sym, take, true, ℕ, [], ◌%◌, ◌*◌, ◌+◌, ◌-◌, ◌<◌, ◌∙◌, ◌∷◌, ◌≡◌, ◌≤◌, ◌⊎◌}
pub use Rattle.std.proofs.lemmas.Bool.Decides.{nat_tests}
pub use Rattle.std.proofs.lemmas.List.{drop_all, take_all}
pub use Rattle.std.proofs.lemmas.Option.{get_or_from_slice_get, slice_get_read, slice_get_within}
pub use Rattle.std.proofs.lemmas.Slice.Eq.{bytes_eq-Decides}
pub use Rattle.std.specs.Bool.{Decides, one_answer}
pub use Rattle.std.specs.Option.{ForSome, option_map}
pub use Rattle.std.specs.Prelude.{All, Bool, IfOk, min, None, Ok, OnOk, Option, Result, slice_get, slice_index_or, Some, unwrap_or, ℤ, ◌&&◌, ◌↔◌}
pub use Rattle.std.specs.Str.{bytes_eq}
pub use Rattle.wav_io.specs.Canonical.{canonical}
pub use Rattle.wav_io.specs.Sound.{Sound}
pub use Rattle.lab_shelf.specs.Files.{bytes_under, Files}
pub use Rattle.lab_lines.specs.declared.report.Report.{Report}
pub use Rattle.lab_lines.specs.declared.script.CardLine.{CardLine}
pub use Rattle.lab_lines.specs.declared.script.ReaderLine.{ReaderLine}
pub use Rattle.lab_lines.specs.declared.script.Script.{Script}
pub use Rattle.lab_check.specs.Checked.{IsChecked, recorded_sounds, run_sounds}
pub use Rattle.lab_check.specs.Defects.{HasTestedRuns, HasTestedSegments, most_of_report, tested, tested_report}
pub use Rattle.lab_check.specs.Lines.{line_of_end, line_of_played}
pub use Rattle.lab_check.specs.Samples.{played_samples, reader_samples, readers_samples, run_samples}
pub use Rattle.lab_stop.specs.Causes.{bytes_or_cause, Cause, fetched_from, first_bytes, ◌>>=◌}
pub use Rattle.lab_stop.specs.Effects.{IsSameShelf}
pub use Rattle.lab_stop.specs.ReadLaws.{AnswersFrom-last, AnswersFrom-memory, AnswersFrom-passed, IsSameShelf-reads, IsSameShelf-same, IsSameShelf-then}
pub use Rattle.lab_stop.specs.ReadLaws.{OnlyReads-after, OnlyReads-done, OnlyReads-memory, OnlyReads-passed}
pub use Rattle.lab_stop.specs.Stops.{AnswersOrStops, Misses, TestFaults}
pub use Rattle.lab_stop.specs.TestLaws.{IsSameShelf-tests, OnlyTests-after, OnlyTests-done, OnlyTests-memory, OnlyTests-passed, OnlyTests-reads}
pub use Rattle.lab_input.specs.Input.{input_in, RunInput}
pub use Rattle.lab_input.specs.Read.{input_of}
pub use Rattle.lab_output.specs.declared.file.OutputFile.{OutputFile}
pub use Rattle.lab_output.specs.FileLaws.{IsOutputFile-played, IsOutputFile-recorded, length-canonical}
pub use Rattle.lab_output.specs.Files.{finished_file, IsOutputFile, output_files, played_file, reader_channels, recorded_file, sound_of}
pub use Rattle.lab_compare.specs.Checking.{as_tested, HoldsRun, IsCheckedRun, IsReportIn, passed, same_or_line}
unfoldable pub use Rattle.lab_compare.specs.Checking.{check_in, is_same_in, outputs_in, played_in, recording_in, recordings_in, same_in, tested_in}
