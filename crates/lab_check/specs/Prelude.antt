-- The names that most proofs of this crate cite, passed on from one place. Declares nothing.
pub use Rattle.std.proofs.Common.{ap, append_assoc, arith, codes, div-add-mod', drop, FitsSigned, get_or, inl, inr, leb, length, length-drop, length-set}
pub use Rattle.std.proofs.Common.{length-take, List, mul-le-mul, None, of_z, Option, refl, rules, set, Some, subst, sym, take, tests, to_z, w16, ℕ, [], ◌%◌}
pub use Rattle.std.proofs.Common.{◌*◌, ◌++◌, ◌+◌, ◌-◌, ◌/◌, ◌<◌, ◌==◌, ◌^◌, ◌∙◌, ◌∷◌, ◌≡◌, ◌≢◌, ◌≤◌, ◌⊎◌}
pub use Rattle.std.proofs.Math.Bool.{and-false, or-false, or_assoc}
pub use Rattle.std.proofs.Math.Nat.{div-add-mod, div-lt_iff_lt-mul, div-mul-le_self, mod-lt}
pub use Rattle.std.proofs.Math.Seq.{drop-append-add, drop-nil, take-add, take-append-add}
pub use Rattle.std.proofs.lemmas.Bool.{and_from, and_parts, cases_eq, cases_lt, eq-eqb, eqb-false, eqb-true, le-leb, le-ltb, leb-true, ltb-true, not-true}
pub use Rattle.std.proofs.lemmas.Bool.Decides.{nat_tests}
pub use Rattle.std.proofs.lemmas.Grind.{flat_map-append}
pub use Rattle.std.proofs.lemmas.Int.{int_wrap-add_same, int_wrap_fits, ints, SFits-int_wrap, to_z-of_z, wrapping_add_is}
pub use Rattle.std.proofs.lemmas.List.{append-nil, append_cancel_left, drop-append-le, drop-take, drop_all, drop_min, drop_more, ext_get_or, get_or-replicate}
pub use Rattle.std.proofs.lemmas.List.{get_or-set_other, get_or-set_same, get_or-take, length-append, length-map, length-replicate, map-append, same_lists}
pub use Rattle.std.proofs.lemmas.List.{take-append-drop, take-append-le, take-take, take_all, take_min, take_more}
pub use Rattle.std.proofs.lemmas.List.Elements.{All-from_recursion, All-get_or, All-more, recursion_from_All}
pub use Rattle.std.proofs.lemmas.List.Folds.{list_any-append, list_any_more, list_any_none}
pub use Rattle.std.proofs.lemmas.List.FromFn.{get_or-map-range_with_len, get_or-range_with_len, length-map-range_with_len, length-range_with_len}
pub use Rattle.std.proofs.lemmas.List.FromFn.{map-range_with_len_more}
pub use Rattle.std.proofs.lemmas.List.Sorted.{IsNonDecreasingBy-from_sort_by_key, IsPartitionedBy-leb, IsPartitionPoint-from_clause, list_any-IsPermutation}
pub use Rattle.std.proofs.lemmas.List.Sums.{prefix_len_is, prefix_len_passes}
pub use Rattle.std.proofs.lemmas.Nat.{div-mul-add, mod-mul-add}
pub use Rattle.std.proofs.lemmas.Option.{get_or_from_slice_get, slice_get_cases, slice_get_past, slice_get_within}
pub use Rattle.std.proofs.lemmas.Result.{IfOk-weaker}
pub use Rattle.std.specs.Global.{Vec}
pub use Rattle.std.specs.Int.{int_wrap, w64}
pub use Rattle.std.specs.List.{AllByRecursion, flat_map, list_any, position, prefix_len, range_with_len}
pub use Rattle.std.specs.Option.{option_copied}
pub use Rattle.std.specs.Prelude.{All, Bool, cond, Err, false, filter, fold, IfOk, if◌then◌else◌, map, max, min, nat_eq, nat_le, nat_lt, negsuc, not, Ok}
pub use Rattle.std.specs.Prelude.{option_map, pos, replicate, Result, slice_get, slice_index, slice_index_or, suc, sum_by, true, zero, ℤ, ◌&&◌, ◌+ℤ◌, ◌||◌}
pub use Rattle.std.specs.Prelude.{◌≤ℤ◌}
pub use Rattle.snd_base.specs.declared.places.Segment.{Segment}
pub use Rattle.bindings.specs.Bound.{identity, rising}
pub use Rattle.bindings.specs.RisingLaws.{length-rising}
pub use Rattle.lap_word.specs.Clamp.{clamp_of, IsSample}
pub use Rattle.mix_core.specs.declared.port.Entry.{Entry}
pub use Rattle.mix_core.specs.declared.port.Kind.TheVariants.{Added}
pub use Rattle.mix_core.specs.HistoryLaws.{fold-from, total-append}
pub use Rattle.mix_core.specs.Laid.{at, count, is_at, sum_of_samples, total, value_of}
pub use Rattle.dmix_client.specs.Expansion.{expand, frame_entries, sample_at}
pub use Rattle.dmix_client.specs.ExpansionLaws.{range_with_len-append}
pub use Rattle.wav_io.specs.Canonical.{canonical, sample_bytes}
pub use Rattle.wav_io.specs.Sound.{Sound}
pub use Rattle.lab_lines.specs.declared.report.Report.{Report}
pub use Rattle.lab_lines.specs.declared.row.Row.{Row}
pub use Rattle.lab_lines.specs.declared.script.CardLine.{CardLine}
pub use Rattle.lab_lines.specs.declared.script.ClientLine.{ClientLine}
pub use Rattle.lab_lines.specs.declared.script.ReaderLine.{ReaderLine}
pub use Rattle.lab_lines.specs.declared.script.Script.{Script}
pub use Rattle.lab_lines.specs.Limits.{IsBoundWhere, IsClientLine, IsReaderLine, IsScript}
pub use Rattle.lab_lines.specs.Script.{first_frame, frames_played, phases_of, played_by}
pub use Rattle.lab_report.specs.Reading.{report_in_text}
pub use Rattle.lab_report.specs.Text.{answer_text, client_name, front_text, number_or_dash, played_line, reader_name, report_text, row_line, run_line}
pub use Rattle.lab_report.specs.Text.{segment_line, tail_text}
pub use Rattle.lab_run.specs.LabRun.{captured_sample, LabRun, mixed_at, Outcome}
pub use Rattle.lab_run.specs.Openings.{bound_by, IsSessionOf, read_by}
pub use Rattle.lab_run.specs.OwnRows.{rows_by, runs_by, segments_by}
pub use Rattle.lab_run.specs.Phases.{is_reader}
pub use Rattle.lab_run.specs.Stretches.{AreSlices, ends_by_row, goes_on_after, got_by, IsFirstOf}
pub use Rattle.run_laws.specs.Captured.{AreCapturedRuns}
pub use Rattle.run_laws.specs.Files.{file_samples, IsMixOfFiles, placed_from}
pub use Rattle.run_laws.specs.OneSample.{AreSamples}
pub use Rattle.run_laws.specs.Recordings.{bindings_at, frames_in_runs, frames_of_runs, recording_of, UnopenedHaveNoRuns}
pub use Rattle.lab_check.specs.declared.spans.FrameSpan.{FrameSpan}
pub use Rattle.lab_check.specs.Checked.{IsChecked, run_sounds}
pub use Rattle.lab_check.specs.Covering.{last_on, reaches_channel, reaches_frame}
pub use Rattle.lab_check.specs.Defects.{HasTestedRuns, HasTestedSegments, most_of_report, played_defect, report_defect, report_or_line, row_defect}
pub use Rattle.lab_check.specs.Defects.{segment_defect, tested, tested_report}
pub use Rattle.lab_check.specs.Late.{covers, entries_of_segment, has_sample, is_covered, is_right_place, is_right_row, late_place}
pub use Rattle.lab_check.specs.Lines.{first_row_line, first_run_line, first_segment_line, line_of_end, line_of_played}
pub use Rattle.lab_check.specs.Reads.{after_row, end_defect, first_defect, is_next, is_run_within, lined_runs, on_row, reader_defect, readers_defect, reads_end}
pub use Rattle.lab_check.specs.Reads.{run_defect, runs_with_lines, runs_without, taken_by, Unread}
pub use Rattle.lab_check.specs.Recordings.{recordings_of, unlined_runs}
pub use Rattle.lab_check.specs.Samples.{captured_by, captured_runs, played_samples, reader_samples, readers_samples, run_samples}
pub use Rattle.lab_check.specs.Segments.{frames_taken, is_bound, is_right_segment, is_segment_of, is_within}
pub use Rattle.lab_check.specs.Shown.{IsCapturedRun, IsShown, SaysHeadline, ShowsLate, ShowsReader}
pub use Rattle.lab_check.specs.Spans.{AreIndexes, greatest_ends, has_client_sample, is_in_index, is_in_some, is_in_span}
pub use Rattle.lab_check.specs.Sums.{entries_of_segments, IsSummed, TotalsFit}
pub use Rattle.lab_check.specs.Unread.{RunsFit, unread_of, with_head}
