-- The names that most proofs of this crate cite, passed on from one place. Declares nothing.
pub use Rattle.std.proofs.Common.{add-one, ap, append_assoc, arith, Bool, bytes_eq, codes, cond, drop, Err, false, get_or, if◌then◌else◌, inl, inr, length}
pub use Rattle.std.proofs.Common.{length-append, List, map, None, not, Ok, one-add, Option, option_map, refl, Result, rules, slice_index_or, slice_set, Some}
pub use Rattle.std.proofs.Common.{string_bytes, subst, suc, sym, take, true, zero, ℕ, [], ◌&&◌, ◌++◌, ◌+◌, ◌-◌, ◌<◌, ◌==◌, ◌^◌, ◌∙◌, ◌∷◌, ◌≡◌, ◌≢◌, ◌≤◌}
pub use Rattle.std.proofs.lemmas.Bool.{and_from, and_parts, cases_eq, eq-eqb, false≢true, lt-ltb, ne_eqb, not-true}
pub use Rattle.std.proofs.lemmas.Bool.Decides.{nat_tests, same_from_decides}
pub use Rattle.std.proofs.lemmas.Fmt.{digits_decimal}
pub use Rattle.std.proofs.lemmas.List.{append-nil, drop_all, get_or-set_other, get_or-set_same, get_or_default, length-map, map-append, take-append-drop}
pub use Rattle.std.proofs.lemmas.List.{take_all}
pub use Rattle.std.proofs.lemmas.List.Elements.{All-append, All-cons, All-filter, All-map, All-more, All-nil, All-push, filter_more, recursion_from_All}
pub use Rattle.std.proofs.lemmas.List.Splits.{join_with_byte-slice_split, length-slice_split, slice_split-cons_no, slice_split-cons_yes}
pub use Rattle.std.proofs.lemmas.Option.{get_or_from_slice_get, slice_get-get_or, slice_get_past}
pub use Rattle.std.proofs.lemmas.Result.{IfOk-weaker, on_ok_weaker}
pub use Rattle.std.proofs.lemmas.Slice.Eq.{bytes_eq-Decides}
pub use Rattle.std.specs.Fmt.{decimal}
pub use Rattle.std.specs.List.{All, AllByRecursion, AllPairs, flat_map, join_with_byte, list_all, position, position_or_len, slice_get, slice_split}
pub use Rattle.std.specs.Option.{option_map_or}
pub use Rattle.snd_base.specs.declared.errors.PcmError.TheVariants.{BadState, Busy, Invalid, LapEnd, Memory, Xrun}
pub use Rattle.snd_base.specs.declared.errors.XrunWhy.{XrunWhy}
pub use Rattle.snd_base.specs.declared.errors.XrunWhy.TheVariants.{Already, Avail, Empty, Late, Overtaken}
pub use Rattle.snd_base.specs.declared.places.Segment.{Segment}
pub use Rattle.pcm_states.specs.declared.states.State.{State}
pub use Rattle.pcm_states.specs.States.{state_name}
pub use Rattle.text_words.specs.Table.{row_of}
pub use Rattle.text_words.specs.Word.{decimal_of, is_feed, is_space}
pub use Rattle.text_words.proofs.Cuts.{position_end, position_place, split_at, split_none, take-drop}
pub use Rattle.text_words.proofs.Decimals.{decimal_of-decimal, decimal_of-is}
pub use Rattle.text_words.proofs.Digits.{all_digits, own}
pub use Rattle.text_words.proofs.Tests.{weaker}
pub use Rattle.lab_lines.specs.declared.line.Line.{Line}
pub use Rattle.lab_lines.specs.declared.report.Report.{Report}
pub use Rattle.lab_lines.specs.declared.request.Request.{Request}
pub use Rattle.lab_lines.specs.declared.row.Answer.{Answer}
pub use Rattle.lab_lines.specs.declared.row.Answer.TheVariants.{Count, Failed}
pub use Rattle.lab_lines.specs.declared.row.Row.{Row}
pub use Rattle.lab_lines.specs.declared.script.ClientLine.{ClientLine}
pub use Rattle.lab_lines.specs.declared.script.ReaderLine.{ReaderLine}
pub use Rattle.lab_lines.specs.declared.script.Script.{Script}
pub use Rattle.lab_lines.specs.Limits.{IsActor, IsItem, IsScript}
pub use Rattle.lab_lines.specs.Rows.{request_of_row}
pub use Rattle.lab_lines.specs.Script.{phases_of}
pub use Rattle.lab_script.proofs.Ranges.{ok_to}
pub use Rattle.lab_report.specs.declared.error.ReportError.{ReportError}
pub use Rattle.lab_report.specs.declared.error.ReportWhy.{ReportWhy}
pub use Rattle.lab_report.specs.Answers.{answer_at, answer_by, busy_of, count_and_rest, frame_and_channel, longer_answer, plain_answers, state_at, states}
pub use Rattle.lab_report.specs.Answers.{xrun_by, xrun_of}
pub use Rattle.lab_report.specs.Causes.{some_or, ◌>>=◌}
pub use Rattle.lab_report.specs.Ranges.{IsAnswerInRange, IsOpInRange, IsReportInRange, IsRowInRange, IsRunInRange, IsSegmentInRange, IsWide, IsWideWhere}
pub use Rattle.lab_report.specs.Ranges.{IsXrunInRange}
pub use Rattle.lab_report.specs.Reading.{Answers, client_and_rest, lines_after, next_line, nothing, on_line, reader_and_rest, report_in_text, tail_by}
pub use Rattle.lab_report.specs.Reading.{version_of, view, with_line, with_played, with_run, with_segment}
unfoldable pub use Rattle.lab_report.specs.Reading.{played_run, row_after_front, row_of_line, run_at, segment_at, segment_end}
pub use Rattle.lab_report.specs.Requests.{AddsRequest, AreSorted, in_order, item_requests, of_place, place_of_actor, request_of, requests_from, requests_of}
unfoldable pub use Rattle.lab_report.specs.Requests.{before_place}
pub use Rattle.lab_report.specs.Text.{actor_name, answer_text, client_name, error_front, error_rest, error_text, front_text, HasStateText, HasText, HasXrunText}
pub use Rattle.lab_report.specs.Text.{IsReportOf, IsRowOf, IsRunOf, IsSegmentOf, IsTailOf, number_or_dash, played_line, reader_name, report_text, row_line}
pub use Rattle.lab_report.specs.Text.{run_line, segment_line, tail_text, xrun_text}
pub use Rattle.lab_report.specs.Words.{dash_or_number, expect_word, expect_words, feed_of, front_word, is_end, lines_of, most_frames, next_number, not_word}
pub use Rattle.lab_report.specs.Words.{number_at, number_or_dash_at, onto_first, space_of}
