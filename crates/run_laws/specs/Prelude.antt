-- The names that most proofs of this crate cite, passed on from one place. Declares nothing.
pub use Rattle.std.proofs.Common.{ap, arith, inl, inr, length, List, mul-le-mul, None, Option, refl, Some, subst, sym, ℕ, [], ◌*◌, ◌++◌, ◌+◌, ◌-◌, ◌<◌, ◌∙◌}
pub use Rattle.std.proofs.Common.{◌∷◌, ◌≡◌, ◌≢◌, ◌≤◌, ◌⊎◌}
pub use Rattle.std.proofs.Math.ListN.{get_or-map}
pub use Rattle.std.proofs.Math.Nat.{le_trans, mul-mod_left}
pub use Rattle.std.proofs.lemmas.Bool.{eq-eqb, eqb-true, false_from_ne_true, false≢true}
pub use Rattle.std.proofs.lemmas.Bool.Decides.{nat_tests}
pub use Rattle.std.proofs.lemmas.Int.{int_max_is, int_min_is, ints}
pub use Rattle.std.proofs.lemmas.List.{append-nil, append_assoc, get_or-append_right, get_or-set_other, get_or-set_same, length-append, length-map, length-set}
pub use Rattle.std.proofs.lemmas.List.{map-append, set-append_right, take-append-drop}
pub use Rattle.std.proofs.lemmas.List.Concat.{flat_map-append}
pub use Rattle.std.proofs.lemmas.List.Elements.{All-append, All-cons, All-contains, All-filter, All-from_recursion, All-head, All-map, All-nil, All-push}
pub use Rattle.std.proofs.lemmas.List.Elements.{All-set, All-tail, filter-append, recursion_from_All}
pub use Rattle.std.proofs.lemmas.List.Folds.{flat_map-map}
pub use Rattle.std.proofs.lemmas.List.FromFn.{get_or-map-range_with_len, get_or-range_with_len, length-map-range_with_len, length-range_with_len}
pub use Rattle.std.proofs.lemmas.List.FromFn.{take-map-range_with_len}
pub use Rattle.std.proofs.lemmas.List.Sums.{sum_by-cons, sum_by-take-le}
pub use Rattle.std.proofs.lemmas.Nat.{div-mul-add, div_below, mod-mul-add}
pub use Rattle.std.proofs.lemmas.Option.{get_or_from_slice_get, IfSome_then, slice_get_within}
pub use Rattle.std.specs.List.{AllByRecursion, flat_map, range_with_len}
pub use Rattle.std.specs.Prelude.{All, Bool, cond, Contains, drop, Err, false, filter, IfOk, IfSome, if◌then◌else◌, is_some, map, max, min, nat_eq, nat_le}
pub use Rattle.std.specs.Prelude.{nat_lt, negsuc, not, Ok, pos, Result, slice_get, slice_index, slice_index_or, slice_set, suc, take, true, unwrap_or, zero, ℤ}
pub use Rattle.std.specs.Prelude.{⊤, ◌%◌, ◌&&◌, ◌+ℤ◌, ◌/◌, ◌==◌, ◌||◌}
pub use Rattle.snd_base.specs.declared.errors.PcmError.{PcmError}
pub use Rattle.snd_base.specs.declared.errors.XrunWhy.{XrunWhy}
pub use Rattle.snd_base.specs.declared.geometry.Geometry.{Geometry}
pub use Rattle.snd_base.specs.declared.places.Cursor.{Cursor}
pub use Rattle.snd_base.specs.declared.places.Segment.{Segment}
pub use Rattle.snd_base.specs.Places.{cursor_after, first_free}
pub use Rattle.bindings.specs.Bound.{AreBindings, identity}
unfoldable pub use Rattle.bindings.specs.Bound.{rising}
pub use Rattle.bindings.specs.RisingLaws.{AreBindings-identity, length-rising, rising_from-rises, rising_from-within}
pub use Rattle.pcm_states.specs.declared.calls.Call.{Call}
pub use Rattle.pcm_states.specs.declared.calls.Facts.{Facts}
pub use Rattle.pcm_states.specs.declared.states.State.{State}
pub use Rattle.pcm_states.specs.declared.states.State.TheVariants.{Disconnected, Draining, Paused, Prepared, Running, Xrun}
pub use Rattle.pcm_states.specs.Table.{call_row, Cell, next_of, to}
pub use Rattle.pcm_states.specs.TableLaws.{Cases, next_of-holds}
pub use Rattle.dshare.specs.Owners.{AreFree, claimed, ClaimRow, has_channel, IsFree, last_frames, owner_of, released}
pub use Rattle.lap_word.specs.Clamp.{clamp_of, IsSample}
pub use Rattle.pcm_stream.specs.declared.direction.Direction.TheVariants.{Capture, Playback}
pub use Rattle.pcm_stream.specs.declared.status.Status.{Status}
pub use Rattle.pcm_stream.specs.Status.{is_moving, nothing_found, refusal_in, refusal_of}
pub use Rattle.mix_core.specs.declared.marks.Marks.{Marks}
pub use Rattle.mix_core.specs.declared.port.Ended.{Ended}
pub use Rattle.mix_core.specs.declared.port.Entry.{Entry}
pub use Rattle.mix_core.specs.declared.port.Kind.TheVariants.{Added}
pub use Rattle.mix_core.specs.declared.port.Position.{Position}
pub use Rattle.mix_core.specs.HistoryLaws.{at-append, fold-from, total-append}
pub use Rattle.mix_core.specs.Laid.{an_add, at, is_at, marks_after, sum_of_samples, total, value_of}
pub use Rattle.mix_core.specs.Marks.{high_frame, last_before, later_of, start_marks, withdrawn_at}
pub use Rattle.snoop_core.specs.declared.port.Got.{Got}
pub use Rattle.course.specs.Course.{Course, ends, gets, lays, loads}
unfoldable pub use Rattle.course.specs.Course.{◌>>=◌}
pub use Rattle.course.specs.Gives.{Gives, Gives-any, Gives-behind, Gives-map, Gives-taken, Gives-then}
pub use Rattle.dmix_client.specs.declared.commit.Commit.{Commit}
pub use Rattle.dmix_client.specs.declared.stream.PlaybackStream.{PlaybackStream}
pub use Rattle.dmix_client.specs.declared.stream.Stretch.{Stretch}
pub use Rattle.dmix_client.specs.Calls.{accepted_if, after_drop, after_prepare, after_resume, after_start, after_sync, Answered, avail_answer, committed_by}
pub use Rattle.dmix_client.specs.Calls.{delay_answer, end_channel, end_of_commit, facts_of, found_at, going_on, going_on_by, in_draining, in_state, is_paused}
pub use Rattle.dmix_client.specs.Calls.{is_prepared, is_running, is_stop, late_at, late_of, pending_of, segment_of, start_count, start_frame, started_in}
pub use Rattle.dmix_client.specs.Calls.{stopped_in, sync_count, waiting_stretch, window_end, with_accepted, with_new_base, with_number, with_outcome}
pub use Rattle.dmix_client.specs.Calls.{written_after}
pub use Rattle.dmix_client.specs.Course.{admitted_by, commits, drain_on, drains, go_on, if_admitted, lay_frame, nothing, one_frame_more, one_more, pause_course}
pub use Rattle.dmix_client.specs.Course.{write_on}
unfoldable pub use Rattle.dmix_client.specs.Course.{lay_each, lay_frames, looks, resumes, syncs, takes_more}
pub use Rattle.dmix_client.specs.EachCall.{CallLeaves, checks-done, CountLeaves, drain-done, drop-done, IsStart, number-counted, pause-done, prepare-done}
pub use Rattle.dmix_client.specs.EachCall.{resume-done, rewind-counted, rewindable-counted, RewindLeaves, start-done, sync-done, write-counted, WriteLeaves}
pub use Rattle.dmix_client.specs.Expansion.{expand, frame_entries, sample_at}
pub use Rattle.dmix_client.specs.Port.{IsFrameStep}
pub use Rattle.dmix_client.specs.Rewind.{after_rewind, back_of, back_on, last_channel, last_laid, rewind_left, rewind_on, rewindable_of, taken_back}
pub use Rattle.dmix_client.specs.Rewind.{without_frames}
unfoldable pub use Rattle.dmix_client.specs.Rewind.{checks, take_each, take_frames, takes_back}
pub use Rattle.dmix_client.specs.View.{avail_of, ring_sample}
pub use Rattle.dmix_client.specs.Writes.{count_with, ring_with}
pub use Rattle.dsnoop_client.specs.declared.stream.CaptureStream.{CaptureStream}
pub use Rattle.dsnoop_client.specs.Calls.{facts_with, over_of, read_after, seen_at, taken_of, waits, with_answer, with_avail}
pub use Rattle.dsnoop_client.specs.Course.{get_on, read_course, transfer_on}
unfoldable pub use Rattle.dsnoop_client.specs.Course.{counts, gets_frames, reads_first, reads_on, starts, transfers}
pub use Rattle.wav_io.specs.Sound.{Sound}
pub use Rattle.lab_lines.specs.declared.line.Actor.{Actor}
pub use Rattle.lab_lines.specs.declared.line.Actor.TheVariants.{Card}
pub use Rattle.lab_lines.specs.declared.line.Item.{Item}
pub use Rattle.lab_lines.specs.declared.line.Line.{Line}
pub use Rattle.lab_lines.specs.declared.line.Op.{Op}
pub use Rattle.lab_lines.specs.declared.report.Report.{Report}
pub use Rattle.lab_lines.specs.declared.request.Request.{Request}
pub use Rattle.lab_lines.specs.declared.row.Answer.{Answer}
pub use Rattle.lab_lines.specs.declared.row.Answer.TheVariants.{Count, Done, Failed}
pub use Rattle.lab_lines.specs.declared.row.Row.{Row}
pub use Rattle.lab_lines.specs.declared.script.CardLine.{CardLine}
pub use Rattle.lab_lines.specs.declared.script.ClientLine.{ClientLine}
pub use Rattle.lab_lines.specs.declared.script.ReaderLine.{ReaderLine}
pub use Rattle.lab_lines.specs.declared.script.Script.{Script}
pub use Rattle.lab_lines.specs.declared.script.Share.TheVariants.{Dshare}
pub use Rattle.lab_lines.specs.Limits.{IsActor, IsBorder, IsBoundWhere, IsCardLine, IsClientLine, IsItem, IsPhase, IsReaderLine, IsScript}
pub use Rattle.lab_lines.specs.Rows.{request_of_row}
pub use Rattle.lab_lines.specs.Script.{first_frame, frames_played, is_of_card, phases_of, played_by, unplugs}
pub use Rattle.lab_report.specs.Requests.{in_order, item_requests, of_place, place_of_actor, request_of, requests_from}
unfoldable pub use Rattle.lab_report.specs.Requests.{before_place}
pub use Rattle.lab_report.specs.Text.{HasErrorText, HasStateText, HasText, IsRowOf, IsRunOf, IsTailOf}
pub use Rattle.lab_run.specs.Claims.{claim_refusal, ClaimIsOwners, with_claim, with_release}
pub use Rattle.lab_run.specs.Client.{after_call, begins, call_answer, call_of, Client, client_kind, count_answer, done_answer, ended_by, frames_of, line_by}
pub use Rattle.lab_run.specs.Client.{line_if, present_of, reported_error, row_by, segments_of, stretch_of}
pub use Rattle.lab_run.specs.Items.{card_end, client_kinds, clients_text, Held, held_after, held_of, held_without, is_reader_stopped, is_stopped, item_text}
pub use Rattle.lab_run.specs.Items.{ItemMay, items_text, ItemsMay, no_sound, phase_end, phase_text, PhaseMay, reader_kinds, readers_text, reaped_client}
pub use Rattle.lab_run.specs.Items.{reaped_client_if, reaped_one, reaped_reader, reaped_reader_if, rules_of}
pub use Rattle.lab_run.specs.LabRun.{all_runs, all_segments, AreWithin, bindings_of, CanGoOn, captured_sample, entries_by, entries_of, IsOneRun, joined_runs}
pub use Rattle.lab_run.specs.LabRun.{lab_text, LabRun, mixed_at, Outcome, outcome_of, report_of, runs_of, with_numbers}
pub use Rattle.lab_run.specs.Lines.{each_text, EachMay, Kind, line_text, LineMay, lines_text, LinesMay}
pub use Rattle.lab_run.specs.Openings.{AreClientOpenings, AreReaderOpenings, IsClientSetup, IsReaderOpening, IsSessionOf, read_by}
pub use Rattle.lab_run.specs.OwnRows.{Alone, alone_at, alone_by, answers_of, AreAlone, client_alone, client_part, close_alone, Given, given_client}
pub use Rattle.lab_run.specs.OwnRows.{given_reader, HasLines, HaveLines, is_opening, IsClientAlone, IsReaderAlone, NoneOpen, open_alone, own_close, own_item}
pub use Rattle.lab_run.specs.OwnRows.{own_items, own_open, OwnItem, phase_alone, reaped_by, rows_by, runs_by, segments_by}
pub use Rattle.lab_run.specs.Phases.{AreUnmixed, card_row, card_rows, is_client, is_reader, on_the_way, ops_by, phase_positions, played_at, played_in}
pub use Rattle.lab_run.specs.Phases.{published_by}
pub use Rattle.lab_run.specs.Places.{after_attach, Lobby}
pub use Rattle.lab_run.specs.Reader.{frames_by, Reader, reader_kind}
pub use Rattle.lab_run.specs.Rules.{AtPort, CardEnd, May, MayGet, MayLay, MayLoad, Rules, with_stop}
pub use Rattle.lab_run.specs.ScriptWords.{IsReached}
pub use Rattle.lab_run.specs.Stage.{after_close, after_open, attached_client, claimed_client, claims_without, client_at, close_client, close_reader}
pub use Rattle.lab_run.specs.Stage.{ended_client, ended_reader, first_stage, no_client, no_reader, open_client, open_client_with, open_reader, open_reader_with}
pub use Rattle.lab_run.specs.Stage.{opened_client, opened_reader, reader_at, renewed_port, Session, Setup, Stage, stage_row, with_row}
pub use Rattle.lab_run.specs.Stretches.{AreSlices, ends_by_row, goes_on_after, got_by, IsFirstOf, ReadersReadInSlices, ReadsInSlices}
pub use Rattle.lab_run.proofs.ActorKinds.{client-IsKind, IsKind, reader-IsKind}
pub use Rattle.lab_run.proofs.BorderLaws.{AtBorder, Border, close-by, closes-to, IsAnew, IsRefusal, IsStateOf, items-over, open-by, opens-to, OverItems}
pub use Rattle.lab_run.proofs.CallParts.{call_of-says, done_answer-says, empty-still, gives-so, GivesSo, if_admitted-says, is_new_stretch, IsSaying, Parts}
pub use Rattle.lab_run.proofs.CallParts.{running-moves, running-transfers, start-unprepared, step-moves}
pub use Rattle.lab_run.proofs.EachLine.{client-line, client_line-gives, open_client-line, open_reader-line, reader-line, reader_line-gives}
pub use Rattle.lab_run.proofs.RowsGrow.{HasMore, items-more}
pub use Rattle.run_laws.specs.Captured.{AreCapturedRuns, AreRisingFrames, ReadersCapture}
pub use Rattle.run_laws.specs.Growth.{AreGrown, BordersKeepFrames, frames_of_readers, IsGrownReader, recorded_from-at, recorded_from-size, StagesGrow}
pub use Rattle.run_laws.specs.Late.{IsLate, IsLineOf, IsRowOfLine, LateLinesMiss, LateRowsMiss, ListsSegments, placed_now, RowMisses, RowNamesLast}
pub use Rattle.run_laws.specs.Late.{SaysWhereLate}
pub use Rattle.run_laws.specs.LateRows.{is_rewind, IsLastSample, IsNextSample, LateRewindsNameLast, LateRowsNameNext, NamesLast, NamesNext}
pub use Rattle.run_laws.specs.Mix.{IsMixOf, placed_entries}
pub use Rattle.run_laws.specs.OneSample.{AreBound, AreSamples, HasOneSample, only_of, PlaysOneSample}
pub use Rattle.run_laws.specs.Recordings.{AreRecordingsOf, bindings_at, frames_in_runs, frames_of_runs, IsRecordingOf, ReadersAreBound, recording_of}
pub use Rattle.run_laws.specs.Recordings.{UnopenedHaveNoRuns}
pub use Rattle.run_laws.specs.Reports.{IsOutcomeOf, OutcomesAreOfScripts, StagesAreReported}
pub use Rattle.run_laws.specs.Shares.{channels_of_client, HaveOwnChannels}
